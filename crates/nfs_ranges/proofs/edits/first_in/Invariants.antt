use Rattle.std.proofs.Common.{◌≡◌, drop}
use Rattle.std.specs.Prelude.{find}
use Rattle.nfs_ranges.specs.{Clashes.hits, Blocks.flat}
use Rattle.nfs_ranges.proofs.edits.first_in.Given as goal

abbrev pub invariant-loop-b : goal.invariant-loop-b
invariant-loop-b l = find (hits l.kind l.first l.last) (flat (drop l.b-index l.blocks)) ≡ find (hits l.kind l.first l.last) (flat l.blocks)
