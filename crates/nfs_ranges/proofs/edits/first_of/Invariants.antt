use Rattle.std.proofs.Common.{◌≡◌, drop}
use Rattle.std.specs.Prelude.{find}
use Rattle.nfs_ranges.specs.Clashes.{hits}
use Rattle.nfs_ranges.proofs.edits.first_of.Given as goal

abbrev pub invariant-loop-x : goal.invariant-loop-x
invariant-loop-x l = find (hits l.kind l.first l.last) (drop l.x-index l.intervals) ≡ find (hits l.kind l.first l.last) l.intervals
