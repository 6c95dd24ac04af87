use Rattle.std.proofs.Common.{◌≡◌, None, drop}
use Rattle.nfs_ranges.specs.{Clashes.tell, Blocks.flat}
use Rattle.nfs_ranges.proofs.groups.first_clash.Given as goal

abbrev pub invariant-loop-g : goal.invariant-loop-g
invariant-loop-g l = tell l.number l.kind l.first l.last l.best (flat (drop l.g-index l.groups)) ≡ tell l.number l.kind l.first l.last None (flat l.groups)
