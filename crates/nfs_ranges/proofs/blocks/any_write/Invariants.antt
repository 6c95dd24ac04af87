use Rattle.std.proofs.Common.{◌≡◌, drop}
use Rattle.nfs_ranges.specs.Clashes.{has_write}
use Rattle.nfs_ranges.proofs.blocks.any_write.Given as goal

abbrev pub invariant-loop-x : goal.invariant-loop-x
invariant-loop-x l = has_write (drop l.x-index l.intervals) ≡ has_write l.intervals
