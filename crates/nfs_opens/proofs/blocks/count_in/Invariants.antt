-- The blocks so far are counted.
use Rattle.std.proofs.Common.{◌≡◌, take, length}
use Rattle.std.specs.Prelude.{min}
use Rattle.nfs_ranges.specs.Blocks.{flat}
use Rattle.nfs_opens.specs.StateId.{last_number}
use Rattle.nfs_opens.proofs.blocks.count_in.Given as goal

abbrev pub invariant-loop-place : goal.invariant-loop-place
invariant-loop-place g l = l.count ≡ min (length (flat (take l.place l.blocks))) last_number
