use Rattle.std.proofs.Common.{◌≡◌, map, drop}
use Rattle.std.specs.Int.{w32, from_be_bytes}
use Rattle.nfs_results.specs.Items as table
use Rattle.nfs_results.proofs.item_reading.are_statuses.Given as goal

-- those that are left decide
abbrev pub invariant-loop-number : goal.invariant-loop-number
invariant-loop-number l = table.are_statuses (map (from_be_bytes w32) (drop l.number-index l.spelled)) ≡ table.are_statuses (map (from_be_bytes w32) l.spelled)
