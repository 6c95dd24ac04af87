use Rattle.std.proofs.Common.{take}
use Rattle.std.specs.Prelude.{All}
use Rattle.nfs_ranges.specs.Listing.{IsReached}
use Rattle.nfs_ranges.proofs.listing.reach_of.Given as goal

abbrev pub invariant-loop-held : goal.invariant-loop-held
invariant-loop-held l = All (IsReached l.reach) (take l.held-index l.locks)
