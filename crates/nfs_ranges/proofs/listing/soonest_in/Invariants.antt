use Rattle.std.proofs.Common.{◌-◌, length}
use Rattle.std.specs.{Prelude.{All}, List.{AllWithin}}
use Rattle.nfs_ranges.specs.{declared.Held.Held, Listing.{Yields}}
use Rattle.nfs_ranges.proofs.listing.soonest_in.Given as goal

abbrev pub invariant-loop-at : goal.invariant-loop-at
invariant-loop-at l = AllWithin (All (Yields l.wish l.told)) l.blocks 0 l.at × ((h : Held) → Yields l.wish l.fn.best h → Yields l.wish l.told h)

abbrev pub decreases-loop-at : goal.decreases-loop-at
decreases-loop-at l = length l.blocks - l.at
