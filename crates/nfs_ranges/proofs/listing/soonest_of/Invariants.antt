use Rattle.std.proofs.Common.{take}
use Rattle.std.specs.Prelude.{All}
use Rattle.nfs_ranges.specs.{declared.Held.Held, Listing.{Yields}}
use Rattle.nfs_ranges.proofs.listing.soonest_of.Given as goal

abbrev pub invariant-loop-held : goal.invariant-loop-held
invariant-loop-held l = All (Yields l.wish l.told) (take l.held-index l.locks) × ((h : Held) → Yields l.wish l.fn.best h → Yields l.wish l.told h)
