use Rattle.std.proofs.Common.{◌-◌, ◌^◌}
use Rattle.nfs_ranges.specs.{declared.Held.Held, Listing.{Has, IsApart}}
use Rattle.nfs_ranges.proofs.listed.unlist.Given as goal

abbrev pub invariant-loop-x : goal.invariant-loop-x
invariant-loop-x l = ((h : Held) → IsApart l.part h → Has l.initial.listings.reads h → Has l.listings.reads h)
    × ((h : Held) → IsApart l.part h → Has l.initial.listings.writes h → Has l.listings.writes h)

abbrev pub decreases-loop-x : goal.decreases-loop-x
decreases-loop-x l = 2 ^ 64 - l.from
