use Rattle.std.proofs.Common.{◌≡◌, ℕ, ◌-◌, ◌^◌, ◌<◌, ◌≤◌, Some}
use Rattle.nfs_ranges.specs.{declared.Held.Held, declared.interval.Interval.Interval, Holders.bytes_of, Blocks.flat, Clashes.held_by, Listing.{Has, side, interval_at}}
use Rattle.nfs_ranges.proofs.listed.relist.Given as goal

abbrev pub invariant-loop-x : goal.invariant-loop-x
invariant-loop-x l = ((b : ℕ) (x : Interval) → l.part.first ≤ b → b < l.from → Some x ≡ interval_at (bytes_of (flat l.groups) l.part.owner) b →
    Has (side x.kind l.listings.reads l.listings.writes) (held_by l.part.owner x))
    × ((h : Held) → Has l.initial.listings.reads h → Has l.listings.reads h)
    × ((h : Held) → Has l.initial.listings.writes h → Has l.listings.writes h)

abbrev pub decreases-loop-x : goal.decreases-loop-x
decreases-loop-x l = 2 ^ 64 - l.from
