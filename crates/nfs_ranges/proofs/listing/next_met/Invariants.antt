use Rattle.std.proofs.Common.{◌≡◌, ◌-◌, ◌≤◌, false, length}
use Rattle.std.specs.{Prelude.{All}, List.{AllWithin}}
use Rattle.nfs_ranges.specs.Listing.{stands_against}
use Rattle.nfs_ranges.proofs.listing.next_met.Given as goal

abbrev pub invariant-loop-at : goal.invariant-loop-at
invariant-loop-at l = (l.from ≤ l.at) × (l.at ≤ length l.blocks) × AllWithin (All (λ h. stands_against l.wish h ≡ false)) l.blocks l.from l.at

abbrev pub decreases-loop-at : goal.decreases-loop-at
decreases-loop-at l = length l.blocks - l.at
