-- What was found among the seats so far.
use Rattle.std.proofs.Common.{◌≡◌, ◌≤◌, ◌<◌, ℕ, MatchOption}
use Rattle.nfs_pace.specs.Places.{seat_at, used_at, crowd_of}
use Rattle.nfs_pace.proofs.places.Places.most.Given as goal

abbrev pub invariant-loop-j : goal.invariant-loop-j
invariant-loop-j l = record {
  some : l.base ≤ l.most;
  most : (i : ℕ) → i < l.j → crowd_of l.self.seats (seat_at l.self.seats i) ≤ l.most;
  least : (i : ℕ) → i < l.j → crowd_of l.self.seats (seat_at l.self.seats i) ≡ l.most → l.base < l.most → l.least ≤ used_at (seat_at l.self.seats i);
  found : MatchOption l.found (l.most ≡ l.base)
      (λ j. (j < l.j) × (l.base < l.most) × (crowd_of l.self.seats (seat_at l.self.seats j) ≡ l.most) × (used_at (seat_at l.self.seats j) ≡ l.least));
}
