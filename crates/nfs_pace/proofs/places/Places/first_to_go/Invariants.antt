-- What was found among the ports so far.
use Rattle.std.proofs.Common.{◌≡◌, ◌≤◌, ◌<◌, ℕ, MatchOption}
use Rattle.nfs_pace.specs.Places.{guest_at, stood, crowd}
use Rattle.nfs_pace.proofs.places.Places.first_to_go.Given as goal

abbrev pub invariant-loop-port : goal.invariant-loop-port
invariant-loop-port l = record {
  some : l.base ≤ l.most;
  most : (p : ℕ) → p < l.port → crowd l.self l.strangers l.address l.now l.sweep p ≤ l.most;
  longest : (p : ℕ) → p < l.port → crowd l.self l.strangers l.address l.now l.sweep p ≡ l.most → l.base < l.most
      → stood l.now (guest_at l.self.guests p) ≤ l.longest;
  found : MatchOption l.found (l.most ≡ l.base)
      (λ port. (port < l.port) × (l.base < l.most) × (crowd l.self l.strangers l.address l.now l.sweep port ≡ l.most)
      × (stood l.now (guest_at l.self.guests port) ≡ l.longest));
}
