-- A seat that is kept, and places that take it or give none, computed.
use Rattle.std.proofs.Common.{◌≡◌, ℕ, zero, suc, ◌<◌, ◌≤◌, ◌+◌, [], ◌∷◌, length, set, true, false, Option, Some, None, refl, sym, ◌∙◌, ap, arith}
use Rattle.std.proofs.lemmas.Bool.{false≢true}
use Rattle.nfs_pace.specs.declared.seat.Seat.{Seat}
use Rattle.nfs_pace.specs.Places.{PlacesModel, Seats, AreEach, GivesSeat, crowd_of, given_to, guest_at, left, seat_at, seats_of, sits}
use Rattle.nfs_pace.specs.Seated.{Seated, HasSeat, SitsAt}
use Rattle.nfs_pace.specs.SeatedWorked.{at, guest, its_seat, first, last, IsKept, SeatsRefused}

-- the seat is client 1's
its : HasSeat first 1 (at 100)
its = (0, omega arith, refl, omega arith)

none_far : {X : Type 0} (j : ℕ) → suc j < 1 → X
none_far j less = absurd (omega (arith, less))

-- no seat is free or has run out, and no client has two
few : (j : ℕ) → j < 1 → crowd_of last.seats (seat_at last.seats j) ≤ seats_of 2 last.seats + 1
few zero within = omega arith
few (suc j) within = none_far j within

none_given : (port : ℕ) → port < 2 → GivesSeat last (at 190) port None
none_given zero less = refl
none_given (suc zero) less = (refl, refl, refl, refl, few)
none_given (suc (suc port)) less = absurd (omega (arith, less))

-- the states in between
abbrev met : PlacesModel
met = record first { guests = Some (guest 5 1 100) ∷ Some (guest 6 0 120) ∷ [] }

-- the seat is not that of the other port
not_there : SitsAt met 1 1 → ⊥
not_there (zero, less, is, sits) = false≢true sits
not_there (suc j, less, is, sits) = none_far j less

each_same : (q : PlacesModel) (f : Option Seat → Option Seat) → q.seats ≡ first.seats → f (Some its_seat) ≡ Some its_seat → AreEach f first.seats q.seats
each_same q f same one = (ap (λ (s : Seats). length s) same, λ j less. by j less)
  where
    by : (j : ℕ) → j < 1 → seat_at q.seats j ≡ f (seat_at first.seats j)
    by zero less = ap (λ (s : Seats). seat_at s 0) same ∙ sym one
    by (suc j) less = none_far j less

pub is_kept : IsKept
is_kept = record {
  has = its;
  runs = (
    met,
    (each_same met (left 1 false (at 90) (at 120)) refl refl, refl, refl),
    ((omega arith, omega arith), λ sits. refl),
    (
      last,
      (each_same last (sits 1 2 (at 120)) refl refl, refl, refl),
      ((omega arith, omega arith), λ sits. absurd (not_there sits)),
      (last, (refl, none_given), (omega arith, omega arith), refl),
    ),
  );
  still = its;
}

-- client 2 takes the seat of client 1 in its lease
robbed : HasSeat (record last { seats = set last.seats 0 (given_to 1 (guest_at last.guests 1) (seat_at last.seats 0)) }) 1 (at 100) → ⊥
robbed (zero, less, is, used) = false≢true is
robbed (suc j, less, is, used) = none_far j less

-- a free seat
abbrev empty : PlacesModel
empty = record last { seats = None ∷ [] }

pub seats_refused : SeatsRefused
seats_refused = record {
  taken = λ law. robbed (law last _ 1 (at 100) (Seated (at 120) true ∷ []) its (_, refl, (omega arith, omega arith), refl));
  none = λ law. false≢true (sym (law empty empty (at 120) 1 (guest 6 2 120) refl (omega arith) refl 0 (omega arith)).taken);
}
