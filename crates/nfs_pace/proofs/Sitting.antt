-- One seat changes alone, that of who is on a port, and it is where it is looked for.
use Rattle.std.proofs.Common.{◌≡◌, ◌≢◌, ◌≤◌, ◌<◌, ◌⊎◌, ℕ, zero, suc, Bool, true, false, List, [], ◌∷◌, length, set, get_or, Option, Some, None, ◌||◌, if◌then◌else◌, refl, sym, ap, ◌∙◌, eqb, leb, arith, inl, inr}
use Rattle.std.proofs.{lemmas.Bool.{false_from_ne_true, Decides.{eqb_tells, leb_tells}}, lemmas.List.{get_or_past, get_or-set_same, get_or-set_other, length-set}}
use Rattle.std.specs.List.{list_any}
use Rattle.nfs_pace.specs.{declared.seat.Seat.Seat, Places.{Seats, seat_at, is_at, sits, left, IsFound, AreEach}}

-- what is made of the seat of who is on a port leaves those of others as they are
abbrev SparesOthers : ℕ → (Option Seat → Option Seat) → Type 0
SparesOthers port f = (seat : Option Seat) → is_at port seat ≡ false → f seat ≡ seat

-- and brings nobody to a seat
abbrev BringsNobody : (Option Seat → Option Seat) → Type 0
BringsNobody f = (p : ℕ) (seat : Option Seat) → is_at p (f seat) ≡ true → is_at p seat ≡ true

changes_there : (f : Option Seat → Option Seat) (seats : Seats) (port place : ℕ) → SparesOthers port f → ((i : ℕ) → is_at port (seat_at seats i) ≡ true → place ≡ i)
    → AreEach f seats (set seats place (f (seat_at seats place)))
changes_there f seats port place spares is = (length-set seats place (f (seat_at seats place)), λ i less. cases i less (eqb_tells i place))
  where
    cases : (i : ℕ) → i < length seats → ((eqb i place ≡ true) × (i ≡ place)) ⊎ ((eqb i place ≡ false) × (i ≢ place))
        → seat_at (set seats place (f (seat_at seats place))) i ≡ f (seat_at seats i)
    cases i less (inl h) = rw h.1 (get_or-set_same seats place (f (seat_at seats place)) None (rw (sym h.1) less))
    cases i less (inr h) = get_or-set_other seats place i (f (seat_at seats place)) None h.1
        ∙ sym (spares (seat_at seats i) (false_from_ne_true (is_at port (seat_at seats i)) (λ at. h.1 (sym (is i at)))))

pub changes_found : (f : Option Seat → Option Seat) (found : List ℕ) (seats : Seats) (port place : ℕ) → SparesOthers port f → IsFound found seats
    → place ≡ get_or found port 0 → AreEach f seats (set seats place (f (seat_at seats place)))
changes_found f found seats port place spares is at = changes_there f seats port place spares (λ i there. at ∙ (is port i there).1)

pub changes_none : (f : Option Seat → Option Seat) (found : List ℕ) (seats : Seats) (port : ℕ) → SparesOthers port f → IsFound found seats → length found ≤ port
    → AreEach f seats seats
changes_none f found seats port spares is past =
    (refl, λ i less. sym (spares (seat_at seats i) (false_from_ne_true (is_at port (seat_at seats i)) (λ at. absurd (omega (arith, past, (is port i at).0))))))

pub still_found : (f : Option Seat → Option Seat) (found : List ℕ) (seats new : Seats) → BringsNobody f → AreEach f seats new → IsFound found seats → IsFound found new
still_found f found seats new nobody each is p i at = cases (leb_tells (length seats) i)
  where
    cases : ((leb (length seats) i ≡ true) × (length seats ≤ i)) ⊎ ((leb (length seats) i ≡ false) × (i < length seats)) → (p < length found) × (get_or found p 0 ≡ i)
    cases (inl h) =
        let none : is_at p (seat_at new i) ≡ false = ap (is_at p) (get_or_past new i None (omega (arith, each.0, h.1))) in
        cc
    cases (inr h) = is p i (nobody p (seat_at seats i) (ap (is_at p) (sym (each.1 i h.1)) ∙ at))

-- a SEQUENCE was answered on the port
pub sits_alone : (port client shown : ℕ) → SparesOthers port (sits port client shown)
sits_alone port client shown None elsewhere = refl
sits_alone port client shown (Some seat) elsewhere = rw elsewhere refl

pub sits_at : (port client shown : ℕ) → BringsNobody (sits port client shown)
sits_at port client shown p None at = at
sits_at port client shown p (Some seat) at = by (is_at port (Some seat)) at
  where
    by : (b : Bool) → is_at p (if b then Some (record seat { client = client; used = shown }) else Some seat) ≡ true → is_at p (Some seat) ≡ true
    by true at = at
    by false at = at

-- its connection is gone
pub left_alone : (port : ℕ) (ended : Bool) (lease shown : ℕ) → SparesOthers port (left port ended lease shown)
left_alone port ended lease shown None elsewhere = refl
left_alone port ended lease shown (Some seat) elsewhere = rw elsewhere refl

-- where one place at most passes, it says whether any does
module _ {X : Type 0} (test : X → Bool) (d : X) where
  any_only : (xs : List X) (j : ℕ) → test d ≡ false → ((i : ℕ) → test (get_or xs i d) ≡ true → i ≡ j) → list_any test xs ≡ test (get_or xs j d)
  any_only [] j none only = sym none
  any_only (x ∷ xs) zero none only =
      let rest : list_any test xs ≡ false =
      any_only xs (length xs) none (λ i at. absurd (omega (arith, only (suc i) at))) ∙ ap test (get_or_past xs (length xs) d (omega arith)) ∙ none in
      by (test x) rest
    where
      by : (b : Bool) → list_any test xs ≡ false → (b || list_any test xs) ≡ b
      by true rest = refl
      by false rest = rest
  any_only (x ∷ xs) (suc j) none only =
      let first : test x ≡ false = false_from_ne_true (test x) (λ at. absurd (omega (arith, only 0 at))) in
      rw first (any_only xs j none (λ i at. omega (arith, only (suc i) at)))

pub any_there : (found : List ℕ) (seats : Seats) (port : ℕ) → IsFound found seats → list_any (is_at port) seats ≡ is_at port (seat_at seats (get_or found port 0))
any_there found seats port is = any_only (is_at port) None seats (get_or found port 0) refl (λ i at. sym (is port i at).1)

pub past_all : (found : List ℕ) (seats : Seats) (port : ℕ) → IsFound found seats → length found ≤ port → list_any (is_at port) seats ≡ false
past_all found seats port is past = false_from_ne_true (list_any (is_at port) seats)
    (λ at. absurd (omega (arith, past, (is port (get_or found port 0) (sym (any_there found seats port is) ∙ at)).0)))
