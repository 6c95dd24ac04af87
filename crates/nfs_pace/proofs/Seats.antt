-- Who has a seat keeps it, deed by deed.
use Rattle.std.proofs.Common.{◌≡◌, ◌≢◌, ◌⊎◌, ℕ, zero, suc, ◌<◌, ◌≤◌, ◌+◌, List, [], ◌∷◌, length, get_or, set, Bool, true, false, Option, Some, None, is_none, not, refl, sym, subst, ◌∙◌, arith, inl, inr, rules, cond, eqb, nat_eq, nat_lt, ◌||◌, if◌then◌else◌}
use Rattle.std.proofs.{lemmas.Bool.Decides.eqb_tells, lemmas.List.{get_or-set_same, get_or-set_other, length-set}, lemmas.List.Quantifiers.position-Some, lemmas.List.Sums.sum_by-cons, lemmas.Option.none-some}
use Rattle.std.specs.List.{count_by, position, position_or_len}
use Rattle.nfs_pace.specs.declared.{guest.Guest.Guest, seat.Seat.Seat}
use Rattle.nfs_pace.specs.Places.{PlacesModel, guest_at, seat_at, AreEach, sits, left, has_ended, is_at, is_of, is_kept_for, is_dead, is_run_out, used_at, seats_of, crowd_of, IsMost, SeatsNext, Chooses, ChoosesFor, asker, given_to, is_seated}
use Rattle.nfs_pace.specs.Seated.{Deed, Stands, Answers, Hears, Ends, Leaves, Seated, Does, HasSeat, IsWithin, Renewed, KeepsSeats, SeatsAreHad}

-- among some that pass there is one, and among two another
abbrev Passing : {X : Type 0} → (X → Bool) → X → List X → Type 0
Passing p d xs = (k : ℕ) × (k < length xs) × (p (get_or xs k d) ≡ true)

abbrev PassingBut : {X : Type 0} → (X → Bool) → X → List X → ℕ → Type 0
PassingBut p d xs j = (k : ℕ) × (k < length xs) × (k ≢ j) × (p (get_or xs k d) ≡ true)

module _ {X : Type 0} (p : X → Bool) (d : X) where
  some : (xs : List X) → 1 ≤ count_by p xs → Passing p d xs
  some [] h = absurd (omega (arith, h))
  some (x ∷ xs) h = by (p x) refl (subst (λ n. 1 ≤ n) (sum_by-cons (λ y. cond (p y) 1 0) x xs) h) (λ few. some xs few)
    where
      by : (b : Bool) → p x ≡ b → 1 ≤ (cond b 1 0) + count_by p xs → (1 ≤ count_by p xs → Passing p d xs) → Passing p d (x ∷ xs)
      by true is h later = (0, omega arith, is)
      by false is h later = let (k, less, so) = later (omega (arith, h)) in (suc k, omega (arith, less), so)

  another : (xs : List X) (j : ℕ) → 2 ≤ count_by p xs → PassingBut p d xs j
  another [] j h = absurd (omega (arith, h))
  another (x ∷ xs) j h = by (p x) j refl (subst (λ n. 2 ≤ n) (sum_by-cons (λ y. cond (p y) 1 0) x xs) h) (λ i few. another xs i few)
    where
      by : (b : Bool) (j : ℕ) → p x ≡ b → 2 ≤ (cond b 1 0) + count_by p xs → ((i : ℕ) → 2 ≤ count_by p xs → PassingBut p d xs i) → PassingBut p d (x ∷ xs) j
      by true zero is h later = let (k, less, so) = some xs (omega (arith, h)) in (suc k, omega (arith, less), omega arith, so)
      by true (suc j) is h later = (0, omega arith, omega arith, is)
      by false zero is h later = let (k, less, so) = some xs (omega (arith, h)) in (suc k, omega (arith, less), omega arith, so)
      by false (suc j) is h later = let (k, less, other, so) = later j (omega (arith, h)) in (suc k, omega (arith, less), omega (arith, other), so)

-- one seat, of which a connection has left, or on which a SEQUENCE was answered
left_keeps : (port client moment lease shown : ℕ) (ended : Bool) (seat : Option Seat) → moment ≤ shown → shown ≤ moment + lease
    → (is_at port seat ≡ true → ended ≡ false) → is_of client seat ≡ true → moment ≤ used_at seat
    → (is_of client (left port ended lease shown seat) ≡ true) × (moment ≤ used_at (left port ended lease shown seat))
left_keeps port client moment lease shown ended seat = search rules

sits_keeps : (port other client moment shown : ℕ) (seat : Option Seat) → moment ≤ shown → (is_at port seat ≡ true → other ≡ client)
    → is_of client seat ≡ true → moment ≤ used_at seat
    → (is_of client (sits port other shown seat) ≡ true) × (moment ≤ used_at (sits port other shown seat))
sits_keeps port other client moment shown seat = search rules

-- each seat as it is made of the old one
by_each : (f : Option Seat → Option Seat) (p q : PlacesModel) (client moment : ℕ) → AreEach f p.seats q.seats
    → ((j : ℕ) → j < length p.seats → is_of client (seat_at p.seats j) ≡ true → moment ≤ used_at (seat_at p.seats j)
    → (is_of client (f (seat_at p.seats j)) ≡ true) × (moment ≤ used_at (f (seat_at p.seats j))))
    → HasSeat p client moment → HasSeat q client moment
by_each f p q client moment each keeps has =
    let (j, less, is, used) = has in
    let made = keeps j less is used in
    (j, rw each.0 less, rw (each.1 j less) made.0, rw (each.1 j less) made.1)

-- one seat is given to another
module _ (p : PlacesModel) (client moment shown : ℕ) (within : IsWithin p moment shown) (port j : ℕ) (g : Guest) where
  given_keeps : (seat : Option Seat) → is_of client seat ≡ true → moment ≤ used_at seat → nat_eq g.client client ≡ true
      → (is_of client (given_to port (Some g) seat) ≡ true) × (moment ≤ used_at (given_to port (Some g) seat))
  given_keeps seat = search rules

  is_kept_of : (seat : Option Seat) → is_of client seat ≡ true → is_kept_for g.client seat ≡ true → nat_eq g.client client ≡ true
  is_kept_of seat = search rules

  is_dead_of : (seat : Option Seat) → is_of client seat ≡ true → is_dead g.client g.address g.since shown seat ≡ true → nat_eq g.client client ≡ true
  is_dead_of seat = search rules

  none_of : (seat : Option Seat) → is_of client seat ≡ true → is_none seat ≡ true → ⊥
  none_of seat = search rules

  run_out_of : (seat : Option Seat) → moment ≤ used_at seat → is_run_out p.lease shown seat ≡ true → ⊥
  run_out_of None used out = search rules
  run_out_of (Some seat) used out = search (rules, within)

  crowd_is : (seat : Option Seat) → is_of client seat ≡ true → crowd_of p.seats seat ≡ seats_of client p.seats
  crowd_is None is = search rules
  crowd_is (Some seat) is = search rules

  abbrev New : PlacesModel
  New = record p { seats = set p.seats j (given_to port (Some g) (seat_at p.seats j)) }

  other_stays : (k : ℕ) → k < length p.seats → k ≢ j → is_of client (seat_at p.seats k) ≡ true → moment ≤ used_at (seat_at p.seats k)
      → HasSeat New client moment
  other_stays k less other is used =
      let same = get_or-set_other p.seats j k (given_to port (Some g) (seat_at p.seats j)) None other in
      (k, rw length-set less, rw same is, rw same used)

  same_stays : j < length p.seats → is_of client (seat_at p.seats j) ≡ true → moment ≤ used_at (seat_at p.seats j) → nat_eq g.client client ≡ true
      → HasSeat New client moment
  same_stays less is used own =
      let now = get_or-set_same p.seats j (given_to port (Some g) (seat_at p.seats j)) None less in
      let kept = given_keeps (seat_at p.seats j) is used own in
      (j, rw length-set less, rw now kept.0, rw now kept.1)

  chosen_keeps : j < length p.seats → Chooses p shown g (Some j) → is_of client (seat_at p.seats j) ≡ true → moment ≤ used_at (seat_at p.seats j)
      → HasSeat New client moment
  chosen_keeps less (inl h) is used =
      same_stays less is used (is_kept_of (seat_at p.seats j) is (position-Some (is_kept_for g.client) p.seats j None h).1)
  chosen_keeps less (inr (inl h)) is used =
      absurd (none_of (seat_at p.seats j) is (position-Some is_none p.seats j None h.1).1)
  chosen_keeps less (inr (inr (inl h))) is used =
      same_stays less is used (is_dead_of (seat_at p.seats j) is (position-Some (is_dead g.client g.address g.since shown) p.seats j None h.2).1)
  chosen_keeps less (inr (inr (inr (inl h)))) is used =
      absurd (run_out_of (seat_at p.seats j) used (position-Some (is_run_out p.lease shown) p.seats j None h.3).1)
  chosen_keeps less (inr (inr (inr (inr h)))) is used =
      let m : IsMost p.seats (seats_of g.client p.seats + 1) j = h.4 in
      let crowd = crowd_is (seat_at p.seats j) is in
      let two : 2 ≤ count_by (is_of client) p.seats = omega (arith, m.many, crowd) in
      let (k, within_k, apart, so) = another (is_of client) None p.seats j two in
      let least = m.longest k within_k (crowd_is (seat_at p.seats k) so ∙ sym crowd) in
      other_stays k within_k apart so (omega (arith, used, least))

  given_to_one : j < length p.seats → Chooses p shown g (Some j) → HasSeat p client moment → HasSeat New client moment
  given_to_one less chosen has =
      let (k, within_k, is, used) = has in by k within_k is used (eqb_tells k j)
    where
      by : (k : ℕ) → k < length p.seats → is_of client (seat_at p.seats k) ≡ true → moment ≤ used_at (seat_at p.seats k)
          → ((eqb k j ≡ true) × (k ≡ j)) ⊎ ((eqb k j ≡ false) × (k ≢ j)) → HasSeat New client moment
      by k within_k is used (inl h) =
          chosen_keeps less chosen (subst (λ i. is_of client (seat_at p.seats i) ≡ true) h.1 is) (subst (λ i. moment ≤ used_at (seat_at p.seats i)) h.1 used)
      by k within_k is used (inr h) = other_stays k within_k h.1 is used

-- who is given a seat is there
chosen : (p : PlacesModel) (shown j : ℕ) (guest : Option Guest) (seated : Bool) → ChoosesFor p shown (asker seated guest) (Some j)
    → (g : Guest) × (guest ≡ Some g) × Chooses p shown g (Some j)
chosen p shown j None seated h = search (rules, h)
chosen p shown j (Some g) seated h = by (nat_eq g.client 0 || seated) h
  where
    by : (b : Bool) → ChoosesFor p shown (if b then None else Some g) (Some j) → (it : Guest) × (Some g ≡ Some it) × Chooses p shown it (Some j)
    by true h = search (rules, h)
    by false h = (g, refl, h)

seated_keeps : (p q : PlacesModel) (client moment shown : ℕ) (given : Bool) → IsWithin p moment shown → SeatsNext p shown given q → HasSeat p client moment
    → HasSeat q client moment
seated_keeps p q client moment shown false within does has = subst (λ x. HasSeat x client moment) (sym does.0) has
seated_keeps p q client moment shown true within does has =
    let (port, j, next, is) = does in
    let (g, here, chose) = chosen p shown j (guest_at p.guests port) (is_seated p port) next.gives in
    let made = given_to_one p client moment shown within port j g next.seat chose has in
    subst (λ x. HasSeat x client moment) (sym is)
    (subst (λ guest. HasSeat (record p { seats = set p.seats j (given_to port guest (seat_at p.seats j)) }) client moment) (sym here) made)

deed_keeps : (p q : PlacesModel) (client moment : ℕ) (d : Deed) → Does p d q → Renewed p client moment d → HasSeat p client moment → HasSeat q client moment
deed_keeps p q client moment (Stands port address now shown sweep) does ok has =
    by_each (left port (has_ended (guest_at p.guests port)) p.lease shown) p q client moment does.0
    (λ j less is used. left_keeps port client moment p.lease shown (has_ended (guest_at p.guests port)) (seat_at p.seats j) ok.0.0 ok.0.1
    (λ here. ok.1 (j, less, is, here)) is used) has
deed_keeps p q client moment (Answers port other shown) does ok has =
    by_each (sits port other shown) p q client moment does.0
    (λ j less is used. sits_keeps port other client moment shown (seat_at p.seats j) ok.0.0 (λ here. ok.1 (j, less, is, here)) is used) has
deed_keeps p q client moment (Hears port shown) does ok has = subst (λ x. HasSeat x client moment) (sym does) has
deed_keeps p q client moment (Ends port) does ok has = subst (λ x. HasSeat x client moment) (sym does) has
deed_keeps p q client moment (Leaves port shown) does ok has =
    by_each (left port (has_ended (guest_at p.guests port)) p.lease shown) p q client moment does.0
    (λ j less is used. left_keeps port client moment p.lease shown (has_ended (guest_at p.guests port)) (seat_at p.seats j) ok.0.0 ok.0.1
    (λ here. ok.1 (j, less, is, here)) is used) has
deed_keeps p q client moment (Seated shown given) does ok has = seated_keeps p q client moment shown given ok does has

pub keeps_seats : KeepsSeats
keeps_seats p q client moment [] has run = subst (λ x. HasSeat x client moment) (sym run) has
keeps_seats p q client moment (d ∷ deeds) has run =
    let (between, does, ok, later) = run in
    keeps_seats between q client moment deeds (deed_keeps p between client moment d does ok has) later

-- where no place passes, each fails
module _ {X : Type 0} (p : X → Bool) (d : X) where
  fails : (xs : List X) → length xs ≤ position_or_len p xs → (k : ℕ) → k < length xs → p (get_or xs k d) ≡ false
  fails [] h k less = absurd (omega (arith, less))
  fails (x ∷ xs) h k less = by (p x) k refl h less (λ few i within. fails xs few i within)
    where
      by : (b : Bool) (k : ℕ) → p x ≡ b → length (x ∷ xs) ≤ cond (not b) (1 + position_or_len p xs) 0 → k < length (x ∷ xs)
          → (length xs ≤ position_or_len p xs → (i : ℕ) → i < length xs → p (get_or xs i d) ≡ false) → p (get_or (x ∷ xs) k d) ≡ false
      by true k is h less later = absurd (omega (arith, h))
      by false zero is h less later = is
      by false (suc k) is h less later = later (omega (arith, h)) k (omega (arith, less))

  none_fails : (xs : List X) → position p xs ≡ None → (k : ℕ) → k < length xs → p (get_or xs k d) ≡ false
  none_fails xs h = fails xs (by (nat_lt (position_or_len p xs) (length xs)) refl h)
    where
      by : (b : Bool) → nat_lt (position_or_len p xs) (length xs) ≡ b → cond b (Some (position_or_len p xs)) None ≡ None → length xs ≤ position_or_len p xs
      by true is h = absurd (none-some (position_or_len p xs) (sym h))
      by false is h = search (rules, is)

pub seats_are_had : SeatsAreHad
seats_are_had p q shown port g next within asks j less =
    let none : Chooses p shown g None = subst (λ it. ChoosesFor p shown it None) asks (next.1 port within) in
    record {
      taken = none_fails is_none None p.seats none.1 j less;
      lasts = none_fails (is_run_out p.lease shown) None p.seats none.3 j less;
      few = none.4 j less;
    }
