-- Whose seats there are, and who stands in the hall, are counted by lists that follow each change.
use Rattle.std.proofs.Common.{◌≡◌, ◌≢◌, ◌≤◌, ◌<◌, ◌⊎◌, ◌+◌, ℕ, zero, suc, Bool, true, false, not, ◌&&◌, List, [], ◌∷◌, length, set, take, replicate, get_or, Option, Some, None, is_some, if◌then◌else◌, cond, refl, sym, ap, subst, ◌∙◌, nat_eq, eqb, leb, arith, rules, inl, inr, count_by, ne_eqb, eqb-true}
use Rattle.std.proofs.{lemmas.Bool.{Decides.{eqb_tells, leb_tells}}, lemmas.List.{get_or_past, get_or-set_same, get_or-set_other, get_or-replicate, length-set, length-replicate, map-set, take_all}, lemmas.List.Sums.{sum_by_more}, Math.Seq.{map-set_same}}
use Rattle.std.specs.List.{list_any}
use Rattle.nfs_pace.specs.{declared.{guest.Guest.Guest, seat.Seat.Seat}, Places.{PlacesModel, Guests, Seats, guest_at, seat_at, names, is_at, owner, stander, joined, port_of, given_to, nobody, AreOwners, AreStanders, IsFound, AreEach, is_seated, stands, of_address, hall_count, answers, sits, left}}
use Rattle.nfs_pace.proofs.Sitting.{any_there}

-- Owners.

pub owners_set : (owners : List ℕ) (seats : Seats) (j : ℕ) (seat : Option Seat) → AreOwners owners seats → AreOwners (set owners j (owner seat)) (set seats j seat)
owners_set owners seats j seat are = ap (λ all. set all j (owner seat)) are ∙ sym (map-set owner seats j seat)

pub owners_stay : (owners : List ℕ) (seats : Seats) (j : ℕ) (seat : Option Seat) → AreOwners owners seats → owner seat ≡ owner (seat_at seats j)
    → AreOwners owners (set seats j seat)
owners_stay owners seats j seat are same = are ∙ sym (map-set_same owner seats j seat None same)

-- Standers.

pub count_standers : (p : PlacesModel) (standers : List ℕ) (address : ℕ) → AreStanders standers p.guests p.seats → address ≢ nobody
    → hall_count p address (length p.guests) ≡ count_by (nat_eq address) standers
count_standers p standers address are is =
    let all = first (length p.guests) (omega (arith, are.0)) in
    all ∙ ap (count_by (nat_eq address)) (take_all (length p.guests) standers (omega (arith, are.0)))
  where
    one : (seated : Bool) (guest : Option Guest) → nat_eq address (stander seated guest) ≡ (of_address address guest && not seated)
    one seated None = ne_eqb address nobody is
    one true (Some guest) = search (rules, ne_eqb address nobody is)
    one false (Some guest) = search rules

    first : (n : ℕ) → n ≤ length standers → hall_count p address n ≡ count_by (nat_eq address) (take n standers)
    first zero within = refl
    first (suc n) within =
        let before = first n (omega (arith, within)) in
        let one_more : n + 1 ≡ suc n = omega arith in
        let more : count_by (nat_eq address) (take (suc n) standers) ≡ count_by (nat_eq address) (take n standers) + cond (nat_eq address (get_or standers n nobody)) 1 0 =
        subst (λ k. count_by (nat_eq address) (take k standers) ≡ count_by (nat_eq address) (take n standers) + cond (nat_eq address (get_or standers n nobody)) 1 0) one_more
        (sum_by_more (λ y. cond (nat_eq address y) 1 0) standers n nobody (omega (arith, within))) in
        let same : ◌≡◌ {A = ℕ} (cond (nat_eq address (get_or standers n nobody)) 1 0) (if stands p address n then 1 else 0) =
        ap {B = ℕ} (λ b. if b then 1 else 0) (ap (nat_eq address) (are.1 n) ∙ one (is_seated p n) (guest_at p.guests n)) in
        omega (arith, before, more, same)

module _ {X : Type 0} (test : X → Bool) (d : X) where
  pub any_same : (xs ys : List X) → length ys ≡ length xs → ((i : ℕ) → i < length xs → test (get_or ys i d) ≡ test (get_or xs i d)) → list_any test ys ≡ list_any test xs
  any_same [] [] long same = refl
  any_same [] (y ∷ ys) long same = absurd (omega (arith, long))
  any_same (x ∷ xs) [] long same = absurd (omega (arith, long))
  any_same (x ∷ xs) (y ∷ ys) long same =
      let rest = any_same xs ys (omega (arith, long)) (λ i less. same (suc i) (omega (arith, less))) in
      rw (same 0 (omega arith)) (rw rest refl)

  pub any_none : (xs : List X) → ((i : ℕ) → i < length xs → test (get_or xs i d) ≡ false) → list_any test xs ≡ false
  any_none [] none = refl
  any_none (x ∷ xs) none = rw (none 0 (omega arith)) (any_none xs (λ i less. none (suc i) (omega (arith, less))))

-- what is made of each seat leaves who is on a port
pub any_each : (f : Option Seat → Option Seat) (old new : Seats) (port : ℕ) → AreEach f old new → ((seat : Option Seat) → is_at port (f seat) ≡ is_at port seat)
    → list_any (is_at port) new ≡ list_any (is_at port) old
any_each f old new port each same =
    any_same (is_at port) None old new each.0 (λ i less. ap (is_at port) (each.1 i less) ∙ same (seat_at old i))

sits_is_at : (port client shown i : ℕ) (seat : Option Seat) → is_at i (sits port client shown seat) ≡ is_at i seat
sits_is_at port client shown i None = refl
sits_is_at port client shown i (Some seat) = by (is_at port (Some seat))
  where
    by : (b : Bool) → is_at i (if b then Some (record seat { client = client; used = shown }) else Some seat) ≡ is_at i (Some seat)
    by true = refl
    by false = refl

left_is_at : (port : ℕ) (ended : Bool) (lease shown i : ℕ) → i ≢ port → (seat : Option Seat) → is_at i (left port ended lease shown seat) ≡ is_at i seat
left_is_at port ended lease shown i apart seat = search rules

left_is_gone : (port : ℕ) (ended : Bool) (lease shown : ℕ) (seat : Option Seat) → is_at port (left port ended lease shown seat) ≡ false
left_is_gone port ended lease shown seat = search rules

-- who stands stays so where that is so of each port
pub standers_stay : (standers : List ℕ) (guests new : Guests) (seats others : Seats) → AreStanders standers guests seats → length new ≡ length guests
    → ((i : ℕ) → stander (list_any (is_at i) others) (guest_at new i) ≡ stander (list_any (is_at i) seats) (guest_at guests i)) → AreStanders standers new others
standers_stay standers guests new seats others are long same = (are.0 ∙ sym long, λ i. are.1 i ∙ sym (same i))

-- another guest on a port, whose address is that of the one before, or who has no seat
pub guest_same : (guests : Guests) (port i : ℕ) (guest : Option Guest) (seated : Bool) → stander seated guest ≡ stander seated (guest_at guests port)
    → stander seated (guest_at (set guests port guest) i) ≡ stander seated (guest_at guests i)
guest_same guests port i guest seated same = by (eqb_tells i port) (leb_tells (length guests) port)
  where
    by : ((eqb i port ≡ true) × (i ≡ port)) ⊎ ((eqb i port ≡ false) × (i ≢ port))
        → ((leb (length guests) port ≡ true) × (length guests ≤ port)) ⊎ ((leb (length guests) port ≡ false) × (port < length guests))
        → stander seated (guest_at (set guests port guest) i) ≡ stander seated (guest_at guests i)
    by (inl h) (inl k) =
        rw (get_or_past guests i None (omega (arith, h.1, k.1)))
        (rw (get_or_past (set guests port guest) i None (omega (arith, h.1, k.1, length-set guests port guest))) refl)
    by (inl h) (inr k) = rw h.1 (rw (get_or-set_same guests port guest None k.1) same)
    by (inr h) k = rw (get_or-set_other guests port i guest None h.1) refl

-- a SEQUENCE was answered on the port
pub standers_answered : (standers : List ℕ) (guests : Guests) (seats others : Seats) (port client shown : ℕ) → AreStanders standers guests seats
    → AreEach (sits port client shown) seats others → AreStanders standers (set guests port (answers client shown (guest_at guests port))) others
standers_answered standers guests seats others port client shown are each =
    standers_stay standers guests (set guests port (answers client shown (guest_at guests port))) seats others are
    (length-set guests port (answers client shown (guest_at guests port)))
    (λ i. rw (any_each (sits port client shown) seats others i each (sits_is_at port client shown i))
    (guest_same guests port i (answers client shown (guest_at guests port)) (list_any (is_at i) seats) (address (list_any (is_at i) seats) (guest_at guests port))))
  where
    address : (b : Bool) (guest : Option Guest) → stander b (answers client shown guest) ≡ stander b guest
    address b None = refl
    address true (Some guest) = refl
    address false (Some guest) = refl

-- somebody else is there, or nobody
pub standers_turned : (standers : List ℕ) (guests : Guests) (seats others : Seats) (port : ℕ) (guest : Option Guest) (ended : Bool) (lease shown : ℕ)
    → port < length guests → AreStanders standers guests seats → AreEach (left port ended lease shown) seats others
    → AreStanders (set standers port (stander false guest)) (set guests port guest) others
standers_turned standers guests seats others port guest ended lease shown within are each =
    (length-set standers port (stander false guest) ∙ are.0 ∙ sym (length-set guests port guest), λ i. by i (eqb_tells i port))
  where
    gone : list_any (is_at port) others ≡ false
    gone =
        any_none (is_at port) None others
        (λ i less. ap (is_at port) (each.1 i (omega (arith, less, each.0))) ∙ left_is_gone port ended lease shown (seat_at seats i))

    by : (i : ℕ) → ((eqb i port ≡ true) × (i ≡ port)) ⊎ ((eqb i port ≡ false) × (i ≢ port))
        → get_or (set standers port (stander false guest)) i nobody ≡ stander (list_any (is_at i) others) (guest_at (set guests port guest) i)
    by i (inl h) =
        rw h.1 (rw (get_or-set_same standers port (stander false guest) nobody (omega (arith, within, are.0)))
        (rw (get_or-set_same guests port guest None within) (rw gone refl)))
    by i (inr h) =
        rw (get_or-set_other standers port i (stander false guest) nobody h.1) (rw (get_or-set_other guests port i guest None h.1)
        (rw (any_each (left port ended lease shown) seats others i each (left_is_at port ended lease shown i h.1)) (are.1 i)))

pub left_at : (port : ℕ) (ended : Bool) (lease shown p : ℕ) (seat : Option Seat) → is_at p (left port ended lease shown seat) ≡ true → is_at p seat ≡ true
left_at port ended lease shown p seat at = search rules

is_at_names : (i : ℕ) (seat : Option Seat) → is_at i seat ≡ names i (port_of seat)
is_at_names i None = refl
is_at_names i (Some seat) = refl

pub given_is_at : (port i : ℕ) (guest : Option Guest) (seat : Option Seat) → is_some guest ≡ true → is_at i (given_to port guest seat) ≡ nat_eq port i
given_is_at port i None seat some = search (rules, some)
given_is_at port i (Some guest) seat some = refl

pub guest_within : (guests : Guests) (port : ℕ) → is_some (guest_at guests port) ≡ true → port < length guests
guest_within guests port some = by (leb_tells (length guests) port)
  where
    by : ((leb (length guests) port ≡ true) × (length guests ≤ port)) ⊎ ((leb (length guests) port ≡ false) × (port < length guests)) → port < length guests
    by (inl h) = let none = ap is_some (get_or_past guests port None h.1) in search (rules, some, none)
    by (inr h) = h.1

-- who is on a port is given a seat; whose it was joins those in the hall
module _ (found standers : List ℕ) (guests : Guests) (seats : Seats) (port j : ℕ) (seat : Option Seat) where
  abbrev New : Seats
  New = set seats j seat

  pub found_given : port < length found → j < length seats → IsFound found seats → list_any (is_at port) seats ≡ false → ((i : ℕ) → is_at i seat ≡ nat_eq port i)
      → IsFound (set found port j) New
  found_given within less is none there p i at = by (eqb_tells i j) (eqb_tells p port)
    where
      by : ((eqb i j ≡ true) × (i ≡ j)) ⊎ ((eqb i j ≡ false) × (i ≢ j)) → ((eqb p port ≡ true) × (p ≡ port)) ⊎ ((eqb p port ≡ false) × (p ≢ port))
          → (p < length (set found port j)) × (get_or (set found port j) p 0 ≡ i)
      by (inl h) (inl k) =
          (rw length-set (rw k.1 within), rw k.1 (get_or-set_same found port j 0 within ∙ sym h.1))
      by (inl h) (inr k) =
          let its : nat_eq port p ≡ true = sym (there p) ∙ ap (is_at p) (sym (get_or-set_same seats j seat None less)) ∙ ap (λ at. is_at p (seat_at New at)) (sym h.1) ∙ at in
          absurd (k.1 (sym (eqb-true port p its)))
      by (inr h) k =
          let old : is_at p (seat_at seats i) ≡ true = ap (is_at p) (sym (get_or-set_other seats j i seat None h.1)) ∙ at in
          let where_it_was = is p i old in
          rest k old where_it_was
        where
          rest : ((eqb p port ≡ true) × (p ≡ port)) ⊎ ((eqb p port ≡ false) × (p ≢ port)) → is_at p (seat_at seats i) ≡ true
              → (p < length found) × (get_or found p 0 ≡ i) → (p < length (set found port j)) × (get_or (set found port j) p 0 ≡ i)
          rest (inl k) old was =
              let seated : list_any (is_at port) seats ≡ true =
              any_there found seats port is ∙ ap (λ q. is_at port (seat_at seats (get_or found q 0))) (sym k.1) ∙ ap (λ at. is_at port (seat_at seats at)) was.1
              ∙ ap (λ q. is_at q (seat_at seats i)) (sym k.1) ∙ old in
              cc
          rest (inr k) old was = (rw length-set was.0, get_or-set_other found port p j 0 k.1 ∙ was.1)

  pub standers_given : port < length guests → length found ≡ length guests → j < length seats → IsFound found seats → AreStanders standers guests seats
      → ((i : ℕ) → is_at i seat ≡ nat_eq port i) → IsFound (set found port j) New
      → AreStanders (set (joined standers guests (port_of (seat_at seats j))) port nobody) guests New
  standers_given within long less is are there new =
      (length-set (joined standers guests (port_of (seat_at seats j))) port nobody ∙ joined_long (port_of (seat_at seats j)) ∙ are.0, λ i. each i (eqb_tells i port))
    where
      joined_long : (q : Option ℕ) → length (joined standers guests q) ≡ length standers
      joined_long None = refl
      joined_long (Some q) = length-set standers q (stander false (guest_at guests q))

      seated : (guest : Option Guest) → stander true guest ≡ nobody
      seated None = refl
      seated (Some guest) = refl

      here : list_any (is_at port) New ≡ true
      here =
          any_there (set found port j) New port new ∙ ap (λ k. is_at port (seat_at New k)) (get_or-set_same found port j 0 (omega (arith, within, long)))
          ∙ ap (is_at port) (get_or-set_same seats j seat None less) ∙ there port ∙ search rules

      elsewhere : (i : ℕ) → i ≢ port → list_any (is_at i) New ≡ is_at i (seat_at New (get_or found i 0))
      elsewhere i apart =
          any_there (set found port j) New i new ∙ ap (λ k. is_at i (seat_at New k)) (get_or-set_other found port i j 0 apart)

      -- one whose seat is where the given one was
      lost : (i : ℕ) → i ≢ port → get_or found i 0 ≡ j → (old : Option Seat) → seat_at seats j ≡ old
          → get_or (joined standers guests (port_of old)) i nobody ≡ stander false (guest_at guests i)
      lost i apart k old at = by (port_of old) refl
        where
          was : (q : Option ℕ) → port_of old ≡ q → list_any (is_at i) seats ≡ names i q
          was q e =
              any_there found seats i is ∙ ap (λ at. is_at i (seat_at seats at)) k ∙ ap (is_at i) at ∙ is_at_names i old ∙ ap (names i) e

          by : (q : Option ℕ) → port_of old ≡ q → get_or (joined standers guests q) i nobody ≡ stander false (guest_at guests i)
          by None e = are.1 i ∙ ap (λ b. stander b (guest_at guests i)) (was None e)
          by (Some q) e = one (eqb_tells i q) (leb_tells (length guests) q)
            where
              one : ((eqb i q ≡ true) × (i ≡ q)) ⊎ ((eqb i q ≡ false) × (i ≢ q))
                  → ((leb (length guests) q ≡ true) × (length guests ≤ q)) ⊎ ((leb (length guests) q ≡ false) × (q < length guests))
                  → get_or (joined standers guests (Some q)) i nobody ≡ stander false (guest_at guests i)
              one (inl h) (inl far) =
                  rw h.1 (get_or_past (set standers q (stander false (guest_at guests q))) q nobody
                  (omega (arith, far.1, are.0, length-set standers q (stander false (guest_at guests q))))
                  ∙ sym (ap (stander false) (get_or_past guests q None far.1)))
              one (inl h) (inr near) = rw h.1 (get_or-set_same standers q (stander false (guest_at guests q)) nobody (omega (arith, near.1, are.0)))
              one (inr h) far =
                  get_or-set_other standers q i (stander false (guest_at guests q)) nobody h.1 ∙ are.1 i
                  ∙ ap (λ b. stander b (guest_at guests i)) (was (Some q) e ∙ ne_eqb q i (λ same. h.1 (sym same)))

      -- one whose seat is elsewhere
      kept : (i : ℕ) → get_or found i 0 ≢ j → (old : Option Seat) → seat_at seats j ≡ old
          → get_or (joined standers guests (port_of old)) i nobody ≡ get_or standers i nobody
      kept i apart old at = by (port_of old) refl
        where
          by : (q : Option ℕ) → port_of old ≡ q → get_or (joined standers guests q) i nobody ≡ get_or standers i nobody
          by None e = refl
          by (Some q) e = one (eqb_tells i q)
            where
              one : ((eqb i q ≡ true) × (i ≡ q)) ⊎ ((eqb i q ≡ false) × (i ≢ q))
                  → get_or (joined standers guests (Some q)) i nobody ≡ get_or standers i nobody
              one (inl h) =
                  let its : nat_eq q i ≡ true = search (rules, h.1) in
                  absurd (apart (is i j (ap (is_at i) at ∙ is_at_names i old ∙ ap (names i) e ∙ its)).1)
              one (inr h) = get_or-set_other standers q i (stander false (guest_at guests q)) nobody h.1

      other : (i : ℕ) → i ≢ port → ((eqb (get_or found i 0) j ≡ true) × (get_or found i 0 ≡ j)) ⊎ ((eqb (get_or found i 0) j ≡ false) × (get_or found i 0 ≢ j))
          → get_or (joined standers guests (port_of (seat_at seats j))) i nobody ≡ stander (list_any (is_at i) New) (guest_at guests i)
      other i apart (inl k) =
          let none : list_any (is_at i) New ≡ false =
          elsewhere i apart ∙ ap (λ at. is_at i (seat_at New at)) k.1 ∙ ap (is_at i) (get_or-set_same seats j seat None less) ∙ there i
          ∙ ne_eqb port i (λ same. apart (sym same)) in
          rw none (lost i apart k.1 (seat_at seats j) refl)
      other i apart (inr k) =
          let same : list_any (is_at i) New ≡ list_any (is_at i) seats =
          elsewhere i apart ∙ ap (is_at i) (get_or-set_other seats j (get_or found i 0) seat None k.1) ∙ sym (any_there found seats i is) in
          rw same (kept i k.1 (seat_at seats j) refl ∙ are.1 i)

      each : (i : ℕ) → ((eqb i port ≡ true) × (i ≡ port)) ⊎ ((eqb i port ≡ false) × (i ≢ port))
          → get_or (set (joined standers guests (port_of (seat_at seats j))) port nobody) i nobody ≡ stander (list_any (is_at i) New) (guest_at guests i)
      each i (inl h) =
          rw h.1 (rw here (get_or-set_same (joined standers guests (port_of (seat_at seats j))) port nobody nobody
          (omega (arith, within, are.0, joined_long (port_of (seat_at seats j)))) ∙ sym (seated (guest_at guests port))))
      each i (inr h) =
          get_or-set_other (joined standers guests (port_of (seat_at seats j))) port i nobody nobody h.1 ∙ other i h.1 (eqb_tells (get_or found i 0) j)

-- nobody has a seat, and nobody stands

pub none_own : (n : ℕ) → AreOwners (replicate n nobody) (replicate n None)
none_own zero = refl
none_own (suc n) = ap (λ all. nobody ∷ all) (none_own n)

none_there : {X : Type 0} (n i : ℕ) (d : X) → get_or (replicate n d) i d ≡ d
none_there n i d = by (leb_tells n i)
  where
    by : ((leb n i ≡ true) × (n ≤ i)) ⊎ ((leb n i ≡ false) × (i < n)) → get_or (replicate n d) i d ≡ d
    by (inl h) = get_or_past (replicate n d) i d (omega (arith, h.1, length-replicate n d))
    by (inr h) = get_or-replicate n i d d h.1

pub none_found : (found : List ℕ) (seats : ℕ) → IsFound found (replicate seats None)
none_found found seats port j at = let none = ap (is_at port) (none_there seats j None) in cc

pub none_stand : (ports seats : ℕ) → AreStanders (replicate ports nobody) (replicate ports None) (replicate seats None)
none_stand ports seats = (
  length-replicate ports nobody ∙ sym (length-replicate ports None),
  λ port. none_there ports port nobody
      ∙ ap (stander (list_any (is_at port) (replicate seats None))) (sym (none_there ports port None)),
)
