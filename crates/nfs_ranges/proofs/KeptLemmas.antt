-- Owners in a list by their numbers: one found, one put, one taken out.
use Rattle.std.proofs.Common.{◌≡◌, ℕ, zero, suc, Bool, true, false, eqb, List, [], ◌∷◌, ◌++◌, drop, set, get_or, refl, sym, ◌∙◌, ap, arith}
use Rattle.std.proofs.{Common.{inl, inr}, lemmas.Bool.{cases_Bool, cases_lt, lt-ltb, le-ltb, eqb-true, ne_eqb}}
use Rattle.std.specs.{Prelude.{not, nat_lt}, List.{insert, remove}, List.Sorted.IsPartitionedBy}
use Rattle.nfs_ranges.specs.{declared.interval.Interval.Interval, Intervals.{IsCanonical, without, with_range}, Holders.{Owned, LockedBytes, bytes_of}}
use Rattle.nfs_ranges.specs.{Edits.{lead, head}, Owners.{is_empty, AreOwners, AreCanonical, entry, with_owner}, Groups.{is_below, is_own}}
use Rattle.nfs_ranges.proofs.{OwnerLemmas.{bytes-canonical, held_some, no_bytes}, RiseLemmas.{before_lower, Rises, rising_parted}}

-- numbers rise
numbers_rise : (low : ℕ) (os : LockedBytes) → AreOwners low os → Rises (λ (o : Owned). o.number) low os
numbers_rise low [] are = tt
numbers_rise low (o ∷ os) are = (are.0, numbers_rise (suc o.number) os are.3)

pub owners_parted : (s : ℕ) (os : LockedBytes) → AreCanonical os → IsPartitionedBy (is_below s) os
owners_parted s os are = rising_parted (λ (o : Owned). o.number) (λ n. nat_lt n s) (before_lower s) 0 os (numbers_rise 0 os are.from)

entry_is : (s : ℕ) (ys : List Interval) (o : Owned) → is_empty ys ≡ false → o.number ≡ s → entry s ys ≡ record o { intervals = ys } ∷ []
entry_is s [] o e n = absurd cc
entry_is s (y ∷ ys) o e n = rw n refl

-- the place of an owner, and whether it stands there
abbrev pub place : ℕ → LockedBytes → ℕ
place s os = lead (is_below s) os

abbrev pub stands : ℕ → LockedBytes → Bool
stands s os = is_own s (head (drop (place s os) os))

bytes_there : (low s : ℕ) (os : LockedBytes) (o : Owned) → AreOwners low os → stands s os ≡ true → o ≡ get_or os (place s os) o → o.intervals ≡ bytes_of os s
bytes_there low s [] o are own e = absurd cc
bytes_there low s (p ∷ os) o are own e = elim (cases_lt p.number s) [
  | inl lt ↦ (
      let own' : stands s os ≡ true = rw (lt-ltb p.number s lt) at own in
      let e' : o ≡ get_or os (place s os) o = rw (lt-ltb p.number s lt) at e in
      rw (ne_eqb p.number s (λ same. omega arith)) (bytes_there (suc p.number) s os o are.3 own' e')
      )
  | inr ge ↦ (
      let own' : eqb p.number s ≡ true = rw (le-ltb p.number s ge) at own in
      let same : o ≡ p = rw (le-ltb p.number s ge) at e in
      rw own' (ap (λ (t : Owned). t.intervals) same)
      )
]

-- an owner that is there holds other intervals
written : (low s : ℕ) (ys : List Interval) (os : LockedBytes) (o : Owned) → AreOwners low os → stands s os ≡ true → o ≡ get_or os (place s os) o →
    is_empty ys ≡ false → set os (place s os) (record o { intervals = ys }) ≡ with_owner s ys os
written low s ys [] o are own e some = absurd cc
written low s ys (p ∷ os) o are own e some = elim (cases_lt p.number s) [
  | inl lt ↦ (
      let own' : stands s os ≡ true = rw (lt-ltb p.number s lt) at own in
      let e' : o ≡ get_or os (place s os) o = rw (lt-ltb p.number s lt) at e in
      rw (lt-ltb p.number s lt) (ap (λ ts. p ∷ ts) (written (suc p.number) s ys os o are.3 own' e' some))
      )
  | inr ge ↦ (
      let own' : eqb p.number s ≡ true = rw (le-ltb p.number s ge) at own in
      let same : o ≡ p = rw (le-ltb p.number s ge) at e in
      let number : o.number ≡ s = ap (λ (t : Owned). t.number) same ∙ eqb-true p.number s own' in
      rw (le-ltb p.number s ge, own') (ap (λ ts. ts ++ os) (sym (entry_is s ys o some number)))
      )
]

-- an owner that goes
removed : (s : ℕ) (os : LockedBytes) → stands s os ≡ true → remove os (place s os) ≡ with_owner s [] os
removed s [] own = absurd cc
removed s (p ∷ os) own = elim (cases_lt p.number s) [
  | inl lt ↦ (
      let own' : stands s os ≡ true = rw (lt-ltb p.number s lt) at own in
      rw (lt-ltb p.number s lt) (ap (λ ts. p ∷ ts) (removed s os own'))
      )
  | inr ge ↦ (let own' : eqb p.number s ≡ true = rw (le-ltb p.number s ge) at own in rw (le-ltb p.number s ge, own') refl)
]

-- one that is not there
pub not_there : (s : ℕ) (os : LockedBytes) → stands s os ≡ false → os ≡ with_owner s [] os
not_there s [] own = refl
not_there s (p ∷ os) own = elim (cases_lt p.number s) [
  | inl lt ↦ (
      let own' : stands s os ≡ false = rw (lt-ltb p.number s lt) at own in
      rw (lt-ltb p.number s lt) (ap (λ ts. p ∷ ts) (not_there s os own'))
      )
  | inr ge ↦ (let own' : eqb p.number s ≡ false = rw (le-ltb p.number s ge) at own in rw (le-ltb p.number s ge, own') refl)
]

bytes_absent : (low s : ℕ) (os : LockedBytes) → AreOwners low os → stands s os ≡ false → bytes_of os s ≡ []
bytes_absent low s [] are own = refl
bytes_absent low s (p ∷ os) are own = elim (cases_lt p.number s) [
  | inl lt ↦ (
      let own' : stands s os ≡ false = rw (lt-ltb p.number s lt) at own in
      rw (ne_eqb p.number s (λ same. omega arith)) (bytes_absent (suc p.number) s os are.3 own')
      )
  | inr ge ↦ (
      let own' : eqb p.number s ≡ false = rw (le-ltb p.number s ge) at own in
      rw own' (no_bytes (suc p.number) os s are.3 (omega arith))
      )
]

inserted : (s : ℕ) (new : Owned) (os : LockedBytes) → stands s os ≡ false → new.number ≡ s → is_empty new.intervals ≡ false →
    insert os (place s os) new ≡ with_owner s new.intervals os
inserted s new [] own number some = sym (entry_is s new.intervals new some number)
inserted s new (p ∷ os) own number some = elim (cases_lt p.number s) [
  | inl lt ↦ (
      let own' : stands s os ≡ false = rw (lt-ltb p.number s lt) at own in
      rw (lt-ltb p.number s lt) (ap (λ ts. p ∷ ts) (inserted s new os own' number some))
      )
  | inr ge ↦ (
      let own' : eqb p.number s ≡ false = rw (le-ltb p.number s ge) at own in
      rw (le-ltb p.number s ge, own') (ap (λ ts. ts ++ p ∷ os) (sym (entry_is s new.intervals new some number)))
      )
]

pub absent_is : (s : ℕ) (os : LockedBytes) → AreCanonical os → not (stands s os) ≡ is_empty (bytes_of os s)
absent_is s os are = go 0 os are.from
  where
    go : (low : ℕ) (os : LockedBytes) → AreOwners low os → not (stands s os) ≡ is_empty (bytes_of os s)
    go low [] are = refl
    go low (p ∷ os) are = elim (cases_lt p.number s) [
      | inl lt ↦ rw (lt-ltb p.number s lt, ne_eqb p.number s (λ same. omega arith)) (go (suc p.number) os are.3)
      | inr ge ↦ rw (le-ltb p.number s ge) (elim (cases_Bool (eqb p.number s)) [
        | inl e ↦ rw e (sym are.1)
        | inr e ↦ rw (e, no_bytes (suc p.number) os s are.3 (omega arith)) refl
      ])
    ]

-- .. though it was written over before
remove_set : (xs : LockedBytes) (n : ℕ) (y : Owned) → remove (set xs n y) n ≡ remove xs n
remove_set [] n y = refl
remove_set (x ∷ xs) zero y = refl
remove_set (x ∷ xs) (suc n) y = ap (λ ts. x ∷ ts) (remove_set xs n y)

-- in the form of the answers
pub own_bytes : (s n : ℕ) (os : LockedBytes) (o : Owned) (r : Bool) → AreCanonical os → n ≡ place s os → r ≡ is_own s (head (drop n os)) → r ≡ true →
    o ≡ get_or os n o → o.intervals ≡ bytes_of os s
own_bytes s n os o r are at own is e =
    bytes_there 0 s os o are.from (ap (λ m. is_own s (head (drop m os))) (sym at) ∙ sym own ∙ is) (e ∙ ap (λ m. get_or os m o) at)

pub own_canonical : (s n : ℕ) (os : LockedBytes) (o : Owned) (r : Bool) → AreCanonical os → n ≡ place s os → r ≡ is_own s (head (drop n os)) → r ≡ true →
    o ≡ get_or os n o → IsCanonical o.intervals
own_canonical s n os o r are at own is e = rw (own_bytes s n os o r are at own is e) (bytes-canonical 0 os s are.from)

pub no_own_bytes : (s n : ℕ) (os : LockedBytes) (r : Bool) → AreCanonical os → n ≡ place s os → r ≡ is_own s (head (drop n os)) → r ≡ false → bytes_of os s ≡ []
no_own_bytes s n os r are at own not = bytes_absent 0 s os are.from (ap (λ m. is_own s (head (drop m os))) (sym at) ∙ sym own ∙ not)

pub own_set : (s n : ℕ) (ys : List Interval) (os : LockedBytes) (o new : Owned) (r : Bool) → AreCanonical os → n ≡ place s os → r ≡ is_own s (head (drop n os))
    → r ≡ true → o ≡ get_or os n o → new ≡ record o { intervals = ys } → is_empty ys ≡ false → set os n new ≡ with_owner s ys os
own_set s n ys os o new r are at own is e made some =
    rw (made, at) (written 0 s ys os o are.from (ap (λ m. is_own s (head (drop m os))) (sym at) ∙ sym own ∙ is) (e ∙ ap (λ m. get_or os m o) at) some)

pub own_held : (s n : ℕ) (m : Interval) (os : LockedBytes) (o new : Owned) (r : Bool) → AreCanonical os → n ≡ place s os → r ≡ is_own s (head (drop n os))
    → r ≡ true → o ≡ get_or os n o → new ≡ record o { intervals = with_range m o.intervals } → set os n new ≡ with_owner s (with_range m (bytes_of os s)) os
own_held s n m os o new r are at own is e made =
    own_set s n (with_range m o.intervals) os o new r are at own is e made (held_some m o.intervals)
    ∙ ap (λ xs. with_owner s (with_range m xs) os) (own_bytes s n os o r are at own is e)

pub new_held : (s n : ℕ) (m : Interval) (os : LockedBytes) (new : Owned) (r : Bool) → AreCanonical os → n ≡ place s os → r ≡ is_own s (head (drop n os))
    → r ≡ false → new ≡ record { number = s; intervals = m ∷ [] } → insert os n new ≡ with_owner s (with_range m (bytes_of os s)) os
new_held s n m os new r are at own not made =
    rw (made, at, no_own_bytes s n os r are at own not)
    (inserted s (record { number = s; intervals = m ∷ [] }) os (ap (λ k. is_own s (head (drop k os))) (sym at) ∙ sym own ∙ not) refl refl)

pub own_removed : (s n : ℕ) (os : LockedBytes) (r : Bool) → n ≡ place s os → r ≡ is_own s (head (drop n os)) → r ≡ true → remove os n ≡ with_owner s [] os
own_removed s n os r at own is = rw at (removed s os (ap (λ m. is_own s (head (drop m os))) (sym at) ∙ sym own ∙ is))

pub own_covered : (s n first last : ℕ) (os : LockedBytes) (o : Owned) (r : Bool) → AreCanonical os → n ≡ place s os → r ≡ is_own s (head (drop n os)) → r ≡ true
    → o ≡ get_or os n o → without first last o.intervals ≡ [] → remove os n ≡ with_owner s (without first last (bytes_of os s)) os
own_covered s n first last os o r are at own is e none =
    own_removed s n os r at own is
    ∙ ap (λ xs. with_owner s xs os) (sym none ∙ ap (without first last) (own_bytes s n os o r are at own is e))

pub none_cleared : (s n first last : ℕ) (os : LockedBytes) (r : Bool) → AreCanonical os → n ≡ place s os → r ≡ is_own s (head (drop n os)) → r ≡ false
    → os ≡ with_owner s (without first last (bytes_of os s)) os
none_cleared s n first last os r are at own not =
    rw (no_own_bytes s n os r are at own not) (not_there s os (ap (λ m. is_own s (head (drop m os))) (sym at) ∙ sym own ∙ not))

pub own_cleared : (s n first last : ℕ) (os : LockedBytes) (o new : Owned) (r : Bool) → AreCanonical os → n ≡ place s os → r ≡ is_own s (head (drop n os))
    → r ≡ true → o ≡ get_or os n o → new ≡ record o { intervals = without first last o.intervals } → is_empty new.intervals ≡ false
    → set os n new ≡ with_owner s (without first last (bytes_of os s)) os
own_cleared s n first last os o new r are at own is e made some =
    own_set s n (without first last o.intervals) os o new r are at own is e made (ap (λ (t : Owned). is_empty t.intervals) (sym made) ∙ some)
    ∙ ap (λ xs. with_owner s (without first last xs) os) (own_bytes s n os o r are at own is e)

no_intervals : (xs : List Interval) → is_empty xs ≡ true → xs ≡ []
no_intervals [] e = refl
no_intervals (x ∷ xs) e = absurd cc

pub own_emptied : (s n first last : ℕ) (os : LockedBytes) (o new : Owned) (r : Bool) → AreCanonical os → n ≡ place s os → r ≡ is_own s (head (drop n os))
    → r ≡ true → o ≡ get_or os n o → new ≡ record o { intervals = without first last o.intervals } → is_empty new.intervals ≡ true
    → remove (set os n new) n ≡ with_owner s (without first last (bytes_of os s)) os
own_emptied s n first last os o new r are at own is e made empty =
    remove_set os n new
    ∙ own_covered s n first last os o r are at own is e (no_intervals _ (ap (λ (t : Owned). is_empty t.intervals) (sym made) ∙ empty))

pub own_dropped : (s n : ℕ) (os : LockedBytes) (r : Bool) → n ≡ place s os → r ≡ is_own s (head (drop n os)) → r ≡ false → os ≡ with_owner s [] os
own_dropped s n os r at own not = not_there s os (ap (λ m. is_own s (head (drop m os))) (sym at) ∙ sym own ∙ not)

pub is_absent : (s n : ℕ) (os : LockedBytes) (r : Bool) → AreCanonical os → n ≡ place s os → r ≡ is_own s (head (drop n os)) → not r ≡ is_empty (bytes_of os s)
is_absent s n os r are at own = ap not (own ∙ ap (λ m. is_own s (head (drop m os))) at) ∙ absent_is s os are
