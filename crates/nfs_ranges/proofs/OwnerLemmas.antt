-- Owners in rising order: one found, one put, one taken out.
use Rattle.std.proofs.Common.{◌≡◌, ◌≢◌, ℕ, suc, ◌<◌, ◌≤◌, ◌^◌, Bool, false, cond, eqb, ◌&&◌, List, [], ◌∷◌, ◌++◌}
use Rattle.std.proofs.{Common.{Option, Some, None, refl, sym, ◌∙◌, ap, arith, inl, inr}, Math.Path.fun_ext}
use Rattle.std.proofs.lemmas.Bool.{cases_lt, cases_Bool, cases_order, lt-ltb, le-ltb, eqb-true, eq-eqb, ne_eqb}
use Rattle.nfs_ranges.specs.{declared.Kind.Kind, declared.interval.Interval.Interval}
use Rattle.nfs_ranges.specs.Intervals.{IsCanonical, joins, kept_below, kept_above, put, glue, without, with_range}
use Rattle.nfs_ranges.specs.{Holders.{Owned, LockedBytes, bytes_of, at, holding, cleared, dropped, is_within, kind_at}, Laws.Canonical}
use Rattle.nfs_ranges.specs.Owners.{is_empty, AreOwners, AreCanonical, entry, with_owner}
use Rattle.nfs_ranges.proofs.{CanonicalLemmas.{canonical_unique, at_first}, EditLemmas.{at-with_range, at-without}}

pub owners_later : (low more : ℕ) (os : LockedBytes) → low ≤ more → AreOwners more os → AreOwners low os
owners_later low more [] le are = tt
owners_later low more (o ∷ os) le are = (let lo = are.0 in omega arith, are.1, are.2, are.3)

-- an owner below the first holds nothing
pub no_bytes : (low : ℕ) (os : LockedBytes) (s : ℕ) → AreOwners low os → s < low → bytes_of os s ≡ []
no_bytes low [] s are lt = refl
no_bytes low (o ∷ os) s are lt = let lo = are.0 in rw (ne_eqb o.number s (λ same. omega arith)) (no_bytes (suc o.number) os s are.3 (omega arith))

-- what one owner's new intervals make of the list
entry-from : (low s : ℕ) (ys : List Interval) (ps : LockedBytes) → low ≤ s → IsCanonical ys → AreOwners (suc s) ps → AreOwners low (entry s ys ++ ps)
entry-from low s [] ps le is are = owners_later low (suc s) ps (omega arith) are
entry-from low s (y ∷ ys) ps le is are = (le, refl, is, are)

later : (s : ℕ) (o : Owned) (low : ℕ) (os : LockedBytes) → AreOwners low (o ∷ os) → s < o.number → AreOwners (suc s) (o ∷ os)
later s o low os are lt = (lt, are.1, are.2, are.3)

pub with_owner-from : (low s : ℕ) (xs : List Interval) (os : LockedBytes) → low ≤ s → IsCanonical xs → AreOwners low os → AreOwners low (with_owner s xs os)
with_owner-from low s [] [] le is are = tt
with_owner-from low s (x ∷ xs) [] le is are = (le, refl, is, tt)
with_owner-from low s xs (o ∷ os) le is are = elim (cases_order o.number s) [
  | inl same ↦ (let rest : AreOwners (suc s) os = rw (← same) are.3 in
      rw (le-ltb o.number s (omega arith), eq-eqb o.number s same) (entry-from low s xs os le is rest))
  | inr other ↦ elim other [
    | inl lt ↦ rw (lt-ltb o.number s lt) (are.0, are.1, are.2, with_owner-from (suc o.number) s xs os lt is are.3)
    | inr gt ↦ rw (le-ltb o.number s (omega arith), ne_eqb o.number s (λ same. omega arith)) (entry-from low s xs (o ∷ os) le is (later s o low os are gt))
  ]
]

pub with_owner-canonical : (s : ℕ) (xs : List Interval) (os : LockedBytes) → IsCanonical xs → AreCanonical os → AreCanonical (with_owner s xs os)
with_owner-canonical s xs os is are = record { from = with_owner-from 0 s xs os (omega arith) is are.from }

entry-bytes : (s t : ℕ) (ys : List Interval) (ps : LockedBytes) → AreOwners (suc s) ps → bytes_of (entry s ys ++ ps) t ≡ cond (eqb s t) ys (bytes_of ps t)
entry-bytes s t (y ∷ ys) ps are = refl
entry-bytes s t [] ps are = elim (cases_Bool (eqb s t)) [
  | inl e ↦ (let same = eqb-true s t e in rw e (no_bytes (suc s) ps t are (omega arith)))
  | inr e ↦ rw e refl
]

turn : (s n t : ℕ) (xs ys zs : List Interval) → n < s → cond (eqb n t) ys (cond (eqb s t) xs zs) ≡ cond (eqb s t) xs (cond (eqb n t) ys zs)
turn s n t xs ys zs lt = elim (cases_Bool (eqb s t)) [
  | inl e ↦ (let same = eqb-true s t e in rw (e, ne_eqb n t (λ two. omega arith)) refl)
  | inr e ↦ rw e refl
]

instead : (s t : ℕ) (xs ys zs : List Interval) → cond (eqb s t) xs zs ≡ cond (eqb s t) xs (cond (eqb s t) ys zs)
instead s t xs ys zs = elim (cases_Bool (eqb s t)) [ inl e ↦ rw e refl | inr e ↦ rw e refl ]

no_entry : (s t : ℕ) (ys : List Interval) → bytes_of (entry s ys) t ≡ cond (eqb s t) ys []
no_entry s t [] = elim (cases_Bool (eqb s t)) [ inl e ↦ rw e refl | inr e ↦ rw e refl ]
no_entry s t (y ∷ ys) = refl

pub bytes-with_owner : (low s : ℕ) (xs : List Interval) (os : LockedBytes) (t : ℕ) → AreOwners low os → bytes_of (with_owner s xs os) t ≡
    cond (eqb s t) xs (bytes_of os t)
bytes-with_owner low s xs [] t are = no_entry s t xs
bytes-with_owner low s xs (o ∷ os) t are = elim (cases_order o.number s) [
  | inl same ↦ (let rest : AreOwners (suc s) os = rw (← same) are.3 in
      rw (le-ltb o.number s (omega arith), eq-eqb o.number s same) (entry-bytes s t xs os rest ∙ rw same (instead s t xs o.intervals (bytes_of os t))))
  | inr other ↦ elim other [
    | inl lt ↦ rw (lt-ltb o.number s lt) (ap (cond (eqb o.number t) o.intervals) (bytes-with_owner (suc o.number) s xs os t are.3) ∙
        turn s o.number t xs o.intervals (bytes_of os t) lt)
    | inr gt ↦ rw (le-ltb o.number s (omega arith), ne_eqb o.number s (λ same. omega arith)) (entry-bytes s t xs (o ∷ os) (later s o low os are gt))
  ]
]

-- an owner's intervals are canonical
pub bytes-canonical : (low : ℕ) (os : LockedBytes) (s : ℕ) → AreOwners low os → IsCanonical (bytes_of os s)
bytes-canonical low [] s are = record { from = tt }
bytes-canonical low (o ∷ os) s are = elim (cases_Bool (eqb o.number s)) [ inl e ↦ rw e are.2 | inr e ↦ rw e (bytes-canonical (suc o.number) os s are.3) ]

-- and as functions
changed : (s : ℕ) (xs : List Interval) (os : LockedBytes) (t b : ℕ) → AreCanonical os → at (with_owner s xs os) t b ≡ cond (eqb s t) (kind_at xs b) (at os t b)
changed s xs os t b are = ap (λ ys. kind_at ys b) (bytes-with_owner 0 s xs os t are.from) ∙
    elim (cases_Bool (eqb s t)) as (λ v. kind_at (cond (eqb s t) xs (bytes_of os t)) b ≡
    cond (eqb s t) (kind_at xs b) (at os t b)) [ inl e ↦ rw e refl | inr e ↦ rw e refl ]

one_owner : (s t : ℕ) (os : LockedBytes) (b : ℕ) (inside : Bool) (new : Option Kind) (k : Option Kind) → k ≡ cond inside new (at os s b) →
    cond (eqb s t) k (at os t b) ≡ cond (eqb s t && inside) new (at os t b)
one_owner s t os b inside new k e = elim (cases_Bool (eqb s t)) [ inl is ↦ (let same = eqb-true s t is in rw (is, e, same) refl) | inr is ↦ rw is refl ]

pub at_held : (s : ℕ) (m : Interval) (os : LockedBytes) → m.first ≤ m.last → m.last < 2 ^ 64 → AreCanonical os →
    at (with_owner s (with_range m (bytes_of os s)) os) ≡ holding (at os) s m.kind m.first m.last
at_held s m os le small are = fun_ext (λ t. fun_ext (λ b.
    changed s (with_range m (bytes_of os s)) os t b are
    ∙ one_owner s t os b (is_within m.first m.last b) (Some m.kind) (kind_at (with_range m (bytes_of os s)) b)
    (at-with_range m (bytes_of os s) b le small (bytes-canonical 0 os s are.from))))

pub at_cleared : (s first last : ℕ) (os : LockedBytes) → first ≤ last → last < 2 ^ 64 → AreCanonical os →
    at (with_owner s (without first last (bytes_of os s)) os) ≡ cleared (at os) s first last
at_cleared s first last os le small are = fun_ext (λ t. fun_ext (λ b.
    changed s (without first last (bytes_of os s)) os t b are
    ∙ one_owner s t os b (is_within first last b) None (kind_at (without first last (bytes_of os s)) b)
    (at-without first last (bytes_of os s) b le small (bytes-canonical 0 os s are.from))))

pub at_dropped : (s : ℕ) (os : LockedBytes) → AreCanonical os → at (with_owner s [] os) ≡ dropped (at os) s
at_dropped s os are = fun_ext (λ t. fun_ext (λ b. changed s [] os t b are))

-- lists that say the same are equal
holds_some : (xs : List Interval) → is_empty xs ≡ false → IsCanonical xs → (b : ℕ) × (b < 2 ^ 64) × (kind_at xs b ≢ None)
holds_some [] e is = absurd cc
holds_some (x ∷ xs) e is = let le = is.from.1 in let small = is.from.2 in
    (x.first, omega arith, λ none. let some = at_first x xs le in let bad : Some x.kind ≡ None = sym some ∙ none in cc)

first_number : (low : ℕ) (o : Owned) (os : LockedBytes) (ps : LockedBytes) → AreOwners low (o ∷ os) → ((s b : ℕ) → b < 2 ^ 64 → at (o ∷ os) s b ≡ at ps s b) →
    bytes_of ps o.number ≢ []
first_number low o os ps are agree none =
    let some = holds_some o.intervals are.1 are.2 in
    let mine : at (o ∷ os) o.number some.0 ≡ kind_at o.intervals some.0 = rw (eq-eqb o.number o.number refl) refl in
    some.2 (sym mine ∙ agree o.number some.0 some.1 ∙ ap (λ xs. kind_at xs some.0) none)

not_behind : (low : ℕ) (o : Owned) (os : LockedBytes) (p : Owned) (ps : LockedBytes) → AreOwners low (o ∷ os) → AreOwners low (p ∷ ps) →
    ((s b : ℕ) → b < 2 ^ 64 → at (o ∷ os) s b ≡ at (p ∷ ps) s b) → p.number ≤ o.number
not_behind low o os p ps are bre agree = elim (cases_lt o.number p.number) [
  | inl lt ↦ absurd (first_number low o os (p ∷ ps) are agree (no_bytes p.number (p ∷ ps) o.number (omega arith, bre.1, bre.2, bre.3) lt))
  | inr ge ↦ ge
]

same_owned : (o p : Owned) → o.number ≡ p.number → o.intervals ≡ p.intervals → o ≡ p
same_owned o p n i = ap (λ t. record o { number = t }) n ∙ ap (λ t. record p { intervals = t }) i

own_bytes : (o : Owned) (os : LockedBytes) (s : ℕ) → o.number ≡ s → bytes_of (o ∷ os) s ≡ o.intervals
own_bytes o os s e = rw (eq-eqb o.number s e) refl

other_bytes : (o : Owned) (os : LockedBytes) (s : ℕ) → o.number < s → bytes_of (o ∷ os) s ≡ bytes_of os s
other_bytes o os s lt = rw (ne_eqb o.number s (λ same. omega arith)) refl

owners_unique : (low : ℕ) (os ps : LockedBytes) → AreOwners low os → AreOwners low ps → ((s b : ℕ) → b < 2 ^ 64 → at os s b ≡ at ps s b) → os ≡ ps
owners_unique low [] [] are bre agree = refl
owners_unique low [] (p ∷ ps) are bre agree = absurd (first_number low p ps [] bre (λ s b l. sym (agree s b l)) refl)
owners_unique low (o ∷ os) [] are bre agree = absurd (first_number low o os [] are agree refl)
owners_unique low (o ∷ os) (p ∷ ps) are bre agree =
    let one = not_behind low o os p ps are bre agree in
    let two = not_behind low p ps o os bre are (λ s b l. sym (agree s b l)) in
    let number : o.number ≡ p.number = omega arith in
    let bytes : o.intervals ≡ p.intervals = canonical_unique o.intervals p.intervals are.2 bre.2 (λ b l.
    ap (λ xs. kind_at xs b) (sym (own_bytes o os o.number refl)) ∙ agree o.number b l ∙ ap (λ xs. kind_at xs b) (own_bytes p ps o.number (sym number))) in
    let rest : os ≡ ps = owners_unique (suc o.number) os ps are.3 (rw number bre.3) (λ s b l. elim (cases_lt o.number s) [
      | inl lt ↦ ap (λ xs. kind_at xs b) (sym (other_bytes o os s lt)) ∙ agree s b l ∙ ap (λ xs. kind_at xs b) (other_bytes p ps s (omega arith))
      | inr ge ↦ ap (λ xs. kind_at xs b) (no_bytes (suc o.number) os s are.3 (omega arith) ∙ sym (no_bytes (suc p.number) ps s bre.3 (omega arith)))
    ]) in
    ap (λ t. t ∷ os) (same_owned o p number bytes) ∙ ap (λ ts. p ∷ ts) rest

pub canonical : Canonical
canonical os ps are bre agree = owners_unique 0 os ps are.from bre.from agree

-- what is held is not empty
put_some : (m : Interval) (xs : List Interval) → is_empty (put m xs) ≡ false
put_some m [] = refl
put_some m (x ∷ xs) = elim (cases_Bool (joins m x)) [ inl e ↦ rw e refl | inr e ↦ rw e refl ]

glue_some : (xs ys : List Interval) → is_empty ys ≡ false → is_empty (glue xs ys) ≡ false
glue_some [] ys e = e
glue_some (x ∷ xs) ys e = put_some x (glue xs ys)

pub held_some : (m : Interval) (xs : List Interval) → is_empty (with_range m xs) ≡ false
held_some m xs = glue_some (kept_below m.first xs) (put m (kept_above m.last xs)) (put_some m (kept_above m.last xs))
