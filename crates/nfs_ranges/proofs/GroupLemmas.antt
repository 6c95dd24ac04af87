-- Owners that lie in groups: which group an owner belongs to, and what a change of one group makes of all.
use Rattle.std.proofs.Common.{◌≡◌, ℕ, zero, suc, ◌-◌, ◌<◌, ◌≤◌, Bool, true, false, eqb, List, [], ◌∷◌, ◌++◌, take, drop, set, length, get_or, refl, sym, ◌∙◌, ap}
use Rattle.std.proofs.{Common.{subst, arith, append_assoc, Some, inl, inr}, lemmas.Bool.{cases_Bool, cases_lt, ltb-true, ltb-false, lt-ltb, le-ltb, ne_eqb}}
use Rattle.std.proofs.lemmas.List.{append-nil, set-get_or}
use Rattle.std.specs.{Prelude.{if◌then◌else◌, slice_get, ◌==◌, nat_lt}, List.{insert, remove}, List.Sorted.IsPartitionedBy}
use Rattle.nfs_ranges.specs.{declared.interval.Interval.Interval, Intervals.{IsCanonical, without, with_range}, Holders.{Owned, LockedBytes, bytes_of}}
use Rattle.nfs_ranges.specs.{Owners.{is_empty, AreOwners, AreCanonical, entry, with_owner}, Blocks.{flat, last_of, AreSome, block_at, spot}}
use Rattle.nfs_ranges.specs.Groups.{AreKept, AreSame, AreSomeBut, IsPut, are_below, last_number}
use Rattle.nfs_ranges.proofs.{BlockLemmas.{block_got, flat_at, flat_set, flat_split, last_got, some_insert, some_set, spot_within}, OwnerLemmas.{no_bytes, owners_later, with_owner-canonical, held_some}, RiseLemmas.{before_lower, Rises, rising_parted}}

-- owners before and behind
pub front_owners : (low : ℕ) (os ps : LockedBytes) → AreOwners low (os ++ ps) → AreOwners low os
front_owners low [] ps are = tt
front_owners low (o ∷ os) ps are = (are.0, are.1, are.2, front_owners (suc o.number) os ps are.3)

rear_owners : (low : ℕ) (os ps : LockedBytes) → AreOwners low (os ++ ps) → (from : ℕ) × AreOwners from ps
rear_owners low [] ps are = (low, are)
rear_owners low (o ∷ os) ps are = rear_owners (suc o.number) os ps are.3

tops : (low : ℕ) (o : Owned) (os ps : LockedBytes) → AreOwners low ((o ∷ os) ++ ps) → (low ≤ (last_of o os).number) × (o.number ≤ (last_of o os).number) ×
    AreOwners (suc (last_of o os).number) ps
tops low o [] ps are = let lo = are.0 in (omega arith, omega arith, are.3)
tops low o (p ∷ os) ps are =
    let lo = are.0 in
    let rest = tops (suc o.number) p os ps are.3 in
    let up = rest.0 in
    (omega arith, omega arith, rest.2)

tops_group : (low : ℕ) (g ps : LockedBytes) → is_empty g ≡ false → AreOwners low (g ++ ps) → (low ≤ last_number g) × AreOwners (suc (last_number g)) ps
tops_group low [] ps some are = absurd cc
tops_group low (o ∷ os) ps some are = let all = tops low o os ps are in (all.0, all.2)

group_from : (low : ℕ) (gs : List LockedBytes) (i : ℕ) → AreOwners low (flat gs) → (from : ℕ) × AreOwners from (block_at gs i)
group_from low [] i are = (low, tt)
group_from low (g ∷ gs) zero are = (low, front_owners low g (flat gs) are)
group_from low (g ∷ gs) (suc i) are = let rest = rear_owners low g (flat gs) are in group_from rest.0 gs i rest.1

pub group_canonical : (gs : List LockedBytes) (i : ℕ) → AreKept gs → AreCanonical (block_at gs i)
group_canonical gs i kept = let from = group_from 0 gs i kept.canonical.from in
    record { from = owners_later 0 from.0 (block_at gs i) (omega arith) from.1 }

pub got_group : (gs : List LockedBytes) (i : ℕ) (g : LockedBytes) → AreKept gs → i < length gs → g ≡ get_or gs i g → AreCanonical g
got_group gs i g kept lt e = subst AreCanonical (block_got gs i g lt e) (group_canonical gs i kept)

-- last numbers rise
last_rise : (low : ℕ) (gs : List LockedBytes) → AreOwners low (flat gs) → AreSome gs → Rises last_number low gs
last_rise low [] are some = tt
last_rise low (g ∷ gs) are some = let here = tops_group low g (flat gs) some.0 are in (here.0, last_rise (suc (last_number g)) gs here.1 some.1)

pub groups_parted : (s : ℕ) (gs : List LockedBytes) → AreKept gs → IsPartitionedBy (are_below s) gs
groups_parted s gs kept = rising_parted last_number (λ n. nat_lt n s) (before_lower s) 0 gs (last_rise 0 gs kept.canonical.from kept.some)

-- a group that ends before the number, and one that does not
skip_group : (low s : ℕ) (xs : List Interval) (o : Owned) (os ps : LockedBytes) → AreOwners low ((o ∷ os) ++ ps) → (last_of o os).number < s →
    (with_owner s xs ((o ∷ os) ++ ps) ≡ (o ∷ os) ++ with_owner s xs ps) × (bytes_of ((o ∷ os) ++ ps) s ≡ bytes_of ps s)
skip_group low s xs o [] ps are lt = rw (lt-ltb o.number s lt, ne_eqb o.number s (λ same. omega arith)) (refl, refl)
skip_group low s xs o (p ∷ os) ps are lt =
    let up = (tops low o (p ∷ os) ps are).1 in
    let rest = skip_group (suc o.number) s xs p os ps are.3 lt in
    rw (lt-ltb o.number s (omega arith), ne_eqb o.number s (λ same. omega arith)) (ap (λ ts. o ∷ ts) rest.0, rest.1)

stop_here : (low s : ℕ) (xs : List Interval) (o : Owned) (os ps : LockedBytes) → AreOwners low ((o ∷ os) ++ ps) → s ≤ o.number →
    (with_owner s xs ((o ∷ os) ++ ps) ≡ with_owner s xs (o ∷ os) ++ ps) × (bytes_of ((o ∷ os) ++ ps) s ≡ bytes_of (o ∷ os) s)
stop_here low s xs o os ps are le = elim (cases_Bool (eqb o.number s)) [
  | inl e ↦ rw (le-ltb o.number s le, e) (sym (append_assoc (entry s xs) os ps), refl)
  | inr e ↦ (
      let all = no_bytes (suc o.number) (os ++ ps) s are.3 (omega arith) in
      let own = no_bytes (suc o.number) os s (front_owners (suc o.number) os ps are.3) (omega arith) in
      rw (le-ltb o.number s le, e) (sym (append_assoc (entry s xs) (o ∷ os) ps), all ∙ sym own)
      )
]

stop_group : (low s : ℕ) (xs : List Interval) (o : Owned) (os ps : LockedBytes) → AreOwners low ((o ∷ os) ++ ps) → s ≤ (last_of o os).number →
    (with_owner s xs ((o ∷ os) ++ ps) ≡ with_owner s xs (o ∷ os) ++ ps) × (bytes_of ((o ∷ os) ++ ps) s ≡ bytes_of (o ∷ os) s)
stop_group low s xs o [] ps are le = stop_here low s xs o [] ps are le
stop_group low s xs o (p ∷ os) ps are le = elim (cases_lt o.number s) [
  | inl lt ↦ (
      let rest = stop_group (suc o.number) s xs p os ps are.3 le in
      rw (lt-ltb o.number s lt, ne_eqb o.number s (λ same. omega arith)) (ap (λ ts. o ∷ ts) rest.0, rest.1)
      )
  | inr ge ↦ stop_here low s xs o (p ∷ os) ps are ge
]

abbrev pub Belongs : ℕ → List Interval → List LockedBytes → ℕ → Type 0
Belongs s xs gs i =
    (with_owner s xs (flat gs) ≡ flat (take i gs) ++ (with_owner s xs (block_at gs i) ++ flat (drop (suc i) gs)))
    × (bytes_of (block_at gs i) s ≡ bytes_of (flat gs) s)

pub belongs : (low s : ℕ) (xs : List Interval) (gs : List LockedBytes) → AreOwners low (flat gs) → AreSome gs → Belongs s xs gs (spot (are_below s) gs)
belongs low s xs [] are some = (sym (append-nil (entry s xs)), refl)
belongs low s xs (g ∷ []) are some = (
  ap (with_owner s xs) (append-nil g) ∙ sym (append-nil (with_owner s xs g)),
  ap (λ os. bytes_of os s) (sym (append-nil g)),
)
belongs low s xs ([] ∷ h ∷ gs) are some = absurd (let bad : true ≡ false = some.0 in cc)
belongs low s xs ((o ∷ os) ∷ h ∷ gs) are some =
    by_test (are_below s (o ∷ os)) refl (belongs (suc (last_of o os).number) s xs (h ∷ gs) (tops low o os (flat (h ∷ gs)) are).2 some.1)
  where
    by_test : (v : Bool) → are_below s (o ∷ os) ≡ v → Belongs s xs (h ∷ gs) (spot (are_below s) (h ∷ gs)) → Belongs s xs ((o ∷ os) ∷ h ∷ gs) (if v then suc (spot (are_below s) (h ∷ gs)) else 0)
    by_test true e rest =
        let i = spot (are_below s) (h ∷ gs) in
        let skip = skip_group low s xs o os (flat (h ∷ gs)) are (ltb-true (last_of o os).number s e) in (
          skip.0
              ∙ ap (λ ts. (o ∷ os) ++ ts) rest.0
              ∙ sym (append_assoc (o ∷ os) (flat (take i (h ∷ gs))) (with_owner s xs (block_at (h ∷ gs) i) ++ flat (drop (suc i) (h ∷ gs)))),
          rest.1 ∙ sym skip.1,
        )
    by_test false e rest =
        let stop = stop_group low s xs o os (flat (h ∷ gs)) are (ltb-false (last_of o os).number s e) in
        (stop.0, sym stop.1)

-- one group in the place of another
pub but_set : (gs : List LockedBytes) (i : ℕ) (g : LockedBytes) → AreSome gs → AreSomeBut i (set gs i g)
but_set [] i g some = tt
but_set (h ∷ gs) zero g some = some.1
but_set (h ∷ gs) (suc i) g some = (some.0, but_set gs i g some.1)

pub some_but : (gs : List LockedBytes) (i : ℕ) (g : LockedBytes) → AreSomeBut i gs → i < length gs → g ≡ get_or gs i g → is_empty g ≡ false → AreSome gs
some_but [] i g but lt e some = tt
some_but (h ∷ gs) zero g but lt e some = (ap is_empty (sym e) ∙ some, but)
some_but (h ∷ gs) (suc i) g but lt e some = (but.0, some_but gs i g but.1 (omega arith) e some)

-- an empty one that goes
pub without_empty : (gs : List LockedBytes) (i : ℕ) (g : LockedBytes) → AreSomeBut i gs → i < length gs → g ≡ get_or gs i g → is_empty g ≡ true →
    AreSame gs (remove gs i)
without_empty [] i g but lt e none = absurd (omega arith)
without_empty (h ∷ gs) zero g but lt e none = record { some = but; same = ap (λ os. os ++ flat gs) (sym (nothing h (ap is_empty (sym e) ∙ none))) }
  where
    nothing : (os : LockedBytes) → is_empty os ≡ true → os ≡ []
    nothing [] e = refl
    nothing (o ∷ os) e = absurd cc
without_empty (h ∷ gs) (suc i) g but lt e none =
    let rest = without_empty gs i g but.1 (omega arith) e none in
    record { some = (but.0, rest.some); same = ap (λ os. h ++ os) rest.same }

-- what is put into the group to which its owner belongs is put into all
pub put_group : (s i : ℕ) (xs : List Interval) (gs : List LockedBytes) (g new : LockedBytes) → AreKept gs → i ≡ spot (are_below s) gs → i < length gs →
    g ≡ get_or gs i g → new ≡ with_owner s xs g → flat (set gs i new) ≡ with_owner s xs (flat gs)
put_group s i xs gs g new kept at lt e made =
    let all = (belongs 0 s xs gs kept.canonical.from kept.some).0 in
    flat_set gs i new lt
    ∙ ap (λ os. flat (take i gs) ++ (os ++ flat (drop (suc i) gs))) (made ∙ ap (with_owner s xs) (sym (block_got gs i g lt e)))
    ∙ ap (λ j. flat (take j gs) ++ (with_owner s xs (block_at gs j) ++ flat (drop (suc j) gs))) at
    ∙ sym all

pub group_bytes : (s i : ℕ) (gs : List LockedBytes) → AreKept gs → i ≡ spot (are_below s) gs → bytes_of (block_at gs i) s ≡ bytes_of (flat gs) s
group_bytes s i gs kept at = ap (λ j. bytes_of (block_at gs j) s) at ∙ (belongs 0 s [] gs kept.canonical.from kept.some).1

pub got_bytes : (s i : ℕ) (gs : List LockedBytes) (g : LockedBytes) → AreKept gs → i ≡ spot (are_below s) gs → i < length gs → g ≡ get_or gs i g →
    bytes_of g s ≡ bytes_of (flat gs) s
got_bytes s i gs g kept at lt e = ap (λ os. bytes_of os s) (sym (block_got gs i g lt e)) ∙ group_bytes s i gs kept at

with_some : (s : ℕ) (xs : List Interval) (os : LockedBytes) → is_empty xs ≡ false → is_empty (with_owner s xs os) ≡ false
with_some s [] os e = absurd cc
with_some s (x ∷ xs) [] e = refl
with_some s (x ∷ xs) (o ∷ os) e = elim (cases_lt o.number s) [
  | inl lt ↦ rw (lt-ltb o.number s lt) refl
  | inr ge ↦ elim (cases_Bool (eqb o.number s)) [ inl own ↦ rw (le-ltb o.number s ge, own) refl | inr not ↦ rw (le-ltb o.number s ge, not) refl ]
]

pub put_some : (s i : ℕ) (xs : List Interval) (gs : List LockedBytes) (g new : LockedBytes) → AreKept gs → i ≡ spot (are_below s) gs → i < length gs →
    g ≡ get_or gs i g → new ≡ with_owner s xs g → is_empty xs ≡ false → IsPut s xs gs (set gs i new)
put_some s i xs gs g new kept at lt e made some = record {
  some = some_set gs i new kept.some (ap is_empty made ∙ with_some s xs g some);
  put = put_group s i xs gs g new kept at lt e made;
}

-- a group in two
pub in_two : (gs : List LockedBytes) (i : ℕ) (g front behind : LockedBytes) → AreSome gs → i < length gs → g ≡ get_or gs i g → front ++ behind ≡ g →
    is_empty front ≡ false → is_empty behind ≡ false → AreSame gs (insert (set gs i front) (suc i) behind)
in_two gs i g front behind some lt e both one two = record {
  some = some_insert (set gs i front) (suc i) behind (some_set gs i front some one) two;
  same = flat_split gs i front behind lt ∙ ap (λ os. flat (take i gs) ++ (os ++ flat (drop (suc i) gs))) both ∙ sym (flat_at gs i g lt e);
}

-- what is kept
pub kept_put : (s : ℕ) (xs : List Interval) (old new : List LockedBytes) → IsPut s xs old new → IsCanonical xs → AreKept old → AreKept new
kept_put s xs old new made is are = record {
  canonical = rw made.put (with_owner-canonical s xs (flat old) is are.canonical);
  some = made.some;
}

pub kept_same : (old new : List LockedBytes) → AreSame old new → AreKept old → AreKept new
kept_same old new same are = record { canonical = rw same.same are.canonical; some = same.some }

-- in the form of the answers: a lock of an owner
pub first_put : (s : ℕ) (m : Interval) (old new : List LockedBytes) (g : LockedBytes) → (length old == 0) ≡ true → new ≡ old ++ g ∷ [] →
    g ≡ record { number = s; intervals = m ∷ [] } ∷ [] → IsPut s (with_range m (bytes_of (flat old) s)) old new
first_put s m [] new g none made is = rw (made, is) (record { some = (refl, tt); put = refl })
first_put s m (h ∷ old) new g none made is =
    absurd (let bad : false ≡ true = sym (ne_eqb (suc (length old)) 0 (λ e. omega arith)) ∙ none in cc)

pub set_put : (s i : ℕ) (m : Interval) (old mid : List LockedBytes) (g new : LockedBytes) → AreKept old → AreSame old mid → i ≡ spot (are_below s) mid →
    i < length mid → g ≡ get_or mid i g → new ≡ with_owner s (with_range m (bytes_of g s)) g → IsPut s (with_range m (bytes_of (flat old) s)) old (set mid i new)
set_put s i m old mid g new are same at lt e made =
    let kept = kept_same old mid same are in
    let inner = put_some s i (with_range m (bytes_of g s)) mid g new kept at lt e made (held_some m (bytes_of g s)) in
    let bytes : bytes_of g s ≡ bytes_of (flat old) s = got_bytes s i mid g kept at lt e ∙ ap (λ os. bytes_of os s) same.same in
    record {
      some = inner.some;
      put = inner.put ∙ ap (λ xs. with_owner s (with_range m xs) (flat mid)) bytes ∙ ap (with_owner s (with_range m (bytes_of (flat old) s))) same.same;
    }

pub set_same : (i : ℕ) (old mid : List LockedBytes) (g new : LockedBytes) → AreSame old mid → g ≡ get_or mid i g → new ≡ g → AreSame old (set mid i new)
set_same i old mid g new same e is =
    let back : set mid i new ≡ mid = ap (set mid i) (is ∙ e) ∙ set-get_or mid i g in
    rw back same

-- an unlock
pub clear_put : (s i first last : ℕ) (old fin : List LockedBytes) (g new : LockedBytes) → AreKept old → i ≡ spot (are_below s) old → i < length old →
    g ≡ get_or old i g → new ≡ with_owner s (without first last (bytes_of g s)) g → AreSame (set old i new) fin →
    IsPut s (without first last (bytes_of (flat old) s)) old fin
clear_put s i first last old fin g new are at lt e made same = record {
  some = same.some;
  put = same.same ∙ put_group s i (without first last (bytes_of g s)) old g new are at lt e made ∙
      ap (λ xs. with_owner s (without first last xs) (flat old)) (got_bytes s i old g are at lt e);
}

pub drop_put : (s i : ℕ) (old fin : List LockedBytes) (g new : LockedBytes) → AreKept old → i ≡ spot (are_below s) old → i < length old →
    g ≡ get_or old i g → new ≡ with_owner s [] g → AreSame (set old i new) fin → IsPut s [] old fin
drop_put s i old fin g new are at lt e made same = record { some = same.some; put = same.same ∙ put_group s i [] old g new are at lt e made }

pub clear_same : (i : ℕ) (old fin : List LockedBytes) (g new : LockedBytes) → g ≡ get_or old i g → new ≡ g → AreSame (set old i new) fin →
    AreSame old fin
clear_same i old fin g new e is same =
    let back : set old i new ≡ old = ap (set old i) (is ∙ e) ∙ set-get_or old i g in
    record { some = same.some; same = same.same ∙ ap flat back }

pub none_put : (s first last : ℕ) (old : List LockedBytes) → (length old == 0) ≡ true → IsPut s (without first last (bytes_of (flat old) s)) old old
none_put s first last [] none = record { some = tt; put = refl }
none_put s first last (h ∷ old) none = absurd (let bad : false ≡ true = sym (ne_eqb (suc (length old)) 0 (λ e. omega arith)) ∙ none in cc)

pub none_dropped : (s : ℕ) (old : List LockedBytes) → (length old == 0) ≡ true → IsPut s [] old old
none_dropped s [] none = record { some = tt; put = refl }
none_dropped s (h ∷ old) none = absurd (let bad : false ≡ true = sym (ne_eqb (suc (length old)) 0 (λ e. omega arith)) ∙ none in cc)

pub within_some : (s i n : ℕ) (gs : List LockedBytes) → 0 < n → n ≤ length gs → i ≡ spot (are_below s) gs → i < length gs
within_some s i n gs some le at = let within = spot_within (are_below s) gs (omega arith) in omega arith

pub some_of : (n : ℕ) (r : Bool) → r ≡ (n == 0) → r ≡ false → 0 < n
some_of zero r e not = absurd (let bad : true ≡ false = sym e ∙ not in cc)
some_of (suc n) r e not = omega arith

-- the last of the owners of a group
pub number_is : (os : LockedBytes) (z : Owned) → Some z ≡ slice_get os (length os - 1) → z.number ≡ last_number os
number_is [] z e = absurd cc
number_is (o ∷ os) z e = ap (λ (t : Owned). t.number) (last_got o z os e)
