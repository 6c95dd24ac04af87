-- What an edit leaves, by the places at which it begins and ends.
use Rattle.std.proofs.Common.{◌≡◌, ℕ, zero, suc, ◌-◌, ◌<◌, ◌≤◌, ◌^◌, min, max, Bool, true, false, ltb, eqb, leb, ◌&&◌, List, [], ◌∷◌, ◌++◌, take, drop}
use Rattle.std.proofs.Common.{length, Option, Some, None, refl, sym, ◌∙◌, ap, subst, arith, inl, inr}
use Rattle.std.proofs.lemmas.Bool.{cases_lt, cases_Bool, and_parts, leb-true, leb-false, ltb-true, ltb-false, lt-ltb, le-ltb, and_right, and_from, le-leb}
use Rattle.std.proofs.lemmas.Bool.{lt-leb, eq-eqb, ne_eqb}
use Rattle.std.specs.{Option.option_to_list, Prelude.{IfSome, is_some, nat_lt, nat_le}, List.Sorted.{IsPartitionPoint, IsPartitionedBy}}
use mir.Val.{bool_byte}
use Rattle.nfs_ranges.specs.{declared.Kind.Kind, declared.interval.Interval.Interval, declared.edits.Edit.Edit}
use Rattle.nfs_ranges.specs.Intervals.{is_same, joins, touches, AreFrom, IsCanonical, kept_below, kept_above, put, glue, without, with_range}
use Rattle.nfs_ranges.specs.{Edits.{lead, ends_before, ends_by, apart_by, head, begin_at, end_at, left_before, left_behind}, declared.blocks.Place.Place}
use Rattle.nfs_ranges.specs.Blocks.{flat, last_end, block_at, IsPlace, spliced, spot, ends_whole, ends_whole_by}
use Rattle.nfs_ranges.proofs.{BlockLemmas.{splice_is, spot-le, spot-length}, CanonicalLemmas.same_is, RiseLemmas.{before_lower, by_lower, Rises, rising_parted}}

-- put before intervals that it does not touch
put_apart : (x : Interval) (ys : List Interval) → touches x ys ≡ false → put x ys ≡ x ∷ ys
put_apart x [] e = refl
put_apart x (y ∷ ys) e = rw e refl

touches-put : (x y : Interval) (zs : List Interval) → touches x (put y zs) ≡ joins x y
touches-put x y [] = refl
touches-put x y (z ∷ zs) = elim (cases_Bool (joins y z)) [ inl e ↦ rw e refl | inr e ↦ rw e refl ]

touches-glue : (x : Interval) (b : ℕ) (xs ys : List Interval) → touches x xs ≡ false → touches x ys ≡ false → touches x (glue (kept_below b xs) ys) ≡ false
touches-glue x b [] ys e f = f
touches-glue x b (y ∷ xs) ys e f = elim (cases_Bool (ltb y.first b)) [
  | inl t ↦ rw t (touches-put x (record y { last = min y.last (b - 1) }) (glue (kept_below b xs) ys) ∙ e)
  | inr t ↦ rw t f
]

-- an interval that ends below the range and does not touch what comes behind stays
skip : (x : Interval) (b : ℕ) (xs ys : List Interval) → x.first ≤ x.last → x.last < b → touches x xs ≡ false → touches x ys ≡ false →
    glue (kept_below b (x ∷ xs)) ys ≡ x ∷ glue (kept_below b xs) ys
skip x b xs ys le lt e f =
    let whole : min x.last (b - 1) ≡ x.last = omega arith in
    rw (lt-ltb x.first b (omega arith), whole) (put_apart x (glue (kept_below b xs) ys) (touches-glue x b xs ys e f))

skips : (p : Interval → Bool) (low b : ℕ) (xs ys : List Interval) → AreFrom low xs → ((x : Interval) → p x ≡ true → (x.last < b) × (touches x ys ≡ false)) →
    glue (kept_below b xs) ys ≡ take (lead p xs) xs ++ glue (kept_below b (drop (lead p xs) xs)) ys
skips p low b [] ys are apart = refl
skips p low b (x ∷ xs) ys are apart = elim (cases_Bool (p x)) [
  | inl e ↦ (let here = apart x e in rw e (skip x b xs ys are.1 here.0 are.3 here.1 ∙ ap (λ ts. x ∷ ts) (skips p (suc x.last) b xs ys are.4 apart)))
  | inr e ↦ rw e refl
]

-- what is left above a byte, by its place
abbrev trim : ℕ → List Interval → List Interval
trim b [] = []
trim b (x ∷ xs) = record x { first = max x.first (suc b) } ∷ xs

above_by_place : (b : ℕ) (xs : List Interval) → kept_above b xs ≡ trim b (drop (lead (ends_by b) xs) xs)
above_by_place b [] = refl
above_by_place b (x ∷ xs) = elim (cases_lt b x.last) [
  | inl lt ↦ rw (lt-ltb b x.last lt, lt-leb x.last b lt) refl
  | inr ge ↦ rw (le-ltb b x.last ge, le-leb x.last b ge) (above_by_place b xs)
]

-- at the place itself the test fails
abbrev pub Fails : {X : Type 0} → (X → Bool) → List X → Type 0
Fails p [] = Unit {0}
Fails p (x ∷ xs) = p x ≡ false

pub fails : {X : Type 0} (p : X → Bool) (xs : List X) → Fails p (drop (lead p xs) xs)
fails p [] = tt
fails p (x ∷ xs) = elim (cases_Bool (p x)) [ inl e ↦ rw e (fails p xs) | inr e ↦ rw e e ]

pub from_drop : (n low : ℕ) (xs : List Interval) → AreFrom low xs → (from : ℕ) × AreFrom from (drop n xs)
from_drop zero low xs are = (low, are)
from_drop (suc n) low [] are = (low, are)
from_drop (suc n) low (x ∷ xs) are = from_drop n (suc x.last) xs are.4

-- the end of a range that is held
tail_by_place : (m : Interval) (from : ℕ) (zs : List Interval) → AreFrom from zs → Fails (ends_by m.last) zs → put m (trim m.last zs) ≡
    record m { last = (end_at m.kind m.last (head zs)).byte } ∷
    (option_to_list (end_at m.kind m.last (head zs)).piece ++ drop (end_at m.kind m.last (head zs)).taken zs)
tail_by_place m from [] are not = refl
tail_by_place m from (z ∷ zs) are not = elim (cases_Bool (is_same m.kind z.kind && leb (z.first - 1) m.last)) [
  | inl e ↦ (
      let parts = and_parts (is_same m.kind z.kind) (leb (z.first - 1) m.last) e in
      let near = leb-true (z.first - 1) m.last parts.1 in
      let next : max z.first (suc m.last) ≡ suc m.last = omega arith in
      let join : joins m (record z { first = max z.first (suc m.last) }) ≡ true =
      and_from _ _ parts.0 (eq-eqb (suc m.last) (max z.first (suc m.last)) (sym next)) in
      rw (e, join) refl
      )
  | inr e ↦ (
      let apart : joins m (record z { first = max z.first (suc m.last) }) ≡ false = no_join (is_same m.kind z.kind) z.first m.last e in
      elim (cases_lt m.last z.first) [
        | inl lt ↦ (let same : max z.first (suc m.last) ≡ z.first = omega arith in rw (apart, e, lt-leb z.first m.last lt, same) refl)
        | inr ge ↦ (let same : max z.first (suc m.last) ≡ suc m.last = omega arith in rw (apart, e, le-leb z.first m.last ge, same) refl)
      ]
      )
]
  where
    no_join : (t : Bool) (first last : ℕ) → (t && leb (first - 1) last) ≡ false → (t && eqb (suc last) (max first (suc last))) ≡ false
    no_join false first last e = refl
    no_join true first last e = let lt = leb-false (first - 1) last e in ne_eqb (suc last) (max first (suc last)) (λ same. omega arith)

-- the beginning of a range that is held, before an interval that begins there and is of its kind
none_kept : (b low : ℕ) (xs : List Interval) → b ≤ low → AreFrom low xs → kept_below b xs ≡ []
none_kept b low [] le are = refl
none_kept b low (x ∷ xs) le are = let lo = are.0 in rw (le-ltb x.first b (omega arith)) refl

head_by_place : (k : Kind) (first last : ℕ) (from : ℕ) (xs ts : List Interval) → AreFrom from xs → Fails (apart_by first) xs →
    glue (kept_below first xs) (record { kind = k; first = first; last = last } ∷ ts) ≡ option_to_list (begin_at k first (head xs)).piece ++
    record { kind = k; first = (begin_at k first (head xs)).byte; last = last } ∷ ts
head_by_place k first last from [] ts are not = refl
head_by_place k first last from (x ∷ xs) ts are not = elim (cases_lt x.first first) [
  | inl lt ↦ (
      let ge = ltb-false x.last (first - 1) not in
      let short : min x.last (first - 1) ≡ first - 1 = omega arith in
      let none : kept_below first xs ≡ [] = none_kept first (suc x.last) xs (omega arith) are.4 in
      let next : suc (first - 1) ≡ first = omega arith in
      elim (cases_Bool (is_same x.kind k)) [
        | inl e ↦ (let kinds = same_is x.kind k e in rw (lt-ltb x.first first lt, short, none, e, eq-eqb (suc (first - 1)) first next, kinds) refl)
        | inr e ↦ rw (lt-ltb x.first first lt, short, none, e) refl
      ]
      )
  | inr ge ↦ rw (le-ltb x.first first ge) refl
]

-- a range that is held, by the places
pub held_by_place : (m : Interval) (xs : List Interval) → m.first ≤ m.last → m.last < 2 ^ 64 → IsCanonical xs →
    let i = lead (apart_by m.first) xs in
    let j = lead (ends_by m.last) xs in
    let begin = begin_at m.kind m.first (head (drop i xs)) in
    let end = end_at m.kind m.last (head (drop j xs)) in
    with_range m xs ≡ take i xs ++ (option_to_list begin.piece ++ record { kind = m.kind; first = begin.byte; last = end.byte } ∷
    (option_to_list end.piece ++ drop end.taken (drop j xs)))
held_by_place m xs le small are =
    let i = lead (apart_by m.first) xs in
    let j = lead (ends_by m.last) xs in
    let end = end_at m.kind m.last (head (drop j xs)) in
    let from = from_drop j 0 xs are.from in
    let low = from_drop i 0 xs are.from in
    let tail : put m (kept_above m.last xs) ≡ record m { last = end.byte } ∷ (option_to_list end.piece ++ drop end.taken (drop j xs)) =
    ap (put m) (above_by_place m.last xs) ∙ tail_by_place m from.0 (drop j xs) from.1 (fails (ends_by m.last) xs) in
    ap (glue (kept_below m.first xs)) tail
    ∙ skips (apart_by m.first) 0 m.first xs (record m { last = end.byte } ∷ (option_to_list end.piece ++ drop end.taken (drop j xs))) are.from
    (λ x e. let lt = ltb-true x.last (m.first - 1) e in
    (omega arith, and_right (is_same x.kind m.kind) (eqb (suc x.last) m.first) (ne_eqb (suc x.last) m.first (λ same. omega arith))))
    ∙ ap (λ ts. take i xs ++ ts) (head_by_place m.kind m.first end.byte low.0 (drop i xs) (option_to_list end.piece ++ drop end.taken (drop j xs)) low.1
    (fails (apart_by m.first) xs))

-- a range that is given up, by the places
trim_by_place : (b : ℕ) (zs : List Interval) → trim b zs ≡ option_to_list (left_behind b (head zs)) ++
    drop (length (option_to_list (left_behind b (head zs)))) zs
trim_by_place b [] = refl
trim_by_place b (z ∷ zs) = elim (cases_lt b z.first) [
  | inl lt ↦ (let same : max z.first (suc b) ≡ z.first = omega arith in rw (lt-leb z.first b lt, same) refl)
  | inr ge ↦ (let same : max z.first (suc b) ≡ suc b = omega arith in rw (le-leb z.first b ge, same) refl)
]

no_touch : (x : Interval) (b : ℕ) (zs : List Interval) → x.last < b → touches x (trim b zs) ≡ false
no_touch x b [] lt = refl
no_touch x b (z ∷ zs) lt = and_right (is_same x.kind z.kind) (eqb (suc x.last) (max z.first (suc b)))
    (ne_eqb (suc x.last) (max z.first (suc b)) (λ same. omega arith))

gap_by_place : (first last from : ℕ) (xs zs : List Interval) → first ≤ last → AreFrom from xs → Fails (ends_before first) xs →
    glue (kept_below first xs) (trim last zs) ≡ option_to_list (left_before first (head xs)) ++ trim last zs
gap_by_place first last from [] zs le are not = refl
gap_by_place first last from (x ∷ xs) zs le are not = elim (cases_lt x.first first) [
  | inl lt ↦ (
      let ge = ltb-false x.last first not in
      let short : min x.last (first - 1) ≡ first - 1 = omega arith in
      let none : kept_below first xs ≡ [] = none_kept first (suc x.last) xs (omega arith) are.4 in
      rw (lt-ltb x.first first lt, short, none) (put_apart (record x { last = first - 1 }) (trim last zs)
      (no_touch (record x { last = first - 1 }) last zs (omega arith)))
      )
  | inr ge ↦ rw (le-ltb x.first first ge) refl
]

pub cleared_by_place : (first last : ℕ) (xs : List Interval) → first ≤ last → last < 2 ^ 64 → IsCanonical xs →
    let i = lead (ends_before first) xs in
    let j = lead (ends_by last) xs in
    let behind = left_behind last (head (drop j xs)) in
    without first last xs ≡ take i xs ++ (option_to_list (left_before first (head (drop i xs))) ++
    (option_to_list behind ++ drop (length (option_to_list behind)) (drop j xs)))
cleared_by_place first last xs le small are =
    let i = lead (ends_before first) xs in
    let j = lead (ends_by last) xs in
    let low = from_drop i 0 xs are.from in
    ap (glue (kept_below first xs)) (above_by_place last xs)
    ∙ skips (ends_before first) 0 first xs (trim last (drop j xs)) are.from
    (λ x e. let lt = ltb-true x.last first e in (lt, no_touch x last (drop j xs) (omega arith)))
    ∙ ap (λ ts. take i xs ++ ts) (gap_by_place first last low.0 (drop i xs) (drop j xs) le low.1 (fails (ends_before first) xs))
    ∙ ap (λ ts. take i xs ++ (option_to_list (left_before first (head (drop i xs))) ++ ts)) (trim_by_place last (drop j xs))

-- the place that a search by halving finds
pub lead_point : {X : Type 0} (p : X → Bool) (xs : List X) (i : ℕ) → i ≤ length xs → IsPartitionPoint (λ y. p y ≡ true) (λ y. p y ≡ false) xs i → i ≡ lead p xs
lead_point p [] i le point = omega arith
lead_point p (x ∷ xs) zero le point = rw (point.1 0 x (omega arith) (omega arith)) refl
lead_point p (x ∷ xs) (suc i) le point =
    rw (point.0 0 x (omega arith) (omega arith))
    (ap suc (lead_point p xs i (omega arith) (
      λ k d lo hi. point.0 (suc k) d (omega arith) (omega arith),
      λ k d lo hi. point.1 (suc k) d (omega arith)
          (omega arith),
    )))

ends_rise : (low : ℕ) (xs : List Interval) → AreFrom low xs → Rises (λ (x : Interval). x.last) low xs
ends_rise low [] are = tt
ends_rise low (x ∷ xs) are = let lo = are.0 in let le = are.1 in (omega arith, ends_rise (suc x.last) xs are.4)

pub parted_before : (b : ℕ) (xs : List Interval) → IsCanonical xs → IsPartitionedBy (ends_before b) xs
parted_before b xs are = rising_parted (λ (x : Interval). x.last) (λ n. nat_lt n b) (before_lower b) 0 xs (ends_rise 0 xs are.from)

pub parted_by : (b : ℕ) (xs : List Interval) → IsCanonical xs → IsPartitionedBy (ends_by b) xs
parted_by b xs are = rising_parted (λ (x : Interval). x.last) (λ n. nat_le n b) (by_lower b) 0 xs (ends_rise 0 xs are.from)

-- places
pub lead-length : {X : Type 0} (p : X → Bool) (xs : List X) → lead p xs ≤ length xs
lead-length p [] = omega arith
lead-length p (x ∷ xs) = elim (cases_Bool (p x)) [ inl e ↦ (let rest = lead-length p xs in rw e (omega arith)) | inr e ↦ rw e (omega arith) ]

pub ends_behind : (b : ℕ) (xs : List Interval) → IfSome (head (drop (lead (ends_by b) xs) xs)) (λ z. b < z.last)
ends_behind b xs = by_head (drop (lead (ends_by b) xs) xs) (fails (ends_by b) xs)
  where
    by_head : (ys : List Interval) → Fails (ends_by b) ys → IfSome (head ys) (λ z. b < z.last)
    by_head [] not = tt
    by_head (y ∷ ys) not = leb-false y.last b not

-- one interval is taken at most, and none where there is none
taken_few : (k : Kind) (last : ℕ) (o : Option Interval) → (end_at k last o).taken ≤ length (option_to_list o)
taken_few k last None = omega arith
taken_few k last (Some z) = elim (cases_Bool (is_same k z.kind && leb (z.first - 1) last)) [
  | inl e ↦ rw e (omega arith)
  | inr e ↦ elim (cases_Bool (leb z.first last)) [ inl f ↦ rw (e, f) (omega arith) | inr f ↦ rw (e, f) (omega arith) ]
]

behind_few : (last : ℕ) (o : Option Interval) → length (option_to_list (left_behind last o)) ≤ length (option_to_list o)
behind_few last None = omega arith
behind_few last (Some z) = elim (cases_Bool (leb z.first last)) [ inl f ↦ rw f (omega arith) | inr f ↦ rw f (omega arith) ]

-- the edits, by what stands at their places
abbrev pub set_edit : Kind → ℕ → ℕ → Place → Place → Option Interval → Option Interval → Edit
set_edit k first last from to x z = record {
  from = from;
  to = to;
  taken = (end_at k last z).taken;
  left = (begin_at k first x).piece;
  middle = Some (record { kind = k; first = (begin_at k first x).byte; last = (end_at k last z).byte });
  right = (end_at k last z).piece;
}

abbrev pub clear_edit : ℕ → ℕ → Place → Place → Option Interval → Option Interval → Edit
clear_edit first last from to x z = record {
  from = from;
  to = to;
  taken = length (option_to_list (left_behind last z));
  left = left_before first x;
  middle = None;
  right = left_behind last z;
}

-- what comes behind a place, and behind the interval there
drop_few : {X : Type 0} (t : ℕ) (xs ys : List X) → t ≤ length (option_to_list (head xs)) → drop t xs ++ ys ≡ drop t (xs ++ ys)
drop_few zero xs ys le = refl
drop_few (suc t) [] ys le = absurd (omega arith)
drop_few (suc zero) (x ∷ xs) ys le = refl
drop_few (suc (suc t)) (x ∷ xs) ys le = absurd (omega arith)

behind_place : (p : Interval → Bool) (bs : List (List Interval)) (place : Place) (t : ℕ) → IsPlace p bs place →
    t ≤ length (option_to_list (head (drop (lead p (flat bs)) (flat bs)))) →
    drop t (drop place.at (block_at bs place.block)) ++ flat (drop (suc place.block) bs) ≡ drop t (drop (lead p (flat bs)) (flat bs))
behind_place p bs place t is le =
    drop_few t (drop place.at (block_at bs place.block)) (flat (drop (suc place.block) bs)) (subst (λ o. t ≤ length (option_to_list o)) (sym is.next) le)
    ∙ ap (drop t) is.rest

set_here : (k : Kind) (first last : ℕ) (bs : List (List Interval)) (from to : Place) → first ≤ last → last < 2 ^ 64 → IsCanonical (flat bs) →
    IsPlace (apart_by first) bs from → IsPlace (ends_by last) bs to →
    spliced (set_edit k first last from to (head (drop (lead (apart_by first) (flat bs)) (flat bs))) (head (drop (lead (ends_by last) (flat bs)) (flat bs)))) bs ≡
    with_range (record { kind = k; first = first; last = last }) (flat bs)
set_here k first last bs from to le small are pf pt =
    let i = lead (apart_by first) (flat bs) in
    let j = lead (ends_by last) (flat bs) in
    let begin = begin_at k first (head (drop i (flat bs))) in
    let end = end_at k last (head (drop j (flat bs))) in
    splice_is (flat (take from.block bs)) (take from.at (block_at bs from.block)) (option_to_list begin.piece)
    (record { kind = k; first = begin.byte; last = end.byte } ∷ []) (option_to_list end.piece) (drop end.taken (drop to.at (block_at bs to.block)))
    (flat (drop (suc to.block) bs)) (take i (flat bs)) (drop end.taken (drop j (flat bs))) pf.front
    (behind_place (ends_by last) bs to end.taken pt (taken_few k last (head (drop j (flat bs)))))
    ∙ sym (held_by_place (record { kind = k; first = first; last = last }) (flat bs) le small are)

pub set_spliced : (k : Kind) (first last : ℕ) (bs : List (List Interval)) (from to : Place) (x z : Option Interval) → first ≤ last → last < 2 ^ 64 →
    IsCanonical (flat bs) → IsPlace (apart_by first) bs from → IsPlace (ends_by last) bs to → x ≡ head (drop from.at (block_at bs from.block)) →
    z ≡ head (drop to.at (block_at bs to.block)) →
    spliced (set_edit k first last from to x z) bs ≡ with_range (record { kind = k; first = first; last = last }) (flat bs)
set_spliced k first last bs from to x z le small are pf pt e f =
    ap (λ o. spliced (set_edit k first last from to o z) bs) (e ∙ pf.next)
    ∙ ap (λ o. spliced (set_edit k first last from to (head (drop (lead (apart_by first) (flat bs)) (flat bs))) o) bs) (f ∙ pt.next)
    ∙ set_here k first last bs from to le small are pf pt

clear_here : (first last : ℕ) (bs : List (List Interval)) (from to : Place) → first ≤ last → last < 2 ^ 64 → IsCanonical (flat bs) →
    IsPlace (ends_before first) bs from → IsPlace (ends_by last) bs to →
    spliced (clear_edit first last from to (head (drop (lead (ends_before first) (flat bs)) (flat bs))) (head (drop (lead (ends_by last) (flat bs)) (flat bs)))) bs
    ≡ without first last (flat bs)
clear_here first last bs from to le small are pf pt =
    let i = lead (ends_before first) (flat bs) in
    let j = lead (ends_by last) (flat bs) in
    let behind = left_behind last (head (drop j (flat bs))) in
    splice_is (flat (take from.block bs)) (take from.at (block_at bs from.block)) (option_to_list (left_before first (head (drop i (flat bs)))))
    [] (option_to_list behind) (drop (length (option_to_list behind)) (drop to.at (block_at bs to.block)))
    (flat (drop (suc to.block) bs)) (take i (flat bs)) (drop (length (option_to_list behind)) (drop j (flat bs))) pf.front
    (behind_place (ends_by last) bs to (length (option_to_list behind)) pt (behind_few last (head (drop j (flat bs)))))
    ∙ sym (cleared_by_place first last (flat bs) le small are)

pub clear_spliced : (first last : ℕ) (bs : List (List Interval)) (from to : Place) (x z : Option Interval) → first ≤ last → last < 2 ^ 64 →
    IsCanonical (flat bs) → IsPlace (ends_before first) bs from → IsPlace (ends_by last) bs to → x ≡ head (drop from.at (block_at bs from.block)) →
    z ≡ head (drop to.at (block_at bs to.block)) → spliced (clear_edit first last from to x z) bs ≡ without first last (flat bs)
clear_spliced first last bs from to x z le small are pf pt e f =
    ap (λ o. spliced (clear_edit first last from to o z) bs) (e ∙ pf.next)
    ∙ ap (λ o. spliced (clear_edit first last from to (head (drop (lead (ends_before first) (flat bs)) (flat bs))) o) bs) (f ∙ pt.next)
    ∙ clear_here first last bs from to le small are pf pt

pub places_order : (byte last i j : ℕ) (bs : List (List Interval)) → byte ≤ last → i ≡ spot (ends_whole byte) bs → j ≡ spot (ends_whole_by last) bs →
    (i ≤ j) × (j ≤ length bs)
places_order byte last i j bs le e f =
    let sooner = spot-le (ends_whole byte) (ends_whole_by last) bs (λ b t. let lt = ltb-true (last_end b) byte t in le-leb (last_end b) last (omega arith)) in
    let within = spot-length (ends_whole_by last) bs in
    (omega arith, omega arith)

pub behind_end : (last : ℕ) (bs : List (List Interval)) (to : Place) (z : Option Interval) → IsPlace (ends_by last) bs to →
    z ≡ head (drop to.at (block_at bs to.block)) → IfSome z (λ y. last < y.last)
behind_end last bs to z place e = subst (λ o. IfSome o (λ y. last < y.last)) (sym (e ∙ place.next)) (ends_behind last (flat bs))

pub counted : (o : Option Interval) → bool_byte (is_some o) ≡ length (option_to_list o)
counted None = refl
counted (Some x) = refl
