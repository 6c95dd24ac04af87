-- What a range given up or held leaves: canonical again, and right at each byte.
use Rattle.std.proofs.Common.{◌≡◌, ℕ, suc, ◌-◌, ◌<◌, ◌≤◌, ◌^◌, min, max, Bool, true, false, cond, ltb, eqb, ◌&&◌, List, [], ◌∷◌, Option, Some, None, refl, sym}
use Rattle.std.proofs.{Common.{◌∙◌, ap, arith, inl, inr}, lemmas.Bool.{cases_lt, cases_Bool, and_parts, ltb-true, ltb-false, lt-ltb, le-ltb, eqb-true}}
use Rattle.std.proofs.lemmas.Bool.Decides.{nat_tests}
use Rattle.nfs_ranges.specs.{declared.Kind.Kind, declared.interval.Interval.Interval}
use Rattle.nfs_ranges.specs.Intervals.{is_same, joins, touches, AreFrom, IsCanonical, kept_below, kept_above, put, glue, without, with_range}
use Rattle.nfs_ranges.specs.Holders.{is_within, kind_at}
use Rattle.nfs_ranges.proofs.CanonicalLemmas.{within_is, within_below, within_above, same_is, none_below}

-- the first of two answers
abbrev pub or_else : Option Kind → Option Kind → Option Kind
or_else None y = y
or_else (Some x) y = Some x

-- sorted, disjoint, none empty, within low and high; neighbours may join
abbrev pub AreWithin : ℕ → List Interval → ℕ → Type 0
AreWithin low [] high = low ≤ high
AreWithin low (x ∷ xs) high = (low ≤ x.first) × (x.first ≤ x.last) × (x.last < high) × AreWithin (suc x.last) xs high

pub from_later : (low more : ℕ) (xs : List Interval) → low ≤ more → AreFrom more xs → AreFrom low xs
from_later low more [] le are = tt
from_later low more (x ∷ xs) le are = (let lo = are.0 in omega arith, are.1, are.2, are.3, are.4)

-- two that join say together what the joined one says
join_at : (x y : Interval) (b : ℕ) (rest : Option Kind) → is_same x.kind y.kind ≡ true → suc x.last ≡ y.first → x.first ≤ x.last → y.first ≤ y.last →
    cond (is_within x.first y.last b) (Some x.kind) rest ≡
    cond (is_within x.first x.last b) (Some x.kind) (cond (is_within y.first y.last b) (Some y.kind) rest)
join_at x y b rest same next le le' = let kinds = same_is x.kind y.kind same in rw (← kinds) (grind (arith, nat_tests))

joins_parts : (x y : Interval) → joins x y ≡ true → (is_same x.kind y.kind ≡ true) × (suc x.last ≡ y.first)
joins_parts x y e = let parts = and_parts (is_same x.kind y.kind) (eqb (suc x.last) y.first) e in (parts.0, eqb-true (suc x.last) y.first parts.1)

-- an interval put before others
pub at-put : (x : Interval) (low : ℕ) (ys : List Interval) (b : ℕ) → x.first ≤ x.last → AreFrom low ys → kind_at (put x ys) b ≡ kind_at (x ∷ ys) b
at-put x low [] b le are = refl
at-put x low (y ∷ ys) b le are = elim (cases_Bool (joins x y)) [
  | inl e ↦ (let parts = joins_parts x y e in rw e (join_at x y b (kind_at ys b) parts.0 parts.1 le are.1))
  | inr e ↦ rw e refl
]

-- what is joined touches the next as the second did
joined_touches : (x y : Interval) (zs : List Interval) → is_same x.kind y.kind ≡ true → touches (record x { last = y.last }) zs ≡ touches y zs
joined_touches x y [] same = refl
joined_touches x y (z ∷ zs) same = let kinds = same_is x.kind y.kind same in ap (λ k. is_same k z.kind && eqb (suc y.last) z.first) kinds

pub put-from : (x : Interval) (low : ℕ) (ys : List Interval) → low ≤ x.first → x.first ≤ x.last → x.last < 2 ^ 64 → AreFrom (suc x.last) ys →
    AreFrom low (put x ys)
put-from x low [] lo le small are = (lo, le, small, refl, tt)
put-from x low (y ∷ ys) lo le small are = elim (cases_Bool (joins x y)) [
  | inl e ↦ (let parts = joins_parts x y e in let lo' = are.0 in let le' = are.1 in rw e (lo, omega arith, are.2, joined_touches x y ys parts.0 ∙ are.3, are.4))
  | inr e ↦ rw e (lo, le, small, e, are)
]

pub glue-from : (low : ℕ) (xs : List Interval) (high : ℕ) (ys : List Interval) → high ≤ 2 ^ 64 → AreWithin low xs high → AreFrom high ys →
    AreFrom low (glue xs ys)
glue-from low [] high ys small are bre = from_later low high ys are bre
glue-from low (x ∷ xs) high ys small are bre = let hi = are.2 in
    put-from x low (glue xs ys) are.0 are.1 (omega arith) (glue-from (suc x.last) xs high ys small are.3 bre)

or_else-cond : (t : Bool) (k : Kind) (x y : Option Kind) → cond t (Some k) (or_else x y) ≡ or_else (cond t (Some k) x) y
or_else-cond true k x y = refl
or_else-cond false k x y = refl

pub at-glue : (low : ℕ) (xs : List Interval) (high : ℕ) (ys : List Interval) (b : ℕ) → high ≤ 2 ^ 64 → AreWithin low xs high → AreFrom high ys →
    kind_at (glue xs ys) b ≡ or_else (kind_at xs b) (kind_at ys b)
at-glue low [] high ys b small are bre = refl
at-glue low (x ∷ xs) high ys b small are bre =
    at-put x (suc x.last) (glue xs ys) b are.1 (glue-from (suc x.last) xs high ys small are.3 bre)
    ∙ ap (cond (is_within x.first x.last b) (Some x.kind)) (at-glue (suc x.last) xs high ys b small are.3 bre)
    ∙ or_else-cond (is_within x.first x.last b) x.kind (kind_at xs b) (kind_at ys b)

-- what is left below a byte
below_none : (b low : ℕ) (xs : List Interval) → b ≤ low → AreFrom low xs → kept_below b xs ≡ []
below_none b low [] le are = refl
below_none b low (x ∷ xs) le are = let lo = are.0 in rw (le-ltb x.first b (omega arith)) refl

pub kept_below-within : (low b : ℕ) (xs : List Interval) → low ≤ b → AreFrom low xs → AreWithin low (kept_below b xs) b
kept_below-within low b [] le are = le
kept_below-within low b (x ∷ xs) le are = elim (cases_Bool (ltb x.first b)) [
  | inl e ↦ (
      let lt = ltb-true x.first b e in
      let le' = are.1 in
      let rest : AreWithin (suc (min x.last (b - 1))) (kept_below b xs) b = elim (cases_lt x.last b) [
        | inl inside ↦ (let same : min x.last (b - 1) ≡ x.last = omega arith in rw same (kept_below-within (suc x.last) b xs (omega arith) are.4))
        | inr over ↦ rw (below_none b (suc x.last) xs (omega arith) are.4) (let le : suc (min x.last (b - 1)) ≤ b = omega arith in le)
      ] in
      rw e (are.0, omega arith, omega arith, rest)
      )
  | inr e ↦ rw e le
]

below_step : (x : Interval) (b c : ℕ) (rest : Option Kind) → x.first < b →
    cond (is_within x.first (min x.last (b - 1)) c) (Some x.kind) (cond (ltb c b) rest None) ≡
    cond (ltb c b) (cond (is_within x.first x.last c) (Some x.kind) rest) None
below_step x b c rest lt = grind (arith, nat_tests)

same_either : (t : Bool) (x : Option Kind) → x ≡ cond t x x
same_either true x = refl
same_either false x = refl

pub at-kept_below : (low b : ℕ) (xs : List Interval) (c : ℕ) → AreFrom low xs → kind_at (kept_below b xs) c ≡ cond (ltb c b) (kind_at xs c) None
at-kept_below low b [] c are = same_either (ltb c b) None
at-kept_below low b (x ∷ xs) c are = elim (cases_Bool (ltb x.first b)) [
  | inl e ↦ rw (e, at-kept_below (suc x.last) b xs c are.4) (below_step x b c (kind_at xs c) (ltb-true x.first b e))
  | inr e ↦ rw e (elim (cases_lt c b) [
    | inl lt ↦ (let ge = ltb-false x.first b e in rw (lt-ltb c b lt)
        (sym (none_below x.first (x ∷ xs) c (omega arith, are.1, are.2, are.3, are.4) (omega arith))))
    | inr not ↦ rw (le-ltb c b not) refl
  ])
]

-- what is left above a byte
trimmed_touches : (x : Interval) (xs : List Interval) (f : ℕ) → touches (record x { first = f }) xs ≡ touches x xs
trimmed_touches x [] f = refl
trimmed_touches x (y ∷ ys) f = refl

pub kept_above-from : (low b : ℕ) (xs : List Interval) → AreFrom low xs → AreFrom (suc b) (kept_above b xs)
kept_above-from low b [] are = tt
kept_above-from low b (x ∷ xs) are = elim (cases_Bool (ltb b x.last)) [
  | inl e ↦ (let lt = ltb-true b x.last e in let le = are.1 in
      rw e (omega arith, omega arith, are.2, trimmed_touches x xs (max x.first (suc b)) ∙ are.3, are.4))
  | inr e ↦ rw e (kept_above-from (suc x.last) b xs are.4)
]

pub at-kept_above : (low b : ℕ) (xs : List Interval) (c : ℕ) → AreFrom low xs → kind_at (kept_above b xs) c ≡ cond (ltb b c) (kind_at xs c) None
at-kept_above low b [] c are = same_either (ltb b c) None
at-kept_above low b (x ∷ xs) c are = elim (cases_lt b c) [
  | inl lt ↦ rw (lt-ltb b c lt) (elim (cases_Bool (ltb b x.last)) [
    | inl e ↦ rw e (grind (arith, nat_tests))
    | inr e ↦ (let ge = ltb-false b x.last e in rw (e, within_above x.first x.last c (omega arith))
        (at-kept_above (suc x.last) b xs c are.4 ∙ rw (lt-ltb b c lt) refl))
  ])
  | inr ge ↦ rw (le-ltb b c ge) (none_below (suc b) (kept_above b (x ∷ xs)) c (kept_above-from low b (x ∷ xs) are) (omega arith))
]

-- the range given up
cut_out : (first last b : ℕ) (old : Option Kind) → first ≤ last → or_else (cond (ltb b first) old None) (cond (ltb last b) old None) ≡
    cond (is_within first last b) None old
cut_out first last b old le = elim (cases_lt b first) [
  | inl below ↦ rw (lt-ltb b first below, le-ltb last b (omega arith), within_below first last b below) (or_none old)
  | inr not ↦ elim (cases_lt last b) [
    | inl above ↦ rw (le-ltb b first not, lt-ltb last b above, within_above first last b above) refl
    | inr inside ↦ rw (le-ltb b first not, le-ltb last b inside, within_is first last b not inside) refl
  ]
]
  where
    or_none : (x : Option Kind) → or_else x None ≡ x
    or_none None = refl
    or_none (Some k) = refl

pub without-canonical : (first last : ℕ) (xs : List Interval) → first ≤ last → last < 2 ^ 64 → IsCanonical xs → IsCanonical (without first last xs)
without-canonical first last xs le small are = record {
  from =
      glue-from 0 (kept_below first xs) first (kept_above last xs) (omega arith) (kept_below-within 0 first xs (omega arith) are.from)
      (from_later first (suc last) (kept_above last xs) (omega arith) (kept_above-from 0 last xs are.from));
}

pub at-without : (first last : ℕ) (xs : List Interval) (b : ℕ) → first ≤ last → last < 2 ^ 64 → IsCanonical xs → kind_at (without first last xs) b ≡
    cond (is_within first last b) None (kind_at xs b)
at-without first last xs b le small are =
    at-glue 0 (kept_below first xs) first (kept_above last xs) b (omega arith) (kept_below-within 0 first xs (omega arith) are.from)
    (from_later first (suc last) (kept_above last xs) (omega arith) (kept_above-from 0 last xs are.from))
    ∙ ap (λ o. or_else o (kind_at (kept_above last xs) b)) (at-kept_below 0 first xs b are.from)
    ∙ ap (or_else (cond (ltb b first) (kind_at xs b) None)) (at-kept_above 0 last xs b are.from)
    ∙ cut_out first last b (kind_at xs b) le

-- the range held
put_in : (first last b : ℕ) (k : Kind) (old : Option Kind) → first ≤ last →
    or_else (cond (ltb b first) old None) (cond (is_within first last b) (Some k) (cond (ltb last b) old None)) ≡ cond (is_within first last b) (Some k) old
put_in first last b k old le = elim (cases_lt b first) [
  | inl below ↦ rw (lt-ltb b first below, le-ltb last b (omega arith), within_below first last b below) (or_none old)
  | inr not ↦ elim (cases_lt last b) [
    | inl above ↦ rw (le-ltb b first not, lt-ltb last b above, within_above first last b above) refl
    | inr inside ↦ rw (le-ltb b first not, le-ltb last b inside, within_is first last b not inside) refl
  ]
]
  where
    or_none : (x : Option Kind) → or_else x None ≡ x
    or_none None = refl
    or_none (Some k) = refl

with_tail : (m : Interval) (xs : List Interval) → m.first ≤ m.last → m.last < 2 ^ 64 → IsCanonical xs → AreFrom m.first (put m (kept_above m.last xs))
with_tail m xs le small are = put-from m m.first (kept_above m.last xs) (omega arith) le small (kept_above-from 0 m.last xs are.from)

pub with_range-canonical : (m : Interval) (xs : List Interval) → m.first ≤ m.last → m.last < 2 ^ 64 → IsCanonical xs → IsCanonical (with_range m xs)
with_range-canonical m xs le small are = record {
  from =
      glue-from 0 (kept_below m.first xs) m.first (put m (kept_above m.last xs)) (omega arith) (kept_below-within 0 m.first xs (omega arith) are.from)
      (with_tail m xs le small are);
}

pub at-with_range : (m : Interval) (xs : List Interval) (b : ℕ) → m.first ≤ m.last → m.last < 2 ^ 64 → IsCanonical xs → kind_at (with_range m xs) b ≡
    cond (is_within m.first m.last b) (Some m.kind) (kind_at xs b)
at-with_range m xs b le small are =
    at-glue 0 (kept_below m.first xs) m.first (put m (kept_above m.last xs)) b (omega arith) (kept_below-within 0 m.first xs (omega arith) are.from)
    (with_tail m xs le small are)
    ∙ ap (λ o. or_else o (kind_at (put m (kept_above m.last xs)) b)) (at-kept_below 0 m.first xs b are.from)
    ∙ ap (or_else (cond (ltb b m.first) (kind_at xs b) None))
    (at-put m (suc m.last) (kept_above m.last xs) b le (kept_above-from 0 m.last xs are.from) ∙
    ap (cond (is_within m.first m.last b) (Some m.kind)) (at-kept_above 0 m.last xs b are.from))
    ∙ put_in m.first m.last b m.kind (kind_at xs b) le
