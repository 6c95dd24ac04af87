-- Canonical lists that say the same of each byte are equal.
use Rattle.std.proofs.Common.{◌≡◌, ◌≢◌, ℕ, suc, ◌<◌, ◌≤◌, ◌^◌, true, false, List, [], ◌∷◌, Some, None, refl, sym, ◌∙◌, ap, arith, inl, inr}
use Rattle.std.proofs.lemmas.Bool.{cases_lt, and_left, and_right, and_from, le-leb, lt-leb, eq-eqb}
use Rattle.nfs_ranges.specs.{declared.Kind.Kind, declared.Kind.TheVariants.{Read, Write}, declared.interval.Interval.Interval}
use Rattle.nfs_ranges.specs.{Intervals.{is_same, joins, touches, AreFrom, IsCanonical}, Holders.{is_within, kind_at}}

pub within_is : (first last b : ℕ) → first ≤ b → b ≤ last → is_within first last b ≡ true
within_is first last b lo hi = and_from _ _ (le-leb first b lo) (le-leb b last hi)

pub within_below : (first last b : ℕ) → b < first → is_within first last b ≡ false
within_below first last b lt = and_left _ _ (lt-leb first b lt)

pub within_above : (first last b : ℕ) → last < b → is_within first last b ≡ false
within_above first last b lt = and_right _ _ (lt-leb b last lt)

pub same_is : (k j : Kind) → is_same k j ≡ true → k ≡ j
same_is Read Read e = refl
same_is Read Write e = absurd cc
same_is Write Read e = absurd cc
same_is Write Write e = refl

pub is_same-self : (k : Kind) → is_same k k ≡ true
is_same-self Read = refl
is_same-self Write = refl

-- an interval is its three fields
pub same_interval : (x y : Interval) → x.kind ≡ y.kind → x.first ≡ y.first → x.last ≡ y.last → x ≡ y
same_interval x y k f l = ap (λ t. record x { kind = t }) k ∙ ap (λ t. record x { kind = y.kind; first = t }) f ∙ ap (λ t. record y { last = t }) l

-- nothing is held below where the intervals begin
pub none_below : (low : ℕ) (xs : List Interval) (b : ℕ) → AreFrom low xs → b < low → kind_at xs b ≡ None
none_below low [] b are lt = refl
none_below low (x ∷ xs) b are lt =
    let lo = are.0 in
    let le = are.1 in
    rw (within_below x.first x.last b (omega arith)) (none_below (suc x.last) xs b are.4 (omega arith))

-- the byte directly behind an interval is not held with its kind
pub ends_there : (x : Interval) (xs : List Interval) → touches x xs ≡ false → AreFrom (suc x.last) xs → kind_at xs (suc x.last) ≢ Some x.kind
ends_there x [] apart are e = absurd cc
ends_there x (y ∷ ys) apart are e =
    let lo = are.0 in
    let le = are.1 in
    elim (cases_lt (suc x.last) y.first) [
      | inl gap ↦ (let none : kind_at (y ∷ ys) (suc x.last) ≡
          None = rw (within_below y.first y.last (suc x.last) gap) (none_below (suc y.last) ys (suc x.last) are.4 (omega arith)) in
          absurd (let bad : None ≡ Some x.kind = sym none ∙ e in cc))
      | inr here ↦ (
          let found : kind_at (y ∷ ys) (suc x.last) ≡ Some y.kind = rw (within_is y.first y.last (suc x.last) here (omega arith)) refl in
          let same : x.kind ≡ y.kind = (let both : Some y.kind ≡ Some x.kind = sym found ∙ e in cc) in
          let join : joins x y ≡ true = and_from _ _ (ap (λ k. is_same k y.kind) same ∙ is_same-self y.kind) (eq-eqb (suc x.last) y.first (omega arith)) in
          absurd (let bad : true ≡ false = sym join ∙ apart in cc)
          )
    ]

-- at the first byte
pub at_first : (x : Interval) (xs : List Interval) → x.first ≤ x.last → kind_at (x ∷ xs) x.first ≡ Some x.kind
at_first x xs le = rw (within_is x.first x.last x.first (omega arith) le) refl

pub at_within : (x : Interval) (xs : List Interval) (b : ℕ) → x.first ≤ b → b ≤ x.last → kind_at (x ∷ xs) b ≡ Some x.kind
at_within x xs b lo hi = rw (within_is x.first x.last b lo hi) refl

pub at_above : (x : Interval) (xs : List Interval) (b : ℕ) → x.last < b → kind_at (x ∷ xs) b ≡ kind_at xs b
at_above x xs b lt = rw (within_above x.first x.last b lt) refl

abbrev Agree : List Interval → List Interval → Type 0
Agree xs ys = (b : ℕ) → b < 2 ^ 64 → kind_at xs b ≡ kind_at ys b

-- of two lists that agree the second does not begin behind the first, nor does its first interval end behind the first's
begins : (low : ℕ) (x : Interval) (xs : List Interval) (y : Interval) (ys : List Interval) → AreFrom low (x ∷ xs) → AreFrom low (y ∷ ys) →
    Agree (x ∷ xs) (y ∷ ys) → y.first ≤ x.first
begins low x xs y ys are bre agree = elim (cases_lt x.first y.first) [
  | inl lt ↦ (
      let le = are.1 in
      let small = are.2 in
      let none : kind_at (y ∷ ys) x.first ≡ None = none_below y.first (y ∷ ys) x.first (omega arith, bre.1, bre.2, bre.3, bre.4) lt in
      absurd (let bad : Some x.kind ≡ None = sym (at_first x xs le) ∙ agree x.first (omega arith) ∙ none in cc)
      )
  | inr ge ↦ ge
]

ends : (low : ℕ) (x : Interval) (xs : List Interval) (y : Interval) (ys : List Interval) → AreFrom low (x ∷ xs) → AreFrom low (y ∷ ys) → x.kind ≡ y.kind →
    x.first ≡ y.first → Agree (x ∷ xs) (y ∷ ys) → y.last ≤ x.last
ends low x xs y ys are bre kind first agree = elim (cases_lt x.last y.last) [
  | inl lt ↦ (
      let le = are.1 in
      let small = bre.2 in
      let more : kind_at xs (suc x.last) ≡ Some x.kind = sym (at_above x xs (suc x.last) (omega arith)) ∙ agree (suc x.last) (omega arith) ∙
      at_within y ys (suc x.last) (omega arith) (omega arith) ∙ ap Some (sym kind) in
      absurd (ends_there x xs are.3 are.4 more)
      )
  | inr ge ↦ ge
]

rest_agree : (low : ℕ) (x : Interval) (xs : List Interval) (y : Interval) (ys : List Interval) → AreFrom low (x ∷ xs) → AreFrom low (y ∷ ys) → x.last ≡ y.last →
    Agree (x ∷ xs) (y ∷ ys) → Agree xs ys
rest_agree low x xs y ys are bre last agree b small = elim (cases_lt x.last b) [
  | inl above ↦ sym (at_above x xs b above) ∙ agree b small ∙ at_above y ys b (omega arith)
  | inr not ↦ none_below (suc x.last) xs b are.4 (omega arith) ∙ sym (none_below (suc y.last) ys b bre.4 (omega arith))
]

pub unique_from : (low : ℕ) (xs ys : List Interval) → AreFrom low xs → AreFrom low ys → ((b : ℕ) → b < 2 ^ 64 → kind_at xs b ≡ kind_at ys b) → xs ≡ ys
unique_from low [] [] are bre agree = refl
unique_from low [] (y ∷ ys) are bre agree = let le = bre.1 in let small = bre.2 in
    absurd (let bad : None ≡ Some y.kind = agree y.first (omega arith) ∙ at_first y ys le in cc)
unique_from low (x ∷ xs) [] are bre agree = let le = are.1 in let small = are.2 in
    absurd (let bad : None ≡ Some x.kind = sym (agree x.first (omega arith)) ∙ at_first x xs le in cc)
unique_from low (x ∷ xs) (y ∷ ys) are bre agree =
    let back = λ (b : ℕ) (small : b < 2 ^ 64). sym (agree b small) in
    let one = begins low x xs y ys are bre agree in
    let two = begins low y ys x xs bre are back in
    let first : x.first ≡ y.first = omega arith in
    let le = are.1 in
    let le' = bre.1 in
    let small = are.2 in
    let both : Some x.kind ≡ Some y.kind = sym (at_first x xs le) ∙ agree x.first (omega arith) ∙ ap (kind_at (y ∷ ys)) first ∙ at_first y ys le' in
    let kind : x.kind ≡ y.kind = cc in
    let three = ends low x xs y ys are bre kind first agree in
    let four = ends low y ys x xs bre are (sym kind) (sym first) back in
    let last : x.last ≡ y.last = omega arith in
    let head : x ≡ y = same_interval x y kind first last in
    let tail : xs ≡ ys = unique_from (suc x.last) xs ys are.4 (rw last bre.4) (rest_agree low x xs y ys are bre last agree) in
    ap (λ t. t ∷ xs) head ∙ ap (λ ts. y ∷ ts) tail

pub canonical_unique : (xs ys : List Interval) → IsCanonical xs → IsCanonical ys → ((b : ℕ) → b < 2 ^ 64 → kind_at xs b ≡ kind_at ys b) → xs ≡ ys
canonical_unique xs ys a b agree = unique_from 0 xs ys a.from b.from agree
