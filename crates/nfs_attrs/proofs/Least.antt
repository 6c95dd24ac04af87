-- The least attribute of a mask, and the mask without it.
use Rattle.std.proofs.Common.{◌≡◌, ◌≢◌, ℕ, zero, suc, ◌<◌, ◌≤◌, ◌+◌, ◌*◌, ◌/◌, ◌%◌, ◌^◌, ◌&&◌, Bool, true, false, cond, List, [], ◌∷◌, length, get_or, set, refl, sym, ap, ◌∙◌, arith, inl, inr, eqb, min}
use Rattle.std.proofs.lemmas.{Bool.{cases_lt, cases_eq}, List.{get_or-set_same, get_or-set_other}}
use Rattle.std.proofs.lemmas.Nat.Bits.{bit_at_and, bit_at-zero, bit_at-lt, bit_at-trailing_zeros, bit_at_clear_same, bit_at_clear_other}
use Rattle.std.specs.{Prelude.bit_and, Int.{w32, bit_at, bit_not, trailing_zeros}, List.{filter, range_with_len}}
use Rattle.nfs_attrs.specs.Mask.{has, common, numbers_of}
use Rattle.nfs_tree.specs.{declared.object.Object.Object, declared.profile.Profile.TheVariants.Unix}
use Rattle.nfs_attrs.specs.{Asked.values_of, Attributes.{supported, values}, declared.about.About.About, declared.mask.Mask.Mask}
use Rattle.nfs_attrs.proofs.{Values.numbers, Asking.values_of_asked}

-- where no number passes, none is left
none_passes : (p : ℕ → Bool) (a k : ℕ) → ((i : ℕ) → i < a + k → p i ≡ false) → filter p (range_with_len a k) ≡ []
none_passes p a zero off = refl
none_passes p a (suc k) off = rw (off a (omega arith)) (none_passes p (a + 1) k (λ i l. off i (omega arith)))

-- words that are zero, each by its number
pub two_empty : (words : List ℕ) → get_or words 0 0 ≡ 0 → get_or words 1 0 ≡ 0 → (i : ℕ) → i < 2 → get_or words i 0 ≡ 0
two_empty words a b zero low = a
two_empty words a b (suc zero) low = b
two_empty words a b (suc (suc i)) low = absurd (omega arith)

all_empty : (words : List ℕ) → get_or words 0 0 ≡ 0 → get_or words 1 0 ≡ 0 → get_or words 2 0 ≡ 0 → (i : ℕ) → i < 3 → get_or words i 0 ≡ 0
all_empty words a b c zero low = a
all_empty words a b c (suc zero) low = b
all_empty words a b c (suc (suc zero)) low = c
all_empty words a b c (suc (suc (suc i))) low = absurd (omega arith)

-- tests that agree on some numbers let the same of them pass
same_pass : (p q : ℕ → Bool) (a k : ℕ) → ((i : ℕ) → a ≤ i → i < a + k → p i ≡ q i) → filter p (range_with_len a k) ≡ filter q (range_with_len a k)
same_pass p q a zero same = refl
same_pass p q a (suc k) same =
    let here : p a ≡ q a = same a (omega arith) (omega arith) in
    let rest : filter p (range_with_len (a + 1) k) ≡ filter q (range_with_len (a + 1) k) = same_pass p q (a + 1) k (λ i l h. same i (omega arith) (omega arith)) in
    rw (here, rest) refl

-- The first number that passes stands in front of those that pass without it.
first_passes : (p q : ℕ → Bool) (n a k d : ℕ) → n ≡ a + d → n < a + k → p n ≡ true → q n ≡ false → ((i : ℕ) → i < n → p i ≡ false)
    → ((i : ℕ) → i < a + k → i ≢ n → q i ≡ p i) → filter p (range_with_len a k) ≡ n ∷ filter q (range_with_len a k)
first_passes p q n a zero d at low on off before others = absurd (omega arith)
first_passes p q n a (suc k) zero at low on off before others =
    let here : n ≡ a = omega arith in
    let is : p a ≡ true = ap p (sym here) ∙ on in
    let goes : q a ≡ false = ap q (sym here) ∙ off in
    let rest : filter p (range_with_len (a + 1) k) ≡ filter q (range_with_len (a + 1) k) = same_pass p q (a + 1) k (λ i l h. sym (others i (omega arith) (omega arith))) in
    rw (is, goes, rest, here) refl
first_passes p q n a (suc k) (suc d) at low on off before others =
    let no : p a ≡ false = before a (omega arith) in
    let nor : q a ≡ false = others a (omega arith) (omega arith) ∙ no in
    rw (no, nor) (first_passes p q n (a + 1) k d (omega arith) (omega arith) on off before (λ i l apart. others i (omega arith) apart))

pub none_of : (m : Mask) → get_or m.words 0 0 ≡ 0 → get_or m.words 1 0 ≡ 0 → get_or m.words 2 0 ≡ 0 → numbers_of m ≡ []
unfolding numbers_of
none_of m a b c = none_passes (has m) 0 96 (λ i low. rw (all_empty m.words a b c (i / 32) (omega arith), bit_at-zero) refl)

pub least_of : (m : Mask) (j w : ℕ) → get_or m.words j 0 ≡ w → j < 3 → j < length m.words → ((i : ℕ) → i < j → get_or m.words i 0 ≡ 0) → 0 < w → w < 2 ^ 32
    → numbers_of m ≡ (32 * j + trailing_zeros w32 w) ∷ numbers_of (record m { words = set m.words j (bit_and w (bit_not w32 (1 * 2 ^ trailing_zeros w32 w % 2 ^ 32))) })
unfolding numbers_of
least_of m j w here few there empty some fits =
    let t = trailing_zeros w32 w in
    let v = bit_and w (bit_not w32 (1 * 2 ^ t % 2 ^ 32)) in
    let m' : Mask = record m { words = set m.words j v } in
    let n = 32 * j + t in
    let low = bit_at-trailing_zeros w32 w some fits in
    let short : t < 32 = low.0 in
    let word : n / 32 ≡ j = omega arith in
    let bit : n % 32 ≡ t = omega arith in
    let on : has m n ≡ true = rw (word, bit, here, low.1) refl in
    let off : has m' n ≡ false = rw (word, bit, get_or-set_same m.words j v 0 there, bit_at_clear_same w32 w t low.0) refl in
    let before : (i : ℕ) → i < n → has m i ≡ false =
    λ i l. elim (cases_lt (i / 32) j) [
      | inl under ↦ rw (empty (i / 32) under, bit_at-zero) refl
      | inr over ↦ (let same : i / 32 ≡ j = omega arith in rw (same, here, low.2 (i % 32) (omega arith)) refl)
    ] in
    let others : (i : ℕ) → i < 96 → i ≢ n → has m' i ≡ has m i =
    λ i l apart. elim (cases_eq (i / 32) j) [
      | inl same ↦ rw (same, here, get_or-set_same m.words j v 0 there, bit_at_clear_other w32 w t low.0 (i % 32) (omega arith) (omega arith)) refl
      | inr other ↦ rw (get_or-set_other m.words j (i / 32) v 0 other) refl
    ] in
    first_passes (has m) (has m') n 0 96 n (omega arith) (omega arith) on off before others

-- the same of the first word
pub least_of_first : (m : Mask) (w : ℕ) → get_or m.words 0 0 ≡ w → 0 < length m.words → 0 < w → w < 2 ^ 32
    → numbers_of m ≡ trailing_zeros w32 w ∷ numbers_of (record m { words = set m.words 0 (bit_and w (bit_not w32 (1 * 2 ^ trailing_zeros w32 w % 2 ^ 32))) })
least_of_first m w here there some fits =
    let same : 32 * 0 + trailing_zeros w32 w ≡ trailing_zeros w32 w = omega arith in
    least_of m 0 w here (omega arith) there (λ i l. absurd (omega arith)) some fits
    ∙ ap (λ (n : ℕ). n ∷ numbers_of (record m { words = set m.words 0 (bit_and w (bit_not w32 (1 * 2 ^ trailing_zeros w32 w % 2 ^ 32))) })) same

-- what passes two tests
both_pass : (p q : ℕ → Bool) (ns : List ℕ) → filter (λ n. p n && q n) ns ≡ filter p (filter q ns)
both_pass p q [] = refl
both_pass p q (n ∷ ns) = by_second (q n) (both_pass p q ns)
  where
    by_first : (b : Bool) → filter (λ i. p i && q i) ns ≡ filter p (filter q ns)
        → cond (b && true) (n ∷ filter (λ i. p i && q i) ns) (filter (λ i. p i && q i) ns) ≡ cond b (n ∷ filter p (filter q ns)) (filter p (filter q ns))
    by_first true e = ap (λ (w : List ℕ). n ∷ w) e
    by_first false e = e

    by_none : (b : Bool) → filter (λ i. p i && q i) ns ≡ filter p (filter q ns)
        → cond (b && false) (n ∷ filter (λ i. p i && q i) ns) (filter (λ i. p i && q i) ns) ≡ filter p (filter q ns)
    by_none true e = e
    by_none false e = e

    by_second : (c : Bool) → filter (λ i. p i && q i) ns ≡ filter p (filter q ns)
        → cond (p n && c) (n ∷ filter (λ i. p i && q i) ns) (filter (λ i. p i && q i) ns) ≡ filter p (cond c (n ∷ filter q ns) (filter q ns))
    by_second true e = by_first (p n) e
    by_second false e = by_none (p n) e

word_of_common : (a b : Mask) (j : ℕ) → j < 3 → get_or (common a b).words j 0 ≡ bit_and (get_or a.words j 0) (get_or b.words j 0)
word_of_common a b zero low = refl
word_of_common a b (suc zero) low = refl
word_of_common a b (suc (suc zero)) low = refl
word_of_common a b (suc (suc (suc j))) low = absurd (omega arith)

both_ones : (x y : ℕ) → x < 2 → y < 2 → eqb (min x y) 1 ≡ (eqb x 1 && eqb y 1)
both_ones zero zero l h = refl
both_ones zero (suc zero) l h = refl
both_ones (suc zero) zero l h = refl
both_ones (suc zero) (suc zero) l h = refl
both_ones (suc (suc x)) y l h = absurd (omega arith)
both_ones zero (suc (suc y)) l h = absurd (omega arith)
both_ones (suc zero) (suc (suc y)) l h = absurd (omega arith)

has_both : (a b : Mask) (i : ℕ) → i < 96 → has (common a b) i ≡ (has a i && has b i)
has_both a b i low =
    let x = get_or a.words (i / 32) 0 in
    let y = get_or b.words (i / 32) 0 in
    ap (λ (w : ℕ). eqb (bit_at w (i % 32)) 1) (word_of_common a b (i / 32) (omega arith)) ∙ ap (λ (d : ℕ). eqb d 1) (bit_at_and x y (i % 32))
    ∙ both_ones (bit_at x (i % 32)) (bit_at y (i % 32)) (bit_at-lt x (i % 32)) (bit_at-lt y (i % 32))

-- The attributes that are asked for and that the server has.
pub numbers_of_supported : (asked : Mask) → numbers_of (common asked (supported Unix)) ≡ filter (has asked) numbers
unfolding numbers_of
numbers_of_supported asked =
    same_pass (has (common asked (supported Unix))) (λ i. has asked i && has (supported Unix) i) 0 96 (λ i l h. has_both asked (supported Unix) i (omega arith))
    ∙ both_pass (has asked) (has (supported Unix)) (range_with_len 0 96)

-- the values of those
pub same_values : (asked shown : Mask) (a : About) (o : Object) → shown ≡ common asked (supported Unix) → values_of (numbers_of shown) a o ≡ values asked a o
same_values asked shown a o e = ap (λ (m : Mask). values_of (numbers_of m) a o) e
    ∙ ap (λ (ns : List ℕ). values_of ns a o) (numbers_of_supported asked) ∙ values_of_asked asked a o
