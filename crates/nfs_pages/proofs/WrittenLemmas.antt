-- In how many pages of a map something was written.
use Rattle.std.proofs.Common.{◌≡◌, ◌≢◌, ℕ, ◌+◌, ◌*◌, ◌/◌, ◌%◌, ◌^◌, ◌≤◌, Bool, true, false, List, [], ◌∷◌, refl, sym, ◌∙◌, ap, arith, inl, inr, Option, None}
use Rattle.std.proofs.lemmas.Bool.{cases_lt, cases_eq, eq-eqb, ne_eqb, false≢true}
use Rattle.std.specs.{Prelude.{◌&&◌, ◌||◌, ◌==◌, unwrap_or, filter, max}, Map.{lookup, keys_of}, BTreeMap.is_at, Ordering.{nat_cmp, is_lt}, Cmp.nat_cmp_is}
use Rattle.std.specs.{declared.cmp.Ordering.Ordering, List.{AllByRecursion, Sorted.IsStrictlySortedBy}}
use Rattle.nfs_pages.specs.{Page.{Leaf, is_in, count_below}, Pages.IsBelow}
use Rattle.nfs_pages.proofs.CountLemmas.{count_same, count_split, count_either, count_empty, count_beyond, count_most, none_in}

-- in how many pages of these entries
abbrev pub sum_of : List (ℕ × List Leaf) → ℕ
sum_of [] = 0
sum_of (e ∷ es) = count_below (is_in e.1) 64 + sum_of es

-- whether something was written in the page of a number
abbrev pub found : List (ℕ × List Leaf) → ℕ → Bool
found es i = is_in (unwrap_or (lookup (is_at (nat_cmp (i / 64))) es) []) (i % 64)

abbrev pub behind : ℕ → List (ℕ × List Leaf) → List (ℕ × List Leaf)
behind near es = filter (λ e. is_lt (nat_cmp near e.0) && true) es

abbrev in_one : ℕ × List Leaf → ℕ → Bool
in_one e i = (i / 64 == e.0) && is_in e.1 (i % 64)

at_key : (q k : ℕ) → q ≡ k → is_at (nat_cmp q) k ≡ true
at_key q k e = rw (← nat_cmp_is q k Ordering.Equal e) refl

not_at : (q k : ℕ) → q ≢ k → is_at (nat_cmp q) k ≡ false
not_at q k other = elim (cases_lt q k) [
  | inl less ↦ rw (← nat_cmp_is q k Ordering.Less less) refl
  | inr more ↦ rw (← nat_cmp_is q k Ordering.Greater (omega (arith, other))) refl
]

-- no key is there twice
none_after : (q : ℕ) (es : List (ℕ × List Leaf)) → AllByRecursion (λ y. nat_cmp q y ≡ Ordering.Less) (keys_of es) → lookup (is_at (nat_cmp q)) es ≡ None
none_after q [] all = refl
none_after q (e ∷ es) all = rw all.0 (none_after q es all.1)

either : (e : ℕ × List Leaf) (es : List (ℕ × List Leaf)) → AllByRecursion (λ y. nat_cmp e.0 y ≡ Ordering.Less) (keys_of es) → (i : ℕ)
    → (found (e ∷ es) i ≡ in_one e i || found es i) × (in_one e i && found es i ≡ false)
either e es all i = elim (cases_eq (i / 64) e.0) [
  | inl here ↦ (let none : found es i ≡ false = ap (λ (o : Option (List Leaf)). is_in (unwrap_or o []) (i % 64)) (ap (λ (q : ℕ). lookup (is_at (nat_cmp q)) es) here ∙ none_after e.0 es all) ∙ none_in (i % 64) in
      rw (at_key (i / 64) e.0 here, eq-eqb (i / 64) e.0 here, none) (either_false (is_in e.1 (i % 64)), both_false (is_in e.1 (i % 64))))
  | inr other ↦ rw (not_at (i / 64) e.0 other, ne_eqb (i / 64) e.0 other) (refl, refl)
]
  where
    either_false : (b : Bool) → b ≡ b || false
    either_false true = refl
    either_false false = refl

    both_false : (b : Bool) → b && false ≡ false
    both_false true = refl
    both_false false = refl

-- the pages of one entry
one_before : (e : ℕ × List Leaf) (m : ℕ) → m ≤ e.0 * 64 → count_below (in_one e) m ≡ 0
one_before e m le = count_empty (in_one e) m (λ i lt. ap (λ (b : Bool). b && is_in e.1 (i % 64)) (ne_eqb (i / 64) e.0 (λ same. absurd (omega arith))))

one_whole : (e : ℕ × List Leaf) (m : ℕ) → e.0 * 64 + 64 ≤ m → count_below (in_one e) m ≡ count_below (is_in e.1) 64
one_whole e m le =
    count_beyond (in_one e) (e.0 * 64 + 64) m (λ i past. ap (λ (b : Bool). b && is_in e.1 (i % 64)) (ne_eqb (i / 64) e.0 (λ same. absurd (omega arith)))) le
    ∙ count_split (in_one e) (e.0 * 64) 64
    ∙ ap (λ (c : ℕ). c + count_below (λ j. in_one e (e.0 * 64 + j)) 64) (one_before e (e.0 * 64) (omega arith))
    ∙ (let same = count_same (λ j. in_one e (e.0 * 64 + j)) (is_in e.1) 64 (λ j lt. (
    let here : (e.0 * 64 + j) / 64 ≡ e.0 = omega arith in
    let at : (e.0 * 64 + j) % 64 ≡ j = omega arith in
    ap (λ (b : Bool). b && is_in e.1 ((e.0 * 64 + j) % 64)) (eq-eqb ((e.0 * 64 + j) / 64) e.0 here) ∙ ap (is_in e.1) at)) in omega arith)

-- those behind an entry and those up to it are all
pub summed : (near n : ℕ) (es : List (ℕ × List Leaf)) → IsStrictlySortedBy nat_cmp (keys_of es) → near * 64 + 64 ≤ n → IsBelow (found es) n
    → sum_of (behind near es) + count_below (found es) (near * 64 + 64) ≡ count_below (found es) n
unfolding IsStrictlySortedBy
summed near n [] sorted le below =
    let a = count_empty (found []) (near * 64 + 64) (λ i lt. none_in (i % 64)) in
    let b = count_empty (found []) n (λ i lt. none_in (i % 64)) in
    ap (λ (k : ℕ). 0 + k) a ∙ sym b
summed near n (e ∷ es) sorted le below =
    let all : (m : ℕ) → count_below (found (e ∷ es)) m ≡ count_below (in_one e) m + count_below (found es) m = λ m. count_either (found (e ∷ es)) (in_one e) (found es) m (λ i. (either e es sorted.0 i).0) (λ i. (either e es sorted.0 i).1) in
    let rest = summed near n es sorted.1 le (λ i past. parts (in_one e i) (found es i) (sym (either e es sorted.0 i).0 ∙ below i past)) in
    let mine : IsBelow (in_one e) n = λ i past. first (in_one e i) (found es i) (sym (either e es sorted.0 i).0 ∙ below i past) in
    let here = all (near * 64 + 64) in
    let there = all n in
    elim (cases_lt near e.0) [
      | inl later ↦ (
          let none = one_before e (near * 64 + 64) (omega arith) in
          let whole : count_below (in_one e) n ≡ count_below (is_in e.1) 64 = sym (count_beyond (in_one e) n (max n (e.0 * 64 + 64)) mine (omega arith)) ∙ one_whole e (max n (e.0 * 64 + 64)) (omega arith) in
          rw (← nat_cmp_is near e.0 Ordering.Less later) (omega arith))
      | inr before ↦ (
          let one = one_whole e (near * 64 + 64) (omega arith) in
          let whole = one_whole e n (omega arith) in
          elim (cases_eq near e.0) [
            | inl same ↦ rw (← nat_cmp_is near e.0 Ordering.Equal same) (omega arith)
            | inr other ↦ rw (← nat_cmp_is near e.0 Ordering.Greater (omega (arith, other))) (omega arith)
          ])
    ]
  where
    parts : (a b : Bool) → a || b ≡ false → b ≡ false
    parts true b bad = absurd (false≢true (sym bad))
    parts false b is = is

    first : (a b : Bool) → a || b ≡ false → a ≡ false
    first true b bad = absurd (false≢true (sym bad))
    first false b is = refl

-- and they are few
pub sum_few : (near : ℕ) (es : List (ℕ × List Leaf)) → IsStrictlySortedBy nat_cmp (keys_of es) → IsBelow (found es) (2 ^ 52) → sum_of (behind near es) ≤ 2 ^ 52
sum_few near es sorted below =
    let n : ℕ = max (2 ^ 52) (near * 64 + 64) in
    let all = summed near n es sorted (omega arith) (λ i past. below i (omega arith)) in
    let same = count_beyond (found es) (2 ^ 52) n below (omega arith) in
    let most = count_most (found es) (2 ^ 52) in
    omega arith
