-- How many pages pass a test.
use Rattle.std.proofs.Common.{◌≡◌, ℕ, ◌+◌, ◌-◌, ◌*◌, ◌/◌, ◌<◌, ◌≤◌, zero, suc, Bool, true, false, not, List, [], ◌∷◌, length, take, drop, refl, sym, ◌∙◌, ap, arith, inl, inr, nat_lt, nat_le}
use Rattle.std.proofs.lemmas.Bool.{le-ltb, cases_lt, cases_Bool, false≢true, lt-ltb}
use Rattle.std.proofs.lemmas.List.{get_or_past, get_or-take, get_or-drop, length-take, length-take-le, length-drop, take_all}
use Rattle.std.proofs.lemmas.Bool.Decides.{nat_tests}
use Rattle.std.specs.Prelude.{◌&&◌, ◌||◌, ◌==◌, if◌then◌else◌, max, min}
use Rattle.nfs_pages.specs.{Bytes.covers, Page.{Leaf, blank, is_in, count_below}, Pages.{IsBelow}}

-- one number more
pub count_more : (f : ℕ → Bool) (n : ℕ) → count_below f (n + 1) ≡ count_below f n + (if f n then 1 else 0)
unfolding count_below
count_more f n = (let e : n + 1 ≡ suc n = omega arith in rw e (omega arith))

pub count_none : (f : ℕ → Bool) → count_below f 0 ≡ 0
unfolding count_below
count_none f = refl

-- the same numbers below one
pub count_same : (f g : ℕ → Bool) (n : ℕ) → ((i : ℕ) → i < n → f i ≡ g i) → count_below f n ≡ count_below g n
unfolding count_below
count_same f g zero same = refl
count_same f g (suc n) same =
    ap (λ (k : ℕ). (if f n then 1 else 0) + k) (count_same f g n (λ i lt. same i (omega arith)))
    ∙ ap (λ (b : Bool). (if b then 1 else 0) + count_below g n) (same n (omega arith))

-- in two parts
pub count_split : (f : ℕ → Bool) (a b : ℕ) → count_below f (a + b) ≡ count_below f a + count_below (λ i. f (a + i)) b
unfolding count_below
count_split f a zero = (let e : a + 0 ≡ a = omega arith in rw e (omega arith))
count_split f a (suc b) =
    let e : a + suc b ≡ suc (a + b) = omega arith in
    let before = count_split f a b in
    rw e (omega arith)

-- no number passes
pub count_empty : (f : ℕ → Bool) (n : ℕ) → ((i : ℕ) → i < n → f i ≡ false) → count_below f n ≡ 0
unfolding count_below
count_empty f zero none = refl
count_empty f (suc n) none =
    let before = count_empty f n (λ i lt. none i (omega arith)) in
    let here : f n ≡ false = none n (omega arith) in
    rw here (omega arith)

-- behind the last that passes
pub count_beyond : (f : ℕ → Bool) (m n : ℕ) → IsBelow f m → m ≤ n → count_below f n ≡ count_below f m
count_beyond f m n none le =
    let e : n ≡ m + (n - m) = omega arith in
    let rest : count_below (λ i. f (m + i)) (n - m) ≡ 0 = count_empty (λ i. f (m + i)) (n - m) (λ i lt. none (m + i) (omega arith)) in
    ap (count_below f) e ∙ count_split f m (n - m) ∙ (omega arith)

-- no more than there are numbers
pub count_most : (f : ℕ → Bool) (n : ℕ) → count_below f n ≤ n
unfolding count_below
count_most f zero = omega arith
count_most f (suc n) =
    let before = count_most f n in
    elim (cases_Bool (f n)) [ inl is ↦ rw is (omega arith) | inr other ↦ rw other (omega arith) ]

-- those that pass one of two tests, of which no number passes both
pub count_either : (f g h : ℕ → Bool) (n : ℕ) → ((i : ℕ) → f i ≡ g i || h i) → ((i : ℕ) → g i && h i ≡ false) → count_below f n ≡ count_below g n + count_below h n
unfolding count_below
count_either f g h zero either apart = omega arith
count_either f g h (suc n) either apart =
    let before = count_either f g h n either apart in
    let here : (if f n then 1 else 0) ≡ (if g n then 1 else 0) + (if h n then 1 else 0) = one (f n) (g n) (h n) (either n) (apart n) in
    omega arith
  where
    one : (x y z : Bool) → x ≡ y || z → y && z ≡ false → (if x then 1 else 0) ≡ (if y then 1 else 0) + (if z then 1 else 0)
    one x true true e bad = absurd (false≢true (sym bad))
    one x true false e none = rw e (omega arith)
    one x false true e none = rw e (omega arith)
    one x false false e none = rw e (omega arith)

-- one number more passes
pub count_marked : (f g : ℕ → Bool) (j n : ℕ) → j < n → ((i : ℕ) → g i ≡ (i == j) || f i) → count_below g n ≡ count_below f n + (if not (f j) then 1 else 0)
count_marked f g j n lt marked =
    let e : n ≡ j + 1 + (n - j - 1) = omega arith in
    let front : count_below g j ≡ count_below f j = count_same g f j (λ i below. marked i ∙ grind (arith, nat_tests)) in
    let back : count_below (λ i. g (j + 1 + i)) (n - j - 1) ≡ count_below (λ i. f (j + 1 + i)) (n - j - 1) = count_same _ _ (n - j - 1) (λ i below. marked (j + 1 + i) ∙ grind (arith, nat_tests)) in
    let here : g j ≡ true = marked j ∙ grind (arith, nat_tests) in
    ap (count_below g) e ∙ count_split g (j + 1) (n - j - 1) ∙ sym (ap (λ k. k + (if not (f j) then 1 else 0)) (ap (count_below f) e ∙ count_split f (j + 1) (n - j - 1)) ∙ (
    let up = count_more g j in
    let down = count_more f j in
    at (f j) (g j) here up down front back))
  where
    at : (x y : Bool) → y ≡ true → count_below g (j + 1) ≡ count_below g j + (if y then 1 else 0) → count_below f (j + 1) ≡ count_below f j + (if x then 1 else 0)
        → count_below g j ≡ count_below f j → count_below (λ i. g (j + 1 + i)) (n - j - 1) ≡ count_below (λ i. f (j + 1 + i)) (n - j - 1)
        → count_below f (j + 1) + count_below (λ i. f (j + 1 + i)) (n - j - 1) + (if not x then 1 else 0) ≡ count_below g (j + 1) + count_below (λ i. g (j + 1 + i)) (n - j - 1)
    at true true is up down front back = omega arith
    at false true is up down front back = omega arith
    at x false is up down front back = absurd (false≢true is)

-- pages that lie together
pub none_in : (j : ℕ) → is_in [] j ≡ false
none_in j = ap (λ (l : Leaf). l.written) (get_or_past [] j blank (omega arith))

pub past_in : (e : List Leaf) (j : ℕ) → length e ≤ j → is_in e j ≡ false
past_in e j le = ap (λ (l : Leaf). l.written) (get_or_past e j blank le)

pub count_in_none : (n : ℕ) → count_below (is_in []) n ≡ 0
count_in_none n = count_empty (is_in []) n (λ i lt. none_in i)

-- one page alone
pub count_in_one : (l : Leaf) → count_below (is_in (l ∷ [])) 64 ≡ (if l.written then 1 else 0)
count_in_one l =
    let rest = count_beyond (is_in (l ∷ [])) 1 64 (λ i le. past_in (l ∷ []) i le) (omega arith) in
    let first = count_more (is_in (l ∷ [])) 0 in
    let none = count_none (is_in (l ∷ [])) in
    rest ∙ first ∙ ap (λ k. k + (if l.written then 1 else 0)) none ∙ (omega arith)

pub count_in_all : (e : List Leaf) (n : ℕ) → length e ≤ n → count_below (is_in e) n ≡ count_below (is_in e) (length e)
count_in_all e n le = count_beyond (is_in e) (length e) n (λ i past. past_in e i past) le

-- those in front of a place, and those from there on
pub is_in-take : (e : List Leaf) (n j : ℕ) → is_in (take n e) j ≡ nat_lt j n && is_in e j
is_in-take e n j = elim (cases_lt j n) [
  | inl below ↦ ap (λ (l : Leaf). l.written) (get_or-take n e j blank below) ∙ sym (ap (λ (b : Bool). b && is_in e j) (lt-ltb j n below))
  | inr past ↦ past_in (take n e) j (let k = length-take n e in omega (arith, k)) ∙ sym (ap (λ (b : Bool). b && is_in e j) (le-ltb j n past))
]

pub is_in-drop : (e : List Leaf) (n j : ℕ) → is_in (drop n e) j ≡ is_in e (n + j)
is_in-drop e n j = ap (λ (l : Leaf). l.written) (get_or-drop n e j blank)

pub count_parts : (e : List Leaf) (n : ℕ) → n ≤ length e → length e ≤ 64
    → count_below (is_in (drop n e)) (length (drop n e)) + count_below (is_in e) n ≡ count_below (is_in e) 64
count_parts e n le few =
    let back : count_below (is_in (drop n e)) (length (drop n e)) ≡ count_below (λ j. is_in e (n + j)) (length e - n) =
    ap (count_below (is_in (drop n e))) (length-drop n e) ∙ count_same (is_in (drop n e)) (λ j. is_in e (n + j)) (length e - n) (λ j lt. is_in-drop e n j) in
    let both = count_split (is_in e) n (length e - n) in
    let whole = count_in_all e 64 few in
    let size : n + (length e - n) ≡ length e = omega arith in
    let sum : count_below (is_in e) (length e) ≡ count_below (is_in e) n + count_below (λ j. is_in e (n + j)) (length e - n) = ap (count_below (is_in e)) (sym size) ∙ both in
    omega arith

pub count_front : (e : List Leaf) (n : ℕ) → n ≤ length e → length e ≤ 64 → count_below (is_in (take n e)) 64 ≡ count_below (is_in e) n
count_front e n le few =
    let long : length (take n e) ≡ n = length-take-le n e le in
    count_in_all (take n e) 64 (omega arith) ∙ ap (count_below (is_in (take n e))) long
    ∙ count_same (is_in (take n e)) (is_in e) n (λ j lt. is_in-take e n j ∙ ap (λ (b : Bool). b && is_in e j) (lt-ltb j n lt))

-- two comparisons of which each follows from the other
pub lt_same : (a b c d : ℕ) → (a < b → c < d) → (c < d → a < b) → nat_lt a b ≡ nat_lt c d
lt_same a b c d to from = elim (cases_lt a b) [
  | inl lt ↦ lt-ltb a b lt ∙ sym (lt-ltb c d (to lt))
  | inr le ↦ le-ltb a b le ∙ sym (elim (cases_lt c d) [ inl more ↦ absurd (let less = from more in omega arith) | inr rest ↦ le-ltb c d rest ])
]

-- the pages that have one of some bytes lie from the first's on, up to the last's
pub covers_is : (offset count i : ℕ) → 0 < count → covers offset count i ≡ nat_le (offset / 4096) i && nat_lt i ((offset + count + 4095) / 4096)
covers_is offset count i some = elim (cases_lt i (offset / 4096)) [
  | inl before ↦ le-ltb (max offset (i * 4096)) (min (offset + count) (i * 4096 + 4096)) (omega arith) ∙ sym (grind (arith, nat_tests))
  | inr from ↦ lt_same (max offset (i * 4096)) (min (offset + count) (i * 4096 + 4096)) i ((offset + count + 4095) / 4096) (λ lt. omega arith) (λ lt. omega arith) ∙ sym (grind (arith, nat_tests))
]

-- a slice to the end
pub slice_in : (e f : List Leaf) (n : ℕ) → f ≡ e → n ≤ length e → take (length f - n) (drop n f) ≡ drop n e
slice_in e f n same le =
    ap (λ (x : List Leaf). take (length x - n) (drop n x)) same ∙ take_all (length e - n) (drop n e) (let k = length-drop n e in omega (arith, k))

pub count_sliced : (e f : List Leaf) (n count total : ℕ) → f ≡ e → n ≤ length e → length e ≤ 64 → total ≡ count_below (is_in e) 64
    → count ≡ count_below (is_in (take (length f - n) (drop n f))) (length (take (length f - n) (drop n f))) → count + count_below (is_in e) n ≡ total
count_sliced e f n count total same le few all is =
    ap (λ (k : ℕ). k + count_below (is_in e) n) (is ∙ ap (λ (x : List Leaf). count_below (is_in x) (length x)) (slice_in e f n same le)) ∙ count_parts e n le few ∙ sym all
