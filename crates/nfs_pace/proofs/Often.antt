-- How often a number is in a list, and in one that is in order.
use Rattle.std.proofs.Common.{◌≡◌, ◌≢◌, ◌≤◌, ◌<◌, ◌⊎◌, ◌+◌, ◌-◌, ℕ, zero, suc, Bool, true, false, List, [], ◌∷◌, length, get_or, sym, ap, ◌∙◌, nat_eq, eqb, leb, arith, rules, inl, inr, cond, if◌then◌else◌, insert, remove, count_by, ne_eqb}
use Rattle.std.specs.List.Sorted.{IsNonDecreasing}
use Rattle.std.proofs.{lemmas.Bool.Decides.{eqb_tells, leb_tells}, lemmas.List.Sums.{sum_by-cons, get_or-le-sum_by, sum_by-remove, sum_by-insert}, lemmas.List.Edits.{length-remove, get_or-remove_below, get_or-remove_above}}

-- where a test passes from one place on and below another alone, so many pass it
module _ {X : Type 0} (test : X → Bool) (d : X) where
  pub count_within : (xs : List X) (low high : ℕ) → low ≤ high → high ≤ length xs → ((k : ℕ) → low ≤ k → k < high → test (get_or xs k d) ≡ true)
      → ((k : ℕ) → k < low → test (get_or xs k d) ≡ false) → ((k : ℕ) → high ≤ k → k < length xs → test (get_or xs k d) ≡ false)
      → count_by test xs ≡ high - low
  count_within [] low high ordered within passes before behind = omega (arith, within)
  count_within (x ∷ xs) zero zero ordered within passes before behind =
      let rest = count_within xs 0 0 (omega arith) (omega arith) (λ k from to. absurd (omega (arith, to))) (λ k to. absurd (omega (arith, to)))
      (λ k from to. behind (suc k) (omega arith) (omega (arith, to))) in
      let first = behind 0 (omega arith) (omega arith) in
      sum_by-cons (λ y. cond (test y) 1 0) x xs ∙ rw first (omega (arith, rest))
  count_within (x ∷ xs) zero (suc high) ordered within passes before behind =
      let rest = count_within xs 0 high (omega arith) (omega (arith, within)) (λ k from to. passes (suc k) (omega arith) (omega (arith, to)))
      (λ k to. absurd (omega (arith, to))) (λ k from to. behind (suc k) (omega (arith, from)) (omega (arith, to))) in
      let first = passes 0 (omega arith) (omega arith) in
      sum_by-cons (λ y. cond (test y) 1 0) x xs ∙ rw first (omega (arith, rest))
  count_within (x ∷ xs) (suc low) zero ordered within passes before behind = absurd (omega (arith, ordered))
  count_within (x ∷ xs) (suc low) (suc high) ordered within passes before behind =
      let rest = count_within xs low high (omega (arith, ordered)) (omega (arith, within)) (λ k from to. passes (suc k) (omega (arith, from)) (omega (arith, to)))
      (λ k to. before (suc k) (omega (arith, to))) (λ k from to. behind (suc k) (omega (arith, from)) (omega (arith, to))) in
      let first = before 0 (omega arith) in
      sum_by-cons (λ y. cond (test y) 1 0) x xs ∙ rw first (omega (arith, rest))

-- a number that is in none of them is in none
pub count_none : (xs : List ℕ) (n : ℕ) → ((k : ℕ) → k < length xs → n ≢ get_or xs k 0) → count_by (nat_eq n) xs ≡ 0
count_none xs n apart =
    count_within (nat_eq n) 0 xs 0 0 (omega arith) (omega arith) (λ k from to. absurd (omega (arith, to))) (λ k to. absurd (omega (arith, to)))
    (λ k from to. ne_eqb n (get_or xs k 0) (apart k to))

-- without one of them they are in order still
pub in_order_without : (xs : List ℕ) (i : ℕ) → i < length xs → IsNonDecreasing xs → IsNonDecreasing (remove xs i)
in_order_without xs i within ordered a b d le less =
    let shorter = length-remove xs i within in
    by (leb_tells i a) (leb_tells i b) shorter
  where
    by : ((leb i a ≡ true) × (i ≤ a)) ⊎ ((leb i a ≡ false) × (a < i)) → ((leb i b ≡ true) × (i ≤ b)) ⊎ ((leb i b ≡ false) × (b < i))
        → length (remove xs i) + 1 ≡ length xs → get_or (remove xs i) a d ≤ get_or (remove xs i) b d
    by (inl h) (inl k) shorter =
        rw (get_or-remove_above xs i d a h.1 within) (rw (get_or-remove_above xs i d b k.1 within)
        (ordered (a + 1) (b + 1) d (omega (arith, le)) (omega (arith, less, shorter))))
    by (inl h) (inr k) shorter = absurd (omega (arith, h.1, k.1, le))
    by (inr h) (inl k) shorter =
        rw (get_or-remove_below xs i d a h.1 within) (rw (get_or-remove_above xs i d b k.1 within)
        (ordered a (b + 1) d (omega (arith, le)) (omega (arith, less, shorter))))
    by (inr h) (inr k) shorter =
        rw (get_or-remove_below xs i d a h.1 within) (rw (get_or-remove_below xs i d b k.1 within)
        (ordered a b d le (omega (arith, less, shorter))))

-- one that is in a list in order is the first one behind those that are less
pub is_there : (xs : List ℕ) (n from : ℕ) → IsNonDecreasing xs → 0 < count_by (nat_eq n) xs → from ≤ length xs → ((k : ℕ) → k < from → get_or xs k 0 < n)
    → ((k : ℕ) → from ≤ k → k < length xs → n ≤ get_or xs k 0) → (from < length xs) × (get_or xs from 0 ≡ n)
is_there xs n from ordered some within less others = by (leb_tells (length xs) from)
  where
    at : from < length xs → ((eqb n (get_or xs from 0) ≡ true) × (n ≡ get_or xs from 0)) ⊎ ((eqb n (get_or xs from 0) ≡ false) × (n ≢ get_or xs from 0))
        → (from < length xs) × (get_or xs from 0 ≡ n)
    at inside (inl h) = (inside, sym h.1)
    at inside (inr h) =
        let none = count_none xs n (λ k to is. past k to is (leb_tells from k)) in
        absurd (omega (arith, some, none))
      where
        past : (k : ℕ) → k < length xs → n ≡ get_or xs k 0 → ((leb from k ≡ true) × (from ≤ k)) ⊎ ((leb from k ≡ false) × (k < from)) → ⊥
        past k to is (inl g) =
            let rises = ordered from k 0 g.1 to in
            let least = others from (omega arith) inside in
            h.1 (omega (arith, rises, least, is))
        past k to is (inr g) = let low = less k g.1 in omega (arith, low, is)

    by : ((leb (length xs) from ≡ true) × (length xs ≤ from)) ⊎ ((leb (length xs) from ≡ false) × (from < length xs)) → (from < length xs) × (get_or xs from 0 ≡ n)
    by (inl h) =
        let none = count_none xs n (λ k to is. let low = less k (omega (arith, to, h.1)) in omega (arith, low, is)) in
        absurd (omega (arith, some, none))
    by (inr h) = at h.1 (eqb_tells n (get_or xs from 0))

-- the number of a place is in the list
pub count_some : (xs : List ℕ) (place : ℕ) → place < length xs → 0 < count_by (nat_eq (get_or xs place 0)) xs
count_some xs place within =
    let same : nat_eq (get_or xs place 0) (get_or xs place 0) ≡ true = search rules in
    let least : cond (nat_eq (get_or xs place 0) (get_or xs place 0)) 1 0 ≤ count_by (nat_eq (get_or xs place 0)) xs =
    get_or-le-sum_by (λ y. cond (nat_eq (get_or xs place 0) y) 1 0) xs place 0 within in
    omega (arith, ap {B = ℕ} (λ b. cond b 1 0) same, least)

-- how often a number is in a list in order, by how many are less, and how many less than the next number
pub count_is : (xs : List ℕ) (n low high : ℕ) → low ≤ length xs → ((k : ℕ) → k < low → get_or xs k 0 < n)
    → ((k : ℕ) → low ≤ k → k < length xs → n ≤ get_or xs k 0) → high ≤ length xs → ((k : ℕ) → k < high → get_or xs k 0 < n + 1)
    → ((k : ℕ) → high ≤ k → k < length xs → n + 1 ≤ get_or xs k 0) → count_by (nat_eq n) xs ≡ high - low
count_is xs n low high low_within less others high_within most more =
    count_within (nat_eq n) 0 xs low high (by (leb_tells low high)) high_within
    (λ k from to. let least = others k from (omega (arith, to, high_within)) in let greatest = most k to in same n (get_or xs k 0) (omega (arith, least, greatest)))
    (λ k to. ne_eqb n (get_or xs k 0) (λ is. let low_one = less k to in omega (arith, low_one, is)))
    (λ k from to. ne_eqb n (get_or xs k 0) (λ is. let high_one = more k from to in omega (arith, high_one, is)))
  where
    same : (a b : ℕ) → a ≡ b → nat_eq a b ≡ true
    same a b is = search (rules, is)

    by : ((leb low high ≡ true) × (low ≤ high)) ⊎ ((leb low high ≡ false) × (high < low)) → low ≤ high
    by (inl h) = h.1
    by (inr h) = let one = less high h.1 in let other = more high (omega arith) (omega (arith, h.1, low_within)) in absurd (omega (arith, one, other))

-- one number becomes another, by a removal and an insertion
pub count_replaced : (xs : List ℕ) (from to before number other : ℕ) → from < length xs → get_or xs from 0 ≡ before
    → count_by (nat_eq other) (insert (remove xs from) to number) + (if nat_eq other before then 1 else 0) ≡ count_by (nat_eq other) xs + (if nat_eq other number then 1 else 0)
count_replaced xs from to before number other within is =
    let out : count_by (nat_eq other) (remove xs from) + (if nat_eq other before then 1 else 0) ≡ count_by (nat_eq other) xs =
    rw (sym is) (sum_by-remove (λ y. cond (nat_eq other y) 1 0) xs from 0 within) in
    let put : count_by (nat_eq other) (insert (remove xs from) to number) ≡ count_by (nat_eq other) (remove xs from) + (if nat_eq other number then 1 else 0) =
    sum_by-insert (λ y. cond (nat_eq other y) 1 0) (remove xs from) to number in
    omega (arith, out, put)
