-- Tables in rising order: what find, filter, map and push leave of the order, and what is found behind them.
use Rattle.std.proofs.Common.{◌≡◌, ◌⊎◌, ℕ, zero, ◌+◌, ◌<◌, ◌≤◌, suc, Bool, true, false, cond, List, [], ◌∷◌, ◌++◌, map, length, set, get_or, Option}
use Rattle.std.proofs.{Common.{Some, None, refl, sym, ◌∙◌, ap, subst, arith, inl, inr}, lemmas.List.Elements.All-from_recursion, lemmas.Cmp.ranked}
use Rattle.std.proofs.{lemmas.Bool.Decides.nat_tests, lemmas.Bool.{cases_Bool, cases_eq, cases_lt, ne_eqb, eq-eqb, eqb-true, lt-ltb, le-ltb, false≢true}}
use Rattle.std.proofs.{lemmas.Option.slice_get-get_or, lemmas.List.Quantifiers.position-Some, lemmas.List.Sums.position_or_len_is}
use Rattle.std.specs.Prelude.{◌==◌, if◌then◌else◌, All, filter, find, position, nat_lt, slice_get, is_some, option_map, Result, Ok, Err}
use Rattle.std.specs.{List.{AllByRecursion, position_or_len, remove}, Ordering.{nat_cmp, ordering_index}, declared.cmp.Ordering.TheVariants.{Less, Greater}}
use Rattle.std.specs.{Result.result_ok, List.Sorted.{IsSearchInRange, IsBinarySearchResult, IsNonDecreasingBy, IsPartitionPoint}}
use Rattle.nfs_xdr.specs.Tables.{IsRising, record_at, without_record, with_record, In}
use Rattle.nfs_xdr.proofs.Lists.{in_filter, in_map, find_in, none_in, find_none, in_at, some_or_none, position_nowhere}

module _ {X : Type 0} (number : X → ℕ) where
  -- The order.

  pub IsRising-below : (low high : ℕ) (xs : List X) → IsRising number low xs high → low ≤ high
  IsRising-below low high [] r = r
  IsRising-below low high (x ∷ xs) r = let rest = IsRising-below (suc (number x)) high xs r.1 in omega arith

  pub IsRising-from : (less low high : ℕ) (xs : List X) → less ≤ low → IsRising number low xs high → IsRising number less xs high
  IsRising-from less low high [] le r = omega arith
  IsRising-from less low high (x ∷ xs) le r = (omega arith, r.1)

  pub IsRising-upto : (low high more : ℕ) (xs : List X) → high ≤ more → IsRising number low xs high → IsRising number low xs more
  IsRising-upto low high more [] le r = omega arith
  IsRising-upto low high more (x ∷ xs) le r = (r.0, IsRising-upto (suc (number x)) high more xs le r.1)

  pub IsRising-push : (low high more : ℕ) (xs : List X) (x : X) → number x ≡ high → more ≡ high + 1 → IsRising number low xs high
      → IsRising number low (xs ++ x ∷ []) more
  IsRising-push low high more [] x is next r = (omega arith, omega arith)
  IsRising-push low high more (y ∷ ys) x is next r = (r.0, IsRising-push (suc (number y)) high more ys x is next r.1)

  pub IsRising-map : (f : X → X) → ((x : X) → number (f x) ≡ number x) → (low high : ℕ) (xs : List X) → IsRising number low xs high
      → IsRising number low (map f xs) high
  IsRising-map f same low high [] r = r
  IsRising-map f same low high (x ∷ xs) r = rw (same x) (r.0, IsRising-map f same (suc (number x)) high xs r.1)

  pub IsRising-filter : (p : X → Bool) → (low high : ℕ) (xs : List X) → IsRising number low xs high → IsRising number low (filter p xs) high
  IsRising-filter p low high [] r = r
  IsRising-filter p low high (x ∷ xs) r =
      let rest = IsRising-filter p (suc (number x)) high xs r.1 in
      elim (p x) as (λ v. IsRising number low (cond v (x ∷ filter p xs) (filter p xs)) high)
      [ true ↦ (r.0, rest) | false ↦ IsRising-from low (suc (number x)) high (filter p xs) (omega arith) rest ]

  -- each number is within the bounds
  pub in_bounds : (low high : ℕ) (xs : List X) (x : X) → IsRising number low xs high → In x xs → (low ≤ number x) × (number x < high)
  in_bounds low high [] x r there = absurd there
  in_bounds low high (y ∷ ys) x r (inl is) =
      let same : number x ≡ number y = ap number is in let up = IsRising-below (suc (number y)) high ys r.1 in (omega arith, omega arith)
  in_bounds low high (y ∷ ys) x r (inr more) = let rest = in_bounds (suc (number y)) high ys x r.1 more in (omega arith, rest.1)

  -- a number names one record
  pub in_once : (low high : ℕ) (xs : List X) (x y : X) → IsRising number low xs high → In x xs → In y xs → number x ≡ number y → x ≡ y
  in_once low high [] x y r a b e = absurd a
  in_once low high (z ∷ zs) x y r (inl a) (inl b) e = a ∙ sym b
  in_once low high (z ∷ zs) x y r (inl a) (inr b) e =
      let is : number x ≡ number z = ap number a in let up = in_bounds (suc (number z)) high zs y r.1 b in absurd (omega arith)
  in_once low high (z ∷ zs) x y r (inr a) (inl b) e =
      let is : number y ≡ number z = ap number b in let up = in_bounds (suc (number z)) high zs x r.1 a in absurd (omega arith)
  in_once low high (z ∷ zs) x y r (inr a) (inr b) e = in_once (suc (number z)) high zs x y r.1 a b e

  -- a record is found by its number
  pub at_of_in : (low high : ℕ) (xs : List X) (x : X) → IsRising number low xs high → In x xs → record_at number xs (number x) ≡ Some x
  at_of_in low high xs x r there =
      elim (some_or_none (record_at number xs (number x))) [
        | inl found ↦ (let is = find_in (λ y. number y == number x) xs found.0 found.1 in
            found.1 ∙ ap (λ (y : X). Some y) (in_once low high xs found.0 x r is.0 there (eqb-true (number found.0) (number x) is.1)))
        | inr none ↦ absurd (false≢true (sym (none_in (λ y. number y == number x) xs x none there) ∙ eq-eqb (number x) (number x) refl))
      ]

  -- a number that was not given finds nothing
  pub at_above : (low high n : ℕ) (xs : List X) → IsRising number low xs high → high ≤ n → record_at number xs n ≡ None
  at_above low high n xs r up =
      find_none (λ x. number x == n) xs (λ x there. (let bounds = in_bounds low high xs x r there in ne_eqb (number x) n (λ e. absurd (omega arith))))

  pub at_below : (low high n : ℕ) (xs : List X) → IsRising number low xs high → n < low → record_at number xs n ≡ None
  at_below low high n xs r less =
      find_none (λ x. number x == n) xs (λ x there. (let bounds = in_bounds low high xs x r there in ne_eqb (number x) n (λ e. absurd (omega arith))))

  -- What is found under a number behind a change. None of these needs the order.

  pub at_push : (n : ℕ) (xs : List X) (new : X)
      → record_at number (xs ++ new ∷ []) n ≡ (if is_some (record_at number xs n) then record_at number xs n else if number new == n then Some new else None)
  at_push n [] new = refl
  at_push n (x ∷ xs) new = elim (cases_Bool (number x == n)) [ inl here ↦ rw here refl | inr other ↦ rw other (at_push n xs new) ]

  pub at_without : (n gone : ℕ) (xs : List X) → record_at number (without_record number xs gone) n ≡ (if n == gone then None else record_at number xs n)
  at_without n gone [] = elim (n == gone) as (λ v. ◌≡◌ {A = Option X} None (cond v None None)) [ true ↦ refl | false ↦ refl ]
  at_without n gone (x ∷ xs) =
      elim (cases_eq (number x) gone) [
        | inl is ↦ elim (cases_eq (number x) n) [
          | inl here ↦ rw (eq-eqb (number x) gone is) (at_without n gone xs ∙ rw (eq-eqb n gone (sym here ∙ is)) refl)
          | inr other ↦ rw (eq-eqb (number x) gone is, ne_eqb (number x) n other) (at_without n gone xs)
        ]
        | inr stays ↦ elim (cases_eq (number x) n) [
          | inl here ↦ rw (ne_eqb (number x) gone stays, eq-eqb (number x) n here, ne_eqb n gone (λ e. stays (here ∙ e))) refl
          | inr other ↦ rw (ne_eqb (number x) gone stays, ne_eqb (number x) n other) (at_without n gone xs)
        ]
      ]

  pub at_with : (f : X → X) → ((x : X) → number (f x) ≡ number x) → (n changed : ℕ) (xs : List X)
      → record_at number (with_record number xs changed f) n ≡ (if n == changed then option_map f (record_at number xs n) else record_at number xs n)
  at_with f same n changed [] = elim (n == changed) as (λ v. ◌≡◌ {A = Option X} None (cond v None None)) [ true ↦ refl | false ↦ refl ]
  at_with f same n changed (x ∷ xs) =
      elim (cases_eq (number x) changed) [
        | inl is ↦ elim (cases_eq (number x) n) [
          | inl here ↦ rw (eq-eqb (number x) changed is, same x, eq-eqb (number x) n here, eq-eqb n changed (sym here ∙ is)) refl
          | inr other ↦ rw (eq-eqb (number x) changed is, same x, ne_eqb (number x) n other) (at_with f same n changed xs)
        ]
        | inr apart ↦ elim (cases_eq (number x) n) [
          | inl here ↦ rw (ne_eqb (number x) changed apart, eq-eqb (number x) n here, ne_eqb n changed (λ e. apart (here ∙ e))) refl
          | inr other ↦ rw (ne_eqb (number x) changed apart, ne_eqb (number x) n other) (at_with f same n changed xs)
        ]
      ]

  -- a number that names nothing names nothing behind a filter, a change of records or a push of another
  pub gone_filter : (n : ℕ) (p : X → Bool) (xs : List X) → record_at number xs n ≡ None → record_at number (filter p xs) n ≡ None
  gone_filter n p xs gone = find_none (λ x. number x == n) (filter p xs) (λ x there. none_in (λ x. number x == n) xs x gone (in_filter p xs x there).0)

  pub gone_map : (n : ℕ) (f : X → X) → ((x : X) → number (f x) ≡ number x) → (xs : List X) → record_at number xs n ≡ None → record_at number (map f xs) n ≡ None
  gone_map n f same xs gone = find_none (λ x. number x == n) (map f xs) (λ x there. (let (y, was, is) = in_map f xs x there in
      ap (λ (k : ℕ). k == n) (ap number is ∙ same y) ∙ none_in (λ x. number x == n) xs y gone was))

  pub gone_push : (n : ℕ) (xs : List X) (new : X) → number new == n ≡ false → record_at number xs n ≡ None → record_at number (xs ++ new ∷ []) n ≡ None
  gone_push n xs new other gone = at_push n xs new ∙ rw (gone, other) refl

  -- where a number names nothing, there is nothing to remove or change
  pub without_none : (n : ℕ) (xs : List X) → record_at number xs n ≡ None → without_record number xs n ≡ xs
  without_none n [] e = refl
  without_none n (x ∷ xs) e =
      elim (cases_Bool (number x == n)) [
        | inl here ↦ absurd (let bad : Some x ≡ None = rw here at e in cc)
        | inr other ↦ rw other (ap (λ (rest : List X). x ∷ rest) (without_none n xs (rw other at e)))
      ]

  pub with_none : (f : X → X) (n : ℕ) (xs : List X) → record_at number xs n ≡ None → with_record number xs n f ≡ xs
  with_none f n [] e = refl
  with_none f n (x ∷ xs) e =
      elim (cases_Bool (number x == n)) [
        | inl here ↦ absurd (let bad : Some x ≡ None = rw here at e in cc)
        | inr other ↦ rw other (ap (λ (rest : List X). x ∷ rest) (with_none f n xs (rw other at e)))
      ]

  -- A record written or removed at its place. The test p may ask for more than the number, as an id of two parts does.

  at_place : (low high : ℕ) (xs : List X) (i : ℕ) (x : X) → slice_get xs i ≡ Some x → IsRising number low xs high → low ≤ number x
  at_place low high [] i x e r = absurd cc
  at_place low high (y ∷ ys) zero x e r = let same : y ≡ x = cc in subst (λ (z : X). low ≤ number z) same r.0
  at_place low high (y ∷ ys) (suc i) x e r = let above = at_place (suc (number y)) high ys i x e r.1 in omega arith

  none_changed : (n : ℕ) (p : X → Bool) (f : X → X) → ((x : X) → p x ≡ true → number x ≡ n) → (low high : ℕ) (xs : List X) → n < low
      → IsRising number low xs high → map (λ x. if p x then f x else x) xs ≡ xs
  none_changed n p f only low high [] less r = refl
  none_changed n p f only low high (x ∷ xs) less r =
      let rest = none_changed n p f only (suc (number x)) high xs (omega arith) r.1 in
      elim (cases_Bool (p x)) [
        | inl here ↦ (let same = only x here in absurd (omega arith))
        | inr other ↦ rw other (ap (λ (ys : List X). x ∷ ys) rest)
      ]

  -- a write at the place of a number changes its record
  pub one_changed : (n : ℕ) (p : X → Bool) (f : X → X) → ((x : X) → p x ≡ true → number x ≡ n) → (low high : ℕ) (xs : List X) (i : ℕ) (x : X)
      → slice_get xs i ≡ Some x → p x ≡ true → IsRising number low xs high → set xs i (f x) ≡ map (λ x. if p x then f x else x) xs
  one_changed n p f only low high [] i x e here r = absurd cc
  one_changed n p f only low high (y ∷ ys) zero x e here r =
      let same : y ≡ x = cc in
      let this : p y ≡ true = ap p same ∙ here in
      let rest = none_changed n p f only (suc (number y)) high ys (let is = only y this in omega arith) r.1 in
      rw (this, rest) (ap (λ (z : X). f z ∷ ys) (sym same))
  one_changed n p f only low high (y ∷ ys) (suc i) x e here r =
      let above = at_place (suc (number y)) high ys i x e r.1 in
      let is = only x here in
      elim (cases_Bool (p y)) [
        | inl this ↦ (let equal = only y this in absurd (omega arith))
        | inr other ↦ rw other (ap (λ (zs : List X). y ∷ zs) (one_changed n p f only (suc (number y)) high ys i x e here r.1))
      ]

  -- Searched by halves.

  IsRising-index : (low high : ℕ) (xs : List X) (i j : ℕ) (d : X) → IsRising number low xs high → i < j → j < length xs
      → number (get_or xs i d) < number (get_or xs j d)
  IsRising-index low high [] i j d r less within = absurd (omega arith)
  IsRising-index low high (x ∷ xs) zero zero d r less within = absurd (omega arith)
  IsRising-index low high (x ∷ xs) zero (suc j) d r less within =
      let up = in_bounds (suc (number x)) high xs (get_or xs j d) r.1 (in_at xs j d (omega arith)) in omega arith
  IsRising-index low high (x ∷ xs) (suc i) zero d r less within = absurd (omega arith)
  IsRising-index low high (x ∷ xs) (suc i) (suc j) d r less within = IsRising-index (suc (number x)) high xs i j d r.1 (omega arith) (omega arith)

  -- a record that stands at a place is found there
  pub position_is : (low high n : ℕ) (xs : List X) (i : ℕ) (d : X) → IsRising number low xs high → i < length xs → number (get_or xs i d) ≡ n
      → position (λ x. number x == n) xs ≡ Some i
  position_is low high n xs i d r within here =
      let p : X → Bool = λ x. number x == n in
      let first : position_or_len p xs ≡ i =
      position_or_len_is p xs i d (omega arith) (λ k less. (let rises = IsRising-index low high xs k i d r less within in
      ne_eqb (number (get_or xs k d)) n (λ e. absurd (omega arith)))) (λ _. eq-eqb (number (get_or xs i d)) n here) in
      ap (λ (k : ℕ). cond (nat_lt k (length xs)) (Some k) None) first ∙ ap (λ (b : Bool). cond b (Some i) None) (lt-ltb i (length xs) within)

  nowhere : (n : ℕ) (xs : List X) → ((k : ℕ) (d : X) → k < length xs → number (get_or xs k d) == n ≡ false) → position (λ x. number x == n) xs ≡ None
  nowhere n [] none = refl
  nowhere n (x ∷ xs) none =
      let p : X → Bool = λ x. number x == n in
      let last : position_or_len p (x ∷ xs) ≡ length (x ∷ xs) =
      position_or_len_is p (x ∷ xs) (length (x ∷ xs)) x (omega arith) (λ k less. none k x less) (λ less. absurd (omega arith)) in
      ap (λ (k : ℕ). cond (nat_lt k (length (x ∷ xs))) (Some k) None) last
      ∙ ap (λ (b : Bool). cond b (Some (length (x ∷ xs))) None) (le-ltb (length (x ∷ xs)) (length (x ∷ xs)) (omega arith))

  compared : (a b n : ℕ) → a ≤ b → ordering_index (nat_cmp a n) ≤ ordering_index (nat_cmp b n)
  compared a b n le = grind (arith, nat_tests)

  rises : (low high n : ℕ) (xs : List X) → IsRising number low xs high → IsNonDecreasingBy (λ x. ordering_index (nat_cmp (number x) n)) xs
  rises low high n xs r i j d le within =
      elim (cases_lt i j) [
        | inl less ↦ (let up = IsRising-index low high xs i j d r less within in compared (number (get_or xs i d)) (number (get_or xs j d)) n (omega arith))
        | inr not_less ↦ (let same : i ≡ j = omega arith in rw same (omega arith))
      ]

  -- what a search by halves answers is the place of the number
  pub searched : (low high n : ℕ) (xs : List X) (found : Result ℕ ℕ) → IsRising number low xs high → IsSearchInRange found (length xs)
      → IsBinarySearchResult (λ x. nat_cmp (number x) n) xs found
      → result_ok found ≡ position (λ x. number x == n) xs
  searched low high n [] (Ok i) r within is = absurd (omega arith)
  searched low high n (x ∷ xs) (Ok i) r within is = sym (position_is low high n (x ∷ xs) i x r within (ranked _ n _ (sym (is x))))
  searched low high n xs (Err i) r within is = sym (nowhere n xs (λ k d less. apart k d less (cases_lt k i)))
    where
      split : IsPartitionPoint (λ x. nat_cmp (number x) n ≡ Less) (λ x. nat_cmp (number x) n ≡ Greater) xs i
      split = is (rises low high n xs r)

      apart : (k : ℕ) (d : X) → k < length xs → (k < i) ⊎ (i ≤ k) → number (get_or xs k d) == n ≡ false
      apart k d less (inl below) = let c = ranked _ n _ (sym (split.0 k d (omega arith) below)) in ne_eqb (number (get_or xs k d)) n (λ e. absurd (omega arith))
      apart k d less (inr above) = let c = ranked _ n _ (sym (split.1 k d above less)) in ne_eqb (number (get_or xs k d)) n (λ e. absurd (omega arith))

  -- The record of a number, changed or removed at its place.

  pub written : (low high n : ℕ) (f : X → X) (xs : List X) (i : ℕ) (x : X) → IsRising number low xs high → position (λ x. number x == n) xs ≡ Some i
      → x ≡ get_or xs i x → set xs i (f x) ≡ with_record number xs n f
  written low high n f xs i x r at is =
      let first = position-Some (λ (x : X). number x == n) xs i x at in
      one_changed n (λ x. number x == n) f (λ x e. eqb-true (number x) n e) low high xs i x
      (slice_get-get_or xs i x first.0 ∙ ap (λ (y : X). Some y) (sym is)) (ap (λ (y : X). number y == n) is ∙ first.1) r

  -- the same, where what is written was made of what stood there
  pub written_as : (low high n : ℕ) (f : X → X) (xs : List X) (i : ℕ) (x y : X) → IsRising number low xs high → position (λ x. number x == n) xs ≡ Some i
      → x ≡ get_or xs i x → y ≡ f (get_or xs i x) → set xs i y ≡ with_record number xs n f
  written_as low high n f xs i x y r at is made = ap (set xs i) (made ∙ ap f (sym is)) ∙ written low high n f xs i x r at is

  pub unwritten : (n : ℕ) (f : X → X) (xs : List X) → position (λ x. number x == n) xs ≡ None → with_record number xs n f ≡ xs
  unwritten n f xs nowhere_it = with_none f n xs (position_nowhere (λ x. number x == n) xs nowhere_it)

  cut_at : (low high n : ℕ) (xs : List X) (i : ℕ) (d : X) → IsRising number low xs high → i < length xs → number (get_or xs i d) ≡ n
      → remove xs i ≡ without_record number xs n
  cut_at low high n [] i d r within is = absurd (omega arith)
  cut_at low high n (x ∷ xs) zero d r within is = rw (eq-eqb (number x) n is) (sym (without_none n xs (at_below (suc (number x)) high n xs r.1 (omega arith))))
  cut_at low high n (x ∷ xs) (suc i) d r within is =
      let up = in_bounds (suc (number x)) high xs (get_or xs i d) r.1 (in_at xs i d (omega arith)) in
      rw (ne_eqb (number x) n (λ e. absurd (omega arith))) (ap (λ (rest : List X). x ∷ rest) (cut_at (suc (number x)) high n xs i d r.1 (omega arith) is))

  pub removed : (low high n : ℕ) (xs : List X) (i : ℕ) → IsRising number low xs high → position (λ x. number x == n) xs ≡ Some i
      → remove xs i ≡ without_record number xs n
  removed low high n [] i r at = absurd cc
  removed low high n (x ∷ xs) i r at =
      let first = position-Some (λ (x : X). number x == n) (x ∷ xs) i x at in cut_at low high n (x ∷ xs) i x r first.0 (eqb-true _ n first.1)

-- The same of each record, as a fact over all of them.

-- no record has a number below low
pub none_below : {X : Type 0} (P : X → Type 0) (number : X → ℕ) (n low high : ℕ) (xs : List X) → n < low → IsRising number low xs high
    → AllByRecursion (λ x. number x ≡ n → P x) xs
none_below P number n low high [] lt r = tt
none_below P number n low high (x ∷ xs) lt r = (λ e. absurd (omega arith), none_below P number n (suc (number x)) high xs (omega arith) r.1)

all_in : {X : Type 0} (P : X → Type 0) (xs : List X) → ((x : X) → In x xs → P x) → AllByRecursion P xs
all_in P [] each = tt
all_in P (x ∷ xs) each = (each x (inl refl), all_in P xs (λ y there. each y (inr there)))

-- what is found under a number is the only record of it
pub all_one : {X : Type 0} (number : X → ℕ) (n low high : ℕ) (xs : List X) → IsRising number low xs high → (y : X) → find (λ x. number x == n) xs ≡ Some y
    → All (λ x. number x ≡ n → x ≡ y) xs
all_one {X} number n low high xs r y e =
    let is = find_in (λ x. number x == n) xs y e in
    All-from_recursion (λ x. number x ≡ n → x ≡ y) xs
    (all_in (λ x. number x ≡ n → x ≡ y) xs (λ x there same. in_once number low high xs x y r there is.0 (same ∙ sym (eqb-true (number y) n is.1))))
