-- Entries in rising order of their cookies, of which a page has the first: how many of them have a cookie.
use Rattle.std.proofs.Common.{◌≡◌, ◌⊎◌, ℕ, suc, ◌+◌, ◌<◌, ◌≤◌, Bool, cond, List, [], ◌∷◌, ◌++◌, refl, sym, ◌∙◌, ap, arith, zero-add, inl, inr}
use Rattle.std.proofs.{lemmas.Bool.{eq-eqb, ne_eqb}, lemmas.List.Sums.{sum_by-cons, sum_by-append}}
use Rattle.std.specs.{Prelude.{◌==◌, count_by}, List.flat_map}
use Rattle.nfs_xdr.specs.Tables.{IsRising, In}
use Rattle.nfs_xdr.proofs.Tables.{IsRising-below, in_bounds}
use Rattle.nfs_results.specs.declared.res.Entry.{Entry}
use Rattle.nfs_promises.specs.Names.ListsAll.{last_cookie}

abbrev pub Rises : (low : ℕ) → List Entry → (high : ℕ) → Type 0
Rises low es high = IsRising (λ (e : Entry). e.cookie) low es high

-- how many entries have the cookie
abbrev pub times : ℕ → List Entry → ℕ
times k es = count_by (λ (e : Entry). e.cookie == k) es

count_yes : (k : ℕ) (e : Entry) (es : List Entry) → e.cookie ≡ k → times k (e ∷ es) ≡ 1 + times k es
count_yes k e es same =
    sum_by-cons (λ (e : Entry). cond (e.cookie == k) 1 0) e es ∙ ap (λ (b : Bool). cond b 1 0 + times k es) (eq-eqb e.cookie k same)

count_no : (k : ℕ) (e : Entry) (es : List Entry) → (e.cookie ≡ k → ⊥) → times k (e ∷ es) ≡ times k es
count_no k e es other =
    sum_by-cons (λ (e : Entry). cond (e.cookie == k) 1 0) e es
    ∙ (ap (λ (b : Bool). cond b 1 0 + times k es) (ne_eqb e.cookie k other) ∙ zero-add (times k es))

pub times_both : (k : ℕ) (es fs : List Entry) → times k (es ++ fs) ≡ times k es + times k fs
times_both k es fs = sum_by-append (λ (e : Entry). cond (e.cookie == k) 1 0) es fs

-- counts by tests that agree on each
pub counted_same : (p q : Entry → Bool) (es : List Entry) → ((e : Entry) → In e es → p e ≡ q e) → count_by p es ≡ count_by q es
counted_same p q [] same = refl
counted_same p q (e ∷ es) same =
    sum_by-cons (λ (e : Entry). cond (p e) 1 0) e es
    ∙ (ap (λ b. cond b 1 0 + count_by p es) (same e (inl refl))
    ∙ (ap (λ n. cond (q e) 1 0 + n) (counted_same p q es (λ f there. same f (inr there)))
    ∙ sym (sum_by-cons (λ (e : Entry). cond (q e) 1 0) e es)))

-- The order.

pub last_up : (c high : ℕ) (es : List Entry) → Rises (suc c) es high → c ≤ last_cookie c es
last_up c high [] rises = omega arith
last_up c high (e ∷ es) rises = let low = rises.0 in let rest = last_up e.cookie high es rises.1 in omega arith

pub front_rises : (low high : ℕ) (es rest : List Entry) → Rises low (es ++ rest) high → Rises low es high
front_rises low high [] rest rises = IsRising-below (λ (e : Entry). e.cookie) low high rest rises
front_rises low high (e ∷ es) rest rises = (rises.0, front_rises (suc e.cookie) high es rest rises.1)

-- what is behind a page
pub rest_rises : (c high : ℕ) (es rest : List Entry) → Rises (suc c) (es ++ rest) high → Rises (suc (last_cookie c es)) rest high
rest_rises c high [] rest rises = rises
rest_rises c high (e ∷ es) rest rises = rest_rises e.cookie high es rest rises.1

pub in_page : (c high : ℕ) (es : List Entry) (e : Entry) → Rises (suc c) es high → In e es → e.cookie ≤ last_cookie c es
in_page c high [] e rises there = absurd there
in_page c high (x ∷ es) e rises (inl is) = let up = last_up x.cookie high es rises.1 in let same : e.cookie ≡ x.cookie = ap (λ (e : Entry). e.cookie) is in omega arith
in_page c high (x ∷ es) e rises (inr more) = in_page x.cookie high es e rises.1 more

-- How often a cookie stands in a page.

pub none_low : (k low high : ℕ) (es : List Entry) → Rises low es high → k < low → times k es ≡ 0
none_low k low high [] rises below = refl
none_low k low high (e ∷ es) rises below =
    let from = rises.0 in
    let rest = none_low k (suc e.cookie) high es rises.1 (omega arith) in
    count_no k e es (λ same. absurd (omega arith)) ∙ rest

pub none_high : (k c high : ℕ) (es : List Entry) → Rises (suc c) es high → last_cookie c es < k → times k es ≡ 0
none_high k c high [] rises above = refl
none_high k c high (e ∷ es) rises above =
    let up = last_up e.cookie high es rises.1 in
    count_no k e es (λ same. absurd (omega arith)) ∙ none_high k e.cookie high es rises.1 above

pub once_in : (k c high : ℕ) (es rest : List Entry) (e : Entry) → Rises (suc c) (es ++ rest) high → In e (es ++ rest) → e.cookie ≡ k → k ≤ last_cookie c es
    → times k es ≡ 1
once_in k c high [] rest e rises there same low = let bounds = in_bounds (λ (e : Entry). e.cookie) (suc c) high rest e rises there in absurd (omega arith)
once_in k c high (x ∷ es) rest e rises (inl is) same low =
    let cookie : e.cookie ≡ x.cookie = ap (λ (e : Entry). e.cookie) is in
    count_yes k x es (sym cookie ∙ same)
    ∙ ap (λ n. 1 + n) (none_low k (suc x.cookie) high es (front_rises (suc x.cookie) high es rest rises.1) (omega arith))
once_in k c high (x ∷ es) rest e rises (inr more) same low =
    let bounds = in_bounds (λ (e : Entry). e.cookie) (suc x.cookie) high (es ++ rest) e rises.1 more in
    count_no k x es (λ is. absurd (omega arith)) ∙ once_in k x.cookie high es rest e rises.1 more same low

-- What is in lists that are put together.

pub in_both : {A : Type 0} (xs ys : List A) (x : A) → In x (xs ++ ys) → In x xs ⊎ In x ys
in_both [] ys x there = inr there
in_both (z ∷ xs) ys x (inl is) = inl (inl is)
in_both (z ∷ xs) ys x (inr more) = elim (in_both xs ys x more) [ inl here ↦ inl (inr here) | inr there ↦ inr there ]

pub first_in : {A : Type 0} (xs ys : List A) (x : A) → In x xs → In x (xs ++ ys)
first_in [] ys x there = absurd there
first_in (z ∷ xs) ys x (inl is) = inl is
first_in (z ∷ xs) ys x (inr more) = inr (first_in xs ys x more)

pub second_in : {A : Type 0} (xs ys : List A) (x : A) → In x ys → In x (xs ++ ys)
second_in [] ys x there = there
second_in (z ∷ xs) ys x there = inr (second_in xs ys x there)

pub in_flat : {A B : Type 0} (f : A → List B) (xs : List A) (y : B) → In y (flat_map f xs) → (x : A) × In x xs × In y (f x)
in_flat f [] y there = absurd there
in_flat f (x ∷ xs) y there = elim (in_both (f x) (flat_map f xs) y there) [
  | inl here ↦ (x, inl refl, here)
  | inr more ↦ (let rest = in_flat f xs y more in (rest.0, inr rest.1, rest.2))
]
