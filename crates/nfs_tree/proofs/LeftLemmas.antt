-- What a listing has left, from its start on and behind each entry.
use Rattle.std.proofs.Common.{◌≡◌, ◌≢◌, ℕ, ◌<◌, ◌≤◌, Bool, true, List, [], ◌∷◌, refl, sym, ◌∙◌, ap, subst, arith, inl, inr}
use Rattle.std.proofs.{lemmas.Bool.{cases_Bool, eq-eqb, false_from_ne_true, false≢true}, lemmas.Bool.Decides.nat_tests}
use Rattle.std.specs.{Prelude.filter, List.{AllByRecursion, list_any}, List.Sorted.IsStrictlySortedBy, Map.keys_of, BTreeMap.is_at}
use Rattle.std.specs.{BTreeMap.Range.range_contains, declared.cmp.Ordering.TheVariants.Less, declared.ops.Bound.TheVariants.{Excluded, Unbounded}}
use Rattle.nfs_xdr.specs.Tables.{In}
use Rattle.nfs_xdr.proofs.Lists.{in_filter, stays_in}
use Rattle.nfs_tree.specs.{declared.row.Row.Row, Files.{listed, listing}, Left.{ArePaired, AreAbove, AreLeft}, Maps.{pair_cmp, has_pair, is_pair}}
use Rattle.nfs_tree.proofs.{MapLemmas.{listing_none, listing_next}, PairLemmas.{pair_at, pair_is, pair_row, row_pair}}

abbrev Pair : Type 0
Pair = (ℕ × ℕ) × Unit {0}

-- ---- the order of the pairs
pair_trans : (x y z : ℕ × ℕ) → pair_cmp x y ≡ Less → pair_cmp y z ≡ Less → pair_cmp x z ≡ Less
pair_trans x y z low high = grind (arith, nat_tests)

same_directory : (d c x : ℕ) (q : ℕ × ℕ) → pair_cmp (d, c) q ≡ Less → pair_cmp q (d, x) ≡ Less → q.0 ≡ d
same_directory d c x q low high = grind (arith, nat_tests)

cookie_above : (d c x : ℕ) → pair_cmp (d, c) (d, x) ≡ Less → c < x
cookie_above d c x less = grind (arith, nat_tests)

above_in : (p : ℕ × ℕ) (es : List Pair) (e : Pair) → AreAbove p es → In e es → pair_cmp p e.0 ≡ Less
above_in p [] e are there = absurd there
above_in p (x ∷ xs) e are (inl is) = ap (λ (e : Pair). pair_cmp p e.0) is ∙ are.0
above_in p (x ∷ xs) e are (inr more) = pair_trans p x.0 e.0 are.0 (above_in x.0 xs e are.1 more)

above_from : (p q : ℕ × ℕ) (es : List Pair) → pair_cmp p q ≡ Less → AreAbove q es → AreAbove p es
above_from p q [] low are = tt
above_from p q (x ∷ xs) low are = (pair_trans p q x.0 low are.0, are.1)

-- ---- the start
-- behind the cookie, in the directory or a later one
abbrev is_left : ℕ → ℕ → Pair → Bool
is_left d c e = range_contains pair_cmp (Excluded (d, c)) Unbounded e.0

left_above : (d c : ℕ) (e : Pair) → is_left d c e ≡ true → pair_cmp (d, c) e.0 ≡ Less
left_above d c e is = grind (arith, nat_tests)

is_left_of : (d c x : ℕ) → c < x → is_left d c ((d, x), tt) ≡ true
is_left_of d c x lt = grind (arith, nat_tests)

filtered_above : (p : ℕ × ℕ) (test : Pair → Bool) (es : List Pair) → AllByRecursion (λ (k : ℕ × ℕ). pair_cmp p k ≡ Less) (keys_of es)
    → IsStrictlySortedBy pair_cmp (keys_of es) → AreAbove p (filter test es)
unfolding IsStrictlySortedBy
filtered_above p test [] all sorted = tt
filtered_above p test (e ∷ es) all sorted = elim (cases_Bool (test e)) [
  | inl here ↦ rw here (all.0, filtered_above e.0 test es sorted.0 sorted.1)
  | inr off ↦ rw off (filtered_above p test es all.1 sorted.1)
]

left_rises : (d c : ℕ) (es : List Pair) → IsStrictlySortedBy pair_cmp (keys_of es) → AreAbove (d, c) (filter (is_left d c) es)
unfolding IsStrictlySortedBy
left_rises d c [] sorted = tt
left_rises d c (e ∷ es) sorted = elim (cases_Bool (is_left d c e)) [
  | inl here ↦ rw here (left_above d c e here, filtered_above e.0 (is_left d c) es sorted.0 sorted.1)
  | inr off ↦ rw off (left_rises d c es sorted.1)
]

-- a pair that stands is found, and one that is found stands
stands : (es : List Pair) (e : Pair) → In e es → has_pair es e.0 ≡ true
stands [] e there = absurd there
stands (d ∷ es) e (inl is) =
    let here : is_at (pair_cmp e.0) d.0 ≡ true = ap (λ (x : Pair). is_at (pair_cmp e.0) x.0) (sym is) ∙ pair_at e.0 e.0 ∙ rw (eq-eqb e.0.0 e.0.0 refl, eq-eqb e.0.1 e.0.1 refl) refl in
    rw here refl
stands (d ∷ es) e (inr more) =
    let rest = stands es e more in
    elim (cases_Bool (is_at (pair_cmp e.0) d.0)) [ inl here ↦ rw here refl | inr off ↦ rw off rest ]

found : (es : List Pair) (n c : ℕ) → has_pair es (n, c) ≡ true → In ((n, c), tt) es
found [] n c there = absurd (false≢true there)
found (d ∷ es) n c there = elim (cases_Bool (is_at (pair_cmp (n, c)) d.0)) [
  | inl here ↦ (let is = pair_is (n, c) d.0 here in let a = is.0 in let b = is.1 in inl (same d a b))
  | inr off ↦ inr (found es n c (rw off at there))
]
  where
    same : (d : Pair) → n ≡ d.0.0 → c ≡ d.0.1 → ((n, c), tt) ≡ d
    same d a b = rw (a, b) refl

pub left_starts : (rows : List Row) (es left : List Pair) (d c : ℕ) → ArePaired rows es → IsStrictlySortedBy pair_cmp (keys_of es)
    → left ≡ filter (is_left d c) es → AreLeft rows d c left
left_starts rows es left d c are sorted is = subst (AreLeft rows d c) (sym is) (record {
  at = are.at;
  named = are.named;
  above = left_rises d c es sorted;
  each = λ e there. let in_all = (in_filter (is_left d c) es e there).0 in pair_row (λ (r : Row). r.directory) rows (has_pair es) e.0.0 e.0.1 are.listed (stands es e in_all);
  all = λ r there of up.
      let has : has_pair es (d, r.cookie) ≡ true = ap (λ k. has_pair es (k, r.cookie)) (sym of) ∙ row_pair (λ (r : Row). r.directory) rows (has_pair es) r are.listed there in
      stays_in (is_left d c) es ((d, r.cookie), tt) (found es d r.cookie has) (is_left_of d c r.cookie up);
})

-- ---- the next entry
module _ (rows : List Row) (d c : ℕ) where
  -- whether a row stands there
  has : ℕ × ℕ → Bool
  has q = list_any (is_pair (λ (r : Row). r.directory) q) rows

  nothing_left : (left : List Pair) → AreLeft rows d c left → ((k : ℕ) → In ((d, k), tt) left → ⊥) → listing rows d c ≡ []
  unfolding has
  nothing_left left are none = listing_none rows has d c (λ q. refl) (λ k up. false_from_ne_true (has (d, k)) (λ there. (
      let r = pair_row (λ (r : Row). r.directory) rows has d k (λ q. refl) there in
      let at = r.3 in
      none r.0.cookie (are.all r.0 r.1 r.2 (omega arith)))))

  pub none_left : AreLeft rows d c [] → listing rows d c ≡ []
  none_left are = nothing_left [] are (λ k there. there)

  -- a pair of a later directory
  pub others_left : (e : Pair) (rest : List Pair) → AreLeft rows d c (e ∷ rest) → e.0.0 ≢ d → listing rows d c ≡ []
  others_left e rest are other = nothing_left (e ∷ rest) are no
    where
      no : (k : ℕ) → In ((d, k), tt) (e ∷ rest) → ⊥
      no k (inl is) = other (ap (λ (e : Pair). e.0.0) (sym is))
      no k (inr more) = other (same_directory d c k e.0 are.above.0 (above_in e.0 rest ((d, k), tt) are.above.1 more))

  pub behind_other : (e : Pair) (rest : List Pair) → AreLeft rows d c (e ∷ rest) → e.0.0 ≢ d → AreLeft rows d c rest
  behind_other e rest are other = record {
    at = are.at;
    named = are.named;
    above = above_from (d, c) e.0 rest are.above.0 are.above.1;
    each = λ e there. are.each e (inr there);
    all = λ r there of up. further r (are.all r there of up);
  }
    where
      further : (r : Row) → In ((d, r.cookie), tt) (e ∷ rest) → In ((d, r.cookie), tt) rest
      further r (inl is) = absurd (other (ap (λ (e : Pair). e.0.0) (sym is)))
      further r (inr more) = more

  pub behind_next : (k : ℕ) (rest : List Pair) → AreLeft rows d c (((d, k), tt) ∷ rest) → AreLeft rows d k rest
  behind_next k rest are = record {
    at = are.at;
    named = are.named;
    above = are.above.1;
    each = λ e there. are.each e (inr there);
    all = λ r there of up. further r up (are.all r there of (let low = cookie_above d c k are.above.0 in omega arith));
  }
    where
      further : (r : Row) → k < r.cookie → In ((d, r.cookie), tt) (((d, k), tt) ∷ rest) → In ((d, r.cookie), tt) rest
      further r up (inl is) = (let same : r.cookie ≡ k = ap (λ (e : Pair). e.0.1) is in absurd (omega arith))
      further r up (inr more) = more

  -- a pair of the directory
  pub of_directory : (e : Pair) (rest : List Pair) → AreLeft rows d c (e ∷ rest) → e.0.0 ≡ d → AreLeft rows d c (((d, e.0.1), tt) ∷ rest)
  of_directory e rest are of = subst (λ (n : ℕ). AreLeft rows d c (((n, e.0.1), tt) ∷ rest)) of are

  -- the row of the first pair
  pub first_left : (k : ℕ) (rest : List Pair) → AreLeft rows d c (((d, k), tt) ∷ rest) → (r : Row) × In r rows × (r.directory ≡ d) × (r.cookie ≡ k)
  first_left k rest are = are.each ((d, k), tt) (inl refl)

  pub next_left : (k : ℕ) (rest : List Pair) (x : Row) → AreLeft rows d c (((d, k), tt) ∷ rest) → In x rows → x.directory ≡ d → x.cookie ≡ k
      → listing rows d c ≡ listed x ∷ listing rows d k
  unfolding has
  next_left k rest x are there of is =
      let low = cookie_above d c k are.above.0 in
      listing_next rows are.at has d c x are.named (λ q. refl) there of (omega arith)
      (λ n up stands. (let r = pair_row (λ (r : Row). r.directory) rows has d n (λ q. refl) stands in
      let at = r.3 in
      let le = least r.0.cookie (are.all r.0 r.1 r.2 (omega arith)) in
      omega arith))
      ∙ ap (λ n. listed x ∷ listing rows d n) is
    where
      least : (n : ℕ) → In ((d, n), tt) (((d, k), tt) ∷ rest) → k ≤ n
      least n (inl same) = (let at : n ≡ k = ap (λ (e : Pair). e.0.1) same in omega arith)
      least n (inr more) = (let low = cookie_above d k n (above_in (d, k) rest ((d, n), tt) are.above.1 more) in omega arith)
