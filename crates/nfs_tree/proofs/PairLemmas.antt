-- Maps of pairs: of a number that each row has, and its cookie.
use Rattle.std.proofs.Common.{◌≡◌, ℕ, ◌≤◌, Bool, true, false, cond, not, List, [], ◌∷◌, ◌++◌, Option, Some, None, refl, sym, ◌∙◌, ap, arith, inl, inr}
use Rattle.std.proofs.{lemmas.Bool.{cases_Bool, eq-eqb, eqb-true, and_parts, false≢true}, lemmas.Bool.Decides.nat_tests}
use Rattle.std.specs.{Prelude.{◌==◌, ◌&&◌, is_some, IsSome}, List.list_any, declared.cmp.Ordering.Ordering}
use Rattle.std.specs.{declared.cmp.Ordering.TheVariants.{Less, Equal, Greater}, Ordering.{is_eq, is_gt}, BTreeMap.{is_at, insert_entry}, Map.lookup}
use Rattle.nfs_xdr.specs.Tables.{IsRising, In, without_record}
use Rattle.nfs_xdr.proofs.{Lists.{in_filter, in_any, any_in, any_push, last_in, any_filter}, Tables.{in_once, in_bounds}}
use Rattle.nfs_tree.specs.{declared.row.Row.Row, Maps.{pair_cmp, has_pair, is_pair, ArePairs}}

pub pair_at : (q k : ℕ × ℕ) → is_at (pair_cmp q) k ≡ ((q.0 == k.0) && (q.1 == k.1))
pair_at q k = grind (arith, nat_tests)

pair_back : (q k : ℕ × ℕ) → is_at (pair_cmp q) k ≡ is_at (pair_cmp k) q
pair_back q k = grind (arith, nat_tests)

pub pair_is : (q k : ℕ × ℕ) → is_at (pair_cmp q) k ≡ true → (q.0 ≡ k.0) × (q.1 ≡ k.1)
pair_is q k e = let parts = and_parts (q.0 == k.0) (q.1 == k.1) (sym (pair_at q k) ∙ e) in (eqb-true q.0 k.0 parts.0, eqb-true q.1 k.1 parts.1)

-- a look-up after a new key
lookup_insert : {X : Type 0} (es : List ((ℕ × ℕ) × X)) (k q : ℕ × ℕ) (v : X)
    → lookup (is_at (pair_cmp q)) (insert_entry pair_cmp es k v) ≡ cond (is_at (pair_cmp k) q) (Some v) (lookup (is_at (pair_cmp q)) es)
lookup_insert [] k q v = ap (λ b. cond b (Some v) None) (pair_back q k)
lookup_insert {X} (e ∷ es) k q v = by_order (pair_cmp k e.0) refl (lookup_insert es k q v)
  where
    by_order : (o : Ordering) → pair_cmp k e.0 ≡ o
        → lookup (is_at (pair_cmp q)) (insert_entry pair_cmp es k v) ≡ cond (is_at (pair_cmp k) q) (Some v) (lookup (is_at (pair_cmp q)) es)
        → lookup (is_at (pair_cmp q)) (insert_entry pair_cmp (e ∷ es) k v) ≡ cond (is_at (pair_cmp k) q) (Some v) (lookup (is_at (pair_cmp q)) (e ∷ es))
    by_order Less h ih = rw h (ap (λ b. cond b (Some v) (lookup (is_at (pair_cmp q)) (e ∷ es))) (pair_back q k))
    by_order Equal h ih =
        let same = pair_is k e.0 (ap is_eq h) in
        let at : is_at (pair_cmp q) e.0 ≡ is_at (pair_cmp k) q = (let a = same.0 in let b = same.1 in grind (arith, nat_tests)) in
        rw h (elim (cases_Bool (is_at (pair_cmp k) q)) [
          | inl here ↦ rw (at, here) refl
          | inr off ↦ rw (at, off) refl
        ])
    by_order Greater h ih = rw h (elim (cases_Bool (is_at (pair_cmp q) e.0)) [
      | inl here ↦ (let a = pair_is q e.0 here in
          let off : is_at (pair_cmp k) q ≡ false = (elim (cases_Bool (is_at (pair_cmp k) q)) [
            | inl same ↦ (let b = pair_is k q same in
                let c : is_at (pair_cmp k) e.0 ≡ true = (let x : k.0 ≡ e.0.0 = b.0 ∙ a.0 in let y : k.1 ≡ e.0.1 = b.1 ∙ a.1 in grind (arith, nat_tests)) in
                absurd (let bad : true ≡ false = sym c ∙ ap is_eq h in cc))
            | inr off ↦ off
          ]) in
          rw (here, off) refl)
      | inr past ↦ rw past ih
    ])

some_cond : {X : Type 0} (b : Bool) (v : X) (o : Option X) → is_some (cond b (Some v) o) ≡ cond b true (is_some o)
some_cond true v o = refl
some_cond false v o = refl

none_cond : {X : Type 0} (b : Bool) (o : Option X) → is_some (cond b None o) ≡ cond b false (is_some o)
none_cond true o = refl
none_cond false o = refl

-- the pairs that there are behind a new one, and without one
pub pair_put : (ls ms : List ((ℕ × ℕ) × Unit {0})) (k : ℕ × ℕ) → ms ≡ insert_entry pair_cmp ls k tt
    → (q : ℕ × ℕ) → has_pair ms q ≡ cond ((k.0 == q.0) && (k.1 == q.1)) true (has_pair ls q)
pair_put ls ms k e q =
    ap (λ ms. has_pair ms q) e ∙ ap is_some (lookup_insert ls k q tt) ∙ some_cond (is_at (pair_cmp k) q) tt (lookup (is_at (pair_cmp q)) ls)
    ∙ ap (λ b. cond b true (has_pair ls q)) (pair_at k q)

pub pair_gone : (ls ms : List ((ℕ × ℕ) × Unit {0})) (k : ℕ × ℕ)
    → ((q : ℕ × ℕ) → lookup (is_at (pair_cmp q)) ms ≡ cond (is_at (pair_cmp k) q) None (lookup (is_at (pair_cmp q)) ls))
    → (q : ℕ × ℕ) → has_pair ms q ≡ cond ((k.0 == q.0) && (k.1 == q.1)) false (has_pair ls q)
pair_gone ls ms k e q =
    ap is_some (e q) ∙ none_cond (is_at (pair_cmp k) q) (lookup (is_at (pair_cmp q)) ls) ∙ ap (λ b. cond b false (has_pair ls q)) (pair_at k q)

module _ (of : Row → ℕ) where
  -- one more row
  pub pairs_put : (rows : List Row) (has has' : ℕ × ℕ → Bool) (r : Row) → ArePairs of rows has
      → ((q : ℕ × ℕ) → has' q ≡ cond ((of r == q.0) && (r.cookie == q.1)) true (has q)) → ArePairs of (rows ++ r ∷ []) has'
  pairs_put rows has has' r are put q = put q ∙ ap (cond (is_pair of q r) true) (are q) ∙ (elim (cases_Bool (is_pair of q r)) [
    | inl here ↦ rw here (sym (any_in (is_pair of q) (rows ++ r ∷ []) r (last_in rows r) here))
    | inr off ↦ rw off (sym (any_push (is_pair of q) rows r off))
  ])

  -- a row less
  pub pairs_gone : (low high : ℕ) (rows : List Row) (has has' : ℕ × ℕ → Bool) (r : Row) → IsRising (λ (r : Row). r.cookie) low rows high → In r rows → ArePairs of rows has
      → ((q : ℕ × ℕ) → has' q ≡ cond ((of r == q.0) && (r.cookie == q.1)) false (has q)) → ArePairs of (without_record (λ (r : Row). r.cookie) rows r.cookie) has'
  pairs_gone low high rows has has' r rise there are gone q = gone q ∙ ap (cond (is_pair of q r) false) (are q) ∙ (elim (cases_Bool (is_pair of q r)) [
    | inl here ↦ rw here (sym (nothing here))
    | inr off ↦ rw off (sym (any_filter (is_pair of q) (λ x. not (x.cookie == r.cookie)) rows (λ x at passes. stays x at passes off)))
  ])
    where
      nothing : is_pair of q r ≡ true → list_any (is_pair of q) (without_record (λ (r : Row). r.cookie) rows r.cookie) ≡ false
      nothing here = elim (cases_Bool (list_any (is_pair of q) (without_record (λ (r : Row). r.cookie) rows r.cookie))) [
        | inl some ↦ (let x = in_any (is_pair of q) (without_record (λ (r : Row). r.cookie) rows r.cookie) some in
            let left = in_filter (λ (x : Row). not (x.cookie == r.cookie)) rows x.0 x.1 in
            let a = and_parts (of x.0 == q.0) (x.0.cookie == q.1) x.2 in
            let b = and_parts (of r == q.0) (r.cookie == q.1) here in
            let same : x.0.cookie ≡ r.cookie = eqb-true x.0.cookie q.1 a.1 ∙ sym (eqb-true r.cookie q.1 b.1) in
            absurd (let bad : false ≡ true = rw (eq-eqb x.0.cookie r.cookie same) at left.1 in false≢true bad))
        | inr none ↦ none
      ]

      stays : (x : Row) → In x rows → is_pair of q x ≡ true → is_pair of q r ≡ false → not (x.cookie == r.cookie) ≡ true
      stays x at passes off = elim (cases_Bool (x.cookie == r.cookie)) [
        | inl same ↦ (let is : x ≡ r = in_once (λ (r : Row). r.cookie) low high rows x r rise at there (eqb-true x.cookie r.cookie same) in
            absurd (false≢true (sym off ∙ ap (is_pair of q) (sym is) ∙ passes)))
        | inr other ↦ rw other refl
      ]

  -- the row of a pair that there is
  pub pair_row : (rows : List Row) (has : ℕ × ℕ → Bool) (n c : ℕ) → ArePairs of rows has → has (n, c) ≡ true → (r : Row) × In r rows × (of r ≡ n) × (r.cookie ≡ c)
  pair_row rows has n c are there =
      let r = in_any (is_pair of (n, c)) rows (sym (are (n, c)) ∙ there) in
      let parts = and_parts (of r.0 == n) (r.0.cookie == c) r.2 in
      (r.0, r.1, eqb-true (of r.0) n parts.0, eqb-true r.0.cookie c parts.1)

  -- the pair of a row
  pub row_pair : (rows : List Row) (has : ℕ × ℕ → Bool) (r : Row) → ArePairs of rows has → In r rows → has (of r, r.cookie) ≡ true
  row_pair rows has r are there =
      are (of r, r.cookie) ∙ any_in (is_pair of (of r, r.cookie)) rows r there (rw (eq-eqb (of r) (of r) refl) (eq-eqb r.cookie r.cookie refl))

  -- a cookie that no row has
  pub pair_new : (low high : ℕ) (rows : List Row) (has : ℕ × ℕ → Bool) (n c : ℕ) → IsRising (λ (r : Row). r.cookie) low rows high → high ≤ c → ArePairs of rows has → has (n, c) ≡ false
  pair_new low high rows has n c rise up are = elim (cases_Bool (has (n, c))) [
    | inl there ↦ (let r = pair_row rows has n c are there in let below = (in_bounds (λ (r : Row). r.cookie) low high rows r.0 rise r.1).1 in let same = r.3 in absurd (omega arith))
    | inr none ↦ none
  ]

  pub some_pair : (rows : List Row) (has : ℕ × ℕ → Bool) (n c : ℕ) → ArePairs of rows has → has (n, c) ≡ true → list_any (λ r. of r == n) rows ≡ true
  some_pair rows has n c are there = let r = pair_row rows has n c are there in any_in (λ r. of r == n) rows r.0 r.1 (eq-eqb (of r.0) n r.2)

  pub no_pair : (rows : List Row) (has : ℕ × ℕ → Bool) (n : ℕ) → ArePairs of rows has → ((c : ℕ) → 0 ≤ c → has (n, c) ≡ false) → list_any (λ r. of r == n) rows ≡ false
  no_pair rows has n are none = elim (cases_Bool (list_any (λ r. of r == n) rows)) [
    | inl some ↦ (let r = in_any (λ r. of r == n) rows some in
        let same : of r.0 ≡ n = eqb-true (of r.0) n r.2 in
        absurd (false≢true (sym (none r.0.cookie (omega arith)) ∙ ap (λ n. has (n, r.0.cookie)) (sym same) ∙ row_pair rows has r.0 are r.1)))
    | inr off ↦ off
  ]

-- ---- the order of the keys
pub pair_from : (d a c : ℕ) → a ≤ c → is_gt (pair_cmp (d, a) (d, c)) ≡ false
pair_from d a c le = grind (arith, nat_tests)

pub pair_least : (d a x : ℕ) (k : ℕ × ℕ) → is_gt (pair_cmp (d, a) k) ≡ false → is_gt (pair_cmp k (d, x)) ≡ false → k.1 ≤ x
pair_least d a x k low high = grind (arith, nat_tests)

pub pair_first : (d a x : ℕ) (k : ℕ × ℕ) → is_gt (pair_cmp (d, a) k) ≡ false → is_gt (pair_cmp k (d, x)) ≡ false → k.0 ≡ d
pair_first d a x k low high = grind (arith, nat_tests)

pub is_there : {X : Type 0} (o : Option X) → IsSome o → is_some o ≡ true
is_there None s = s
is_there (Some x) s = refl

pub there_is : {X : Type 0} (o : Option X) → is_some o ≡ true → IsSome o
there_is None s = s
there_is (Some x) s = refl

pub none_there : {X : Type 0} (o : Option X) → (IsSome o → ⊥) → o ≡ None
none_there None f = refl
none_there (Some x) f = absurd (f refl)

pub is_none : {X : Type 0} (o : Option X) → is_some o ≡ false → o ≡ None
is_none None e = refl
is_none (Some x) e = absurd cc

pub not_there : {X : Type 0} (o : Option X) → o ≡ None → is_some o ≡ false
not_there None e = refl
not_there (Some x) e = absurd cc
