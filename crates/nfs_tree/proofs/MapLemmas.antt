-- What changes of the maps make of the list of rows.
use Rattle.std.proofs.Common.{◌≡◌, ℕ, ◌<◌, ◌≤◌, ◌+◌, ◌^◌, suc, Bool, true, false, cond, not, List, [], ◌∷◌, ◌++◌, map, length, Option, Some, None, refl, sym, ◌∙◌, ap, arith, inl, inr}
use Rattle.std.proofs.lemmas.Bool.{le-ltb, cases_Bool, eq-eqb, ne_eqb, eqb-true, and_parts, false≢true, ltb-true, lt-ltb}
use Rattle.std.proofs.lemmas.Slice.Eq.{bytes_eq-Decides}
use Rattle.std.specs.Prelude.{◌==◌, ◌&&◌, filter, find, option_map, is_some, bytes_eq, nat_lt}
use Rattle.nfs_xdr.specs.{Text.IsBytes, Tables.{IsRising, In, record_at, without_record}}
use Rattle.nfs_xdr.proofs.Lists.{any_in, in_filter, in_push, find_in, none_in, find_none, find_kept, find_past, find_out, find_push, find_push_some, find_push_other, filter_in, filter_all, some_or_none}
use Rattle.nfs_xdr.proofs.Tables.{IsRising-push, IsRising-filter, in_bounds, in_once, at_of_in}
use Rattle.nfs_tree.specs.{declared.row.Found.Found, declared.row.Row.Row, Finding.{found_of, found_at}}
use Rattle.nfs_tree.specs.{Files.{most_name, is_entry, entry, has_row, without_entry, listed, listing}, ByName.NamesAnew, Maps.{AreNamed, ArePairs}}
use Rattle.nfs_tree.proofs.{PairLemmas.row_pair, RowsKept.{entry_parts, entry_self, found_put, either}}

abbrev pub cookie : Row → ℕ
cookie r = r.cookie

filter_last : (p : Row → Bool) (rows : List Row) (r : Row) → p r ≡ false → filter p (rows ++ r ∷ []) ≡ filter p rows
filter_last p [] r fails = rw fails refl
filter_last p (x ∷ xs) r fails = elim (cases_Bool (p x)) [ inl here ↦ rw here (ap (λ ys. x ∷ ys) (filter_last p xs r fails)) | inr off ↦ rw off (filter_last p xs r fails) ]

-- a row that came goes
pub taken_back : (rows : List Row) (r : Row) → IsRising cookie 3 rows r.cookie → without_record cookie (rows ++ r ∷ []) r.cookie ≡ rows
taken_back rows r rise =
    let test = λ (x : Row). not (x.cookie == r.cookie) in
    filter_last test rows r (ap not (eq-eqb r.cookie r.cookie refl))
    ∙ filter_all test rows (λ x there. (let lower = in_bounds cookie 3 r.cookie rows x rise there in ap not (ne_eqb x.cookie r.cookie (λ same. absurd (omega arith)))))

-- ---- rows by their names
module _ (rows : List Row) (at : ℕ → List ℕ → Option ℕ) (are : AreNamed rows at) where
  only : (d : ℕ) (name : List ℕ) (x : Row) → In x rows → is_entry d name x ≡ true → entry rows d name ≡ Some x
  only d name x there is =
      let parts = entry_parts d name x is in
      ap (λ d. entry rows d name) (sym parts.0) ∙ ap (entry rows x.directory) (sym parts.1) ∙ are.found x there

  pub named_row : (d c : ℕ) (name : List ℕ) → d < 2 ^ 64 → IsBytes name → at d name ≡ Some c → record_at cookie rows c ≡ entry rows d name
  named_row d c name few is e = elim (some_or_none (entry rows d name)) [
    | inl found ↦ (let both : Some c ≡ Some (cookie found.0) = sym e ∙ are.names d name few is ∙ ap (option_map cookie) found.1 in
        let same : c ≡ cookie found.0 = cc in
        ap (record_at cookie rows) same ∙ at_of_in cookie 3 are.high rows found.0 are.rising (find_in (is_entry d name) rows found.0 found.1).0 ∙ sym found.1)
    | inr none ↦ absurd (let bad : Some c ≡ None = sym e ∙ are.names d name few is ∙ ap (option_map cookie) none in cc)
  ]

  pub named_none : (d : ℕ) (name : List ℕ) → d < 2 ^ 64 → IsBytes name → at d name ≡ None → entry rows d name ≡ None
  named_none d name few is e = elim (some_or_none (entry rows d name)) [
    | inl found ↦ absurd (let bad : None ≡ Some (cookie found.0) = sym e ∙ are.names d name few is ∙ ap (option_map cookie) found.1 in cc)
    | inr none ↦ none
  ]

  pub too_long : (d : ℕ) (name : List ℕ) → most_name < length name → entry rows d name ≡ None
  too_long d name long = elim (some_or_none (entry rows d name)) [
    | inl found ↦ (let is = find_in (is_entry d name) rows found.0 found.1 in
        let same : length found.0.name ≡ length name = ap length (entry_parts d name found.0 is.1).1 in
        let short = are.short found.0 is.0 in
        absurd (omega arith))
    | inr none ↦ none
  ]

  pub short_name : (d : ℕ) (name : List ℕ) (x : Row) → entry rows d name ≡ Some x → length name ≤ most_name
  short_name d name x found =
      let is = find_in (is_entry d name) rows x found in
      let same : length x.name ≡ length name = ap length (entry_parts d name x is.1).1 in
      let short = are.short x is.0 in
      omega arith

  -- the row of a name goes where that of its cookie does
  pub gone_same : (d : ℕ) (name : List ℕ) (x : Row) → entry rows d name ≡ Some x → without_record cookie rows x.cookie ≡ without_entry d name rows
  gone_same d name x found = filter_in (λ y. not (y.cookie == x.cookie)) (λ y. not (is_entry d name y)) rows (λ y there. ap not (same y there))
    where
      same : (y : Row) → In y rows → (y.cookie == x.cookie) ≡ is_entry d name y
      same y there = elim (cases_Bool (is_entry d name y)) [
        | inl is ↦ (let both : Some y ≡ Some x = sym (only d name y there is) ∙ found in let one : y ≡ x = cc in eq-eqb y.cookie x.cookie (ap cookie one) ∙ sym is)
        | inr off ↦ elim (cases_Bool (y.cookie == x.cookie)) [
          | inl one ↦ (let is = find_in (is_entry d name) rows x found in
              let both : y ≡ x = in_once cookie 3 are.high rows y x are.rising there is.0 (eqb-true y.cookie x.cookie one) in
              absurd (false≢true (sym off ∙ ap (is_entry d name) both ∙ is.1)))
          | inr other ↦ other ∙ sym off
        ]
      ]

  kept_names : (d : ℕ) (name : List ℕ) (e : ℕ) (other : List ℕ)
      → cond ((d == e) && bytes_eq name other) None (option_map cookie (entry rows e other)) ≡ option_map cookie (entry (without_entry d name rows) e other)
  kept_names d name e other = elim (cases_Bool ((d == e) && bytes_eq name other)) [
    | inl same ↦ rw same (ap (option_map cookie) (sym (find_out (is_entry e other) (λ r. not (is_entry d name r)) rows (λ r here. ap not (as_well r same here)))))
    | inr differ ↦ rw differ (ap (option_map cookie) (sym (find_past (is_entry e other) (λ r. not (is_entry d name r)) rows (λ r here. stays r differ here))))
  ]
    where
      as_well : (r : Row) → ((d == e) && bytes_eq name other) ≡ true → is_entry e other r ≡ true → is_entry d name r ≡ true
      as_well r same here =
          let parts = and_parts (d == e) (bytes_eq name other) same in
          let de : d ≡ e = eqb-true d e parts.0 in
          let ne : name ≡ other = (bytes_eq-Decides name other).0 parts.1 in
          ap (λ d. is_entry d name r) de ∙ ap (λ name. is_entry e name r) ne ∙ here

      stays : (r : Row) → ((d == e) && bytes_eq name other) ≡ false → is_entry e other r ≡ true → not (is_entry d name r) ≡ true
      stays r differ here = elim (cases_Bool (is_entry d name r)) [
        | inl is ↦ (let a = entry_parts d name r is in let b = entry_parts e other r here in
            let t : ((d == e) && bytes_eq name other) ≡ true = rw (eq-eqb d e (sym a.0 ∙ b.0)) ((bytes_eq-Decides name other).1 (sym a.1 ∙ b.1)) in
            absurd (false≢true (sym differ ∙ t)))
        | inr off ↦ ap not off
      ]

  pub named_gone : (bt : ℕ → List ℕ → Option ℕ) (d : ℕ) (name : List ℕ) → NamesAnew at bt d name None → AreNamed (without_entry d name rows) bt
  named_gone bt d name gone =
      let test = λ (r : Row). not (is_entry d name r) in
      let old = in_filter test rows in
      record {
        high = are.high;
        rising = IsRising-filter cookie test 3 are.high rows are.rising;
        short = λ r is. are.short r (old r is).0;
        few = λ r is. are.few r (old r is).0;
        found = λ r is. let was = old r is in find_kept (is_entry r.directory r.name) test rows r (are.found r was.0) was.1;
        names = λ e other lt is. gone e other lt is ∙ ap (cond ((d == e) && bytes_eq name other) None) (are.names e other lt is) ∙ kept_names d name e other;
      }

  pub named_put : (bt : ℕ → List ℕ → Option ℕ) (r : Row) → IsRising cookie 3 rows r.cookie → entry rows r.directory r.name ≡ None → length r.name ≤ most_name
      → (r.directory < 2 ^ 64) × (r.cookie < 2 ^ 64)
      → NamesAnew at bt r.directory r.name (Some r.cookie) → AreNamed (rows ++ r ∷ []) bt
  named_put bt r rise vacant short few put =
      record {
        high = r.cookie + 1;
        rising = IsRising-push cookie 3 r.cookie (r.cookie + 1) rows r refl refl rise;
        short = λ x is. either {P = λ (x : Row). length x.name ≤ most_name} r x rows short are.short (in_push rows r x is);
        few = λ x is. either {P = λ (x : Row). (x.directory < 2 ^ 64) × (x.cookie < 2 ^ 64)} r x rows few are.few (in_push rows r x is);
        found = λ x is. found_put rows r x vacant are.found (in_push rows r x is);
        names = λ d name lt is. put d name lt is ∙ ap (cond (is_entry d name r) (Some r.cookie)) (are.names d name lt is) ∙ seen d name;
      }
    where
      seen : (d : ℕ) (name : List ℕ) → cond (is_entry d name r) (Some r.cookie) (option_map cookie (entry rows d name)) ≡ option_map cookie (entry (rows ++ r ∷ []) d name)
      seen d name = elim (cases_Bool (is_entry d name r)) [
        | inl here ↦ (let a = entry_parts d name r here in
            let none : entry rows d name ≡ None = ap (λ d. entry rows d name) (sym a.0) ∙ ap (entry rows r.directory) (sym a.1) ∙ vacant in
            rw (here, find_push (is_entry d name) rows r none, here) refl)
        | inr off ↦ rw (off, find_push_other (is_entry d name) rows r off) refl
      ]

twice : (b : Bool) (n : ℕ) (o : Option ℕ) → cond b (Some n) o ≡ cond b (Some n) (cond b None o)
twice true n o = refl
twice false n o = refl

-- a row comes, and one that had its name goes
pub named_over : (rows : List Row) (at bt : ℕ → List ℕ → Option ℕ) (r : Row) → AreNamed rows at → IsRising cookie 3 rows r.cookie → length r.name ≤ most_name
    → (r.directory < 2 ^ 64) × (r.cookie < 2 ^ 64)
    → NamesAnew at bt r.directory r.name (Some r.cookie) → AreNamed (without_entry r.directory r.name rows ++ r ∷ []) bt
named_over rows at bt r are rise short few put =
    let less = without_entry r.directory r.name rows in
    let mid : ℕ → List ℕ → Option ℕ = λ e other. cond ((r.directory == e) && bytes_eq r.name other) None (at e other) in
    named_put less mid (named_gone rows at are mid r.directory r.name (λ e other lt is. refl)) bt r
    (IsRising-filter cookie (λ x. not (is_entry r.directory r.name x)) 3 r.cookie rows rise)
    (find_out (is_entry r.directory r.name) (λ x. not (is_entry r.directory r.name x)) rows (λ x here. ap not here))
    short few (λ e other lt is. put e other lt is ∙ twice ((r.directory == e) && bytes_eq r.name other) r.cookie (at e other))

pub none_gone : (rows : List Row) (d : ℕ) (name : List ℕ) → entry rows d name ≡ None → without_entry d name rows ≡ rows
none_gone rows d name none = filter_all (λ r. not (is_entry d name r)) rows (λ r there. ap not (none_in (is_entry d name) rows r none there))

filter_push : (p : Row → Bool) (rows : List Row) (r : Row) → p r ≡ true → filter p (rows ++ r ∷ []) ≡ filter p rows ++ r ∷ []
filter_push p [] r passes = rw passes refl
filter_push p (x ∷ xs) r passes = elim (cases_Bool (p x)) [ inl here ↦ rw here (ap (λ ys. x ∷ ys) (filter_push p xs r passes)) | inr off ↦ rw off (filter_push p xs r passes) ]

-- behind the row that came
pub gone_before : (rows : List Row) (at : ℕ → List ℕ → Option ℕ) (r x : Row) → AreNamed rows at → IsRising cookie 3 rows r.cookie → entry rows r.directory r.name ≡ Some x
    → without_record cookie (rows ++ r ∷ []) x.cookie ≡ without_entry r.directory r.name rows ++ r ∷ []
gone_before rows at r x are rise found =
    let lower : x.cookie < r.cookie = (in_bounds cookie 3 r.cookie rows x rise (find_in (is_entry r.directory r.name) rows x found).0).1 in
    filter_push (λ y. not (y.cookie == x.cookie)) rows r (ap not (ne_eqb r.cookie x.cookie (λ same. absurd (omega arith))))
    ∙ ap (λ ys. ys ++ r ∷ []) (gone_same rows at are r.directory r.name x found)

-- another entry goes behind the row that came
pub gone_push : (d : ℕ) (name : List ℕ) (rows : List Row) (r : Row) → is_entry d name r ≡ false → without_entry d name (rows ++ r ∷ []) ≡ without_entry d name rows ++ r ∷ []
gone_push d name rows r other = filter_push (λ x. not (is_entry d name x)) rows r (ap not other)

-- the row that came goes again
pub put_back : (d : ℕ) (name : List ℕ) (rows : List Row) (r : Row) → is_entry d name r ≡ true → entry rows d name ≡ None → without_entry d name (rows ++ r ∷ []) ≡ rows
put_back d name rows r is none = last rows ∙ none_gone rows d name none
  where
    last : (xs : List Row) → without_entry d name (xs ++ r ∷ []) ≡ without_entry d name xs
    last [] = rw is refl
    last (x ∷ xs) = elim (cases_Bool (is_entry d name x)) [ inl here ↦ rw here (last xs) | inr off ↦ rw off (ap (λ ys. x ∷ ys) (last xs)) ]

-- ---- rows of a number behind a cookie
filter_none : (p : Row → Bool) (xs : List Row) → ((x : Row) → In x xs → p x ≡ false) → filter p xs ≡ []
filter_none p [] off = refl
filter_none p (x ∷ xs) off = rw (off x (inl refl)) (filter_none p xs (λ y there. off y (inr there)))

module _ (of : Row → ℕ) where
  abbrev is_behind : ℕ → ℕ → Row → Bool
  is_behind n k r = (of r == n) && nat_lt k r.cookie

  behind_none : (rows : List Row) (has : ℕ × ℕ → Bool) (n k : ℕ) → ArePairs of rows has → ((c : ℕ) → k + 1 ≤ c → has (n, c) ≡ false) → filter (is_behind n k) rows ≡ []
  behind_none rows has n k are none = filter_none (is_behind n k) rows off
    where
      off : (x : Row) → In x rows → is_behind n k x ≡ false
      off x there = elim (cases_Bool (is_behind n k x)) [
        | inl here ↦ (let parts = and_parts (of x == n) (nat_lt k x.cookie) here in
            let up : k < x.cookie = ltb-true k x.cookie parts.1 in
            absurd (false≢true (sym (none x.cookie (omega arith)) ∙ ap (λ n. has (n, x.cookie)) (sym (eqb-true (of x) n parts.0)) ∙ row_pair of rows has x are there)))
        | inr other ↦ other
      ]

  behind_end : (rows : List Row) (at : ℕ → List ℕ → Option ℕ) (n k : ℕ) → AreNamed rows at → k + 1 ≡ 2 ^ 64 → filter (is_behind n k) rows ≡ []
  behind_end rows at n k are top = filter_none (is_behind n k) rows off
    where
      off : (x : Row) → In x rows → is_behind n k x ≡ false
      off x there = elim (cases_Bool (is_behind n k x)) [
        | inl here ↦ (let up : k < x.cookie = ltb-true k x.cookie (and_parts (of x == n) (nat_lt k x.cookie) here).1 in let few = (are.few x there).1 in absurd (omega arith))
        | inr other ↦ other
      ]

  next_behind : (n k low high : ℕ) (rows : List Row) (x : Row) → IsRising cookie low rows high → In x rows → of x ≡ n → k < x.cookie
      → ((y : Row) → In y rows → of y ≡ n → k < y.cookie → x.cookie ≤ y.cookie) → filter (is_behind n k) rows ≡ x ∷ filter (is_behind n x.cookie) rows
  next_behind n k low high [] x rise there at up least = absurd there
  next_behind n k low high (y ∷ ys) x rise (inl is) at up least =
      let here : is_behind n k x ≡ true = rw (eq-eqb (of x) n at, lt-ltb k x.cookie up) refl in
      let past : is_behind n x.cookie x ≡ false = rw (eq-eqb (of x) n at, le-ltb x.cookie x.cookie (omega arith)) refl in
      let rest = filter_in (is_behind n k) (is_behind n x.cookie) ys (λ z there. (
      let above = (in_bounds cookie (suc y.cookie) high ys z rise.1 there).0 in
      let same : cookie x ≡ cookie y = ap cookie is in
      let a : nat_lt k z.cookie ≡ true = lt-ltb k z.cookie (omega arith) in
      let b : nat_lt x.cookie z.cookie ≡ true = lt-ltb x.cookie z.cookie (omega arith) in
      rw (a, b) refl)) in
      rw (← is, here, past) (ap (λ zs. x ∷ zs) rest)
  next_behind n k low high (y ∷ ys) x rise (inr more) at up least =
      let above = (in_bounds cookie (suc y.cookie) high ys x rise.1 more).0 in
      let rest = next_behind n k (suc y.cookie) high ys x rise.1 more at up (λ z there. least z (inr there)) in
      let off : is_behind n k y ≡ false = elim (cases_Bool (is_behind n k y)) [
        | inl here ↦ (let parts = and_parts (of y == n) (nat_lt k y.cookie) here in
            let le = least y (inl refl) (eqb-true (of y) n parts.0) (ltb-true k y.cookie parts.1) in absurd (omega arith))
        | inr other ↦ other
      ] in
      let past : is_behind n x.cookie y ≡ false = elim (cases_Bool (is_behind n x.cookie y)) [
        | inl here ↦ (let low = ltb-true x.cookie y.cookie (and_parts (of y == n) (nat_lt x.cookie y.cookie) here).1 in absurd (omega arith))
        | inr other ↦ other
      ] in
      rw (off, past) rest

  behind_next : (rows : List Row) (at : ℕ → List ℕ → Option ℕ) (has : ℕ × ℕ → Bool) (n k : ℕ) (x : Row) → AreNamed rows at → ArePairs of rows has
      → In x rows → of x ≡ n → k + 1 ≤ x.cookie → ((c : ℕ) → k + 1 ≤ c → has (n, c) ≡ true → x.cookie ≤ c) → filter (is_behind n k) rows ≡ x ∷ filter (is_behind n x.cookie) rows
  behind_next rows at has n k x named are there stands up least =
      next_behind n k 3 named.high rows x named.rising there stands (omega arith)
      (λ y in_rows in_n above. least y.cookie (omega arith) (ap (λ n. has (n, y.cookie)) (sym in_n) ∙ row_pair of rows has y are in_rows))

  -- the first row of a number
  first_row : (n low high : ℕ) (rows : List Row) (x : Row) → IsRising cookie low rows high → In x rows → of x ≡ n
      → ((y : Row) → In y rows → of y ≡ n → x.cookie ≤ y.cookie) → find (λ r. of r == n) rows ≡ Some x
  first_row n low high [] x rise there at least = absurd there
  first_row n low high (y ∷ ys) x rise (inl is) at least = rw (← is, eq-eqb (of x) n at) refl
  first_row n low high (y ∷ ys) x rise (inr more) at least = elim (cases_Bool (of y == n)) [
    | inl here ↦ (let le = least y (inl refl) (eqb-true (of y) n here) in
        let above = (in_bounds cookie (suc y.cookie) high ys x rise.1 more).0 in absurd (omega arith))
    | inr other ↦ rw other (first_row n (suc y.cookie) high ys x rise.1 more at (λ z there. least z (inr there)))
  ]

  pub find_first : (rows : List Row) (at : ℕ → List ℕ → Option ℕ) (has : ℕ × ℕ → Bool) (n : ℕ) (x : Row) → AreNamed rows at → ArePairs of rows has
      → In x rows → of x ≡ n → ((c : ℕ) → 0 ≤ c → has (n, c) ≡ true → x.cookie ≤ c) → find (λ r. of r == n) rows ≡ Some x
  find_first rows at has n x named are there stands least = first_row n 3 named.high rows x named.rising there stands
      (λ y in_rows in_n. least y.cookie (omega arith) (ap (λ n. has (n, y.cookie)) (sym in_n) ∙ row_pair of rows has y are in_rows))

  pub find_nowhere : (rows : List Row) (has : ℕ × ℕ → Bool) (n : ℕ) → ArePairs of rows has → ((c : ℕ) → 0 ≤ c → has (n, c) ≡ false) → find (λ r. of r == n) rows ≡ None
  find_nowhere rows has n are none = find_none (λ r. of r == n) rows off
    where
      off : (x : Row) → In x rows → (of x == n) ≡ false
      off x there = elim (cases_Bool (of x == n)) [
        | inl here ↦ absurd (false≢true (sym (none x.cookie (omega arith)) ∙ ap (λ n. has (n, x.cookie)) (sym (eqb-true (of x) n here)) ∙ row_pair of rows has x are there))
        | inr other ↦ other
      ]

-- ---- a listing
pub listing_none : (rows : List Row) (has : ℕ × ℕ → Bool) (d k : ℕ) → ArePairs (λ (r : Row). r.directory) rows has → ((c : ℕ) → k + 1 ≤ c → has (d, c) ≡ false) → listing rows d k ≡ []
listing_none rows has d k are none = ap (map listed) (behind_none (λ (r : Row). r.directory) rows has d k are none)

pub listing_end : (rows : List Row) (at : ℕ → List ℕ → Option ℕ) (d k : ℕ) → AreNamed rows at → k + 1 ≡ 2 ^ 64 → listing rows d k ≡ []
listing_end rows at d k are top = ap (map listed) (behind_end (λ (r : Row). r.directory) rows at d k are top)

pub listing_next : (rows : List Row) (at : ℕ → List ℕ → Option ℕ) (has : ℕ × ℕ → Bool) (d k : ℕ) (x : Row) → AreNamed rows at → ArePairs (λ (r : Row). r.directory) rows has
    → In x rows → x.directory ≡ d → k + 1 ≤ x.cookie → ((c : ℕ) → k + 1 ≤ c → has (d, c) ≡ true → x.cookie ≤ c) → listing rows d k ≡ listed x ∷ listing rows d x.cookie
listing_next rows at has d k x named are there stands up least = ap (map listed) (behind_next (λ (r : Row). r.directory) rows at has d k x named are there stands up least)

-- ---- what is found under a name
pub some_found : (o : Option Row) (f : Found) → Some f ≡ option_map found_of o → (x : Row) × (o ≡ Some x) × (x.object ≡ f.object) × (x.cookie ≡ f.cookie)
some_found (Some x) f e = let both : f ≡ found_of x = cc in (x, refl, ap (λ (f : Found). f.object) (sym both), ap (λ (f : Found). f.cookie) (sym both))
some_found None f e = absurd cc

pub none_found : (o : Option Row) → None ≡ option_map found_of o → o ≡ None
none_found (Some x) e = absurd cc
none_found None e = refl

-- what a look-up says of it
pub found_object : (o : Option Row) → option_map (λ (f : Found). f.object) (option_map found_of o) ≡ option_map (λ (r : Row). r.object) o
found_object None = refl
found_object (Some x) = refl

pub found_there : (o : Option Row) → is_some (option_map found_of o) ≡ is_some o
found_there None = refl
found_there (Some x) = refl

-- what is found has a name
pub found_named : (rows : List Row) (d : ℕ) (name : List ℕ) (f : Found) → Some f ≡ found_at rows d name → has_row rows f.object ≡ true
found_named rows d name f found =
    let x = some_found (entry rows d name) f found in
    any_in (λ (r : Row). r.object == f.object) rows x.0 (find_in (is_entry d name) rows x.0 x.1).0 (eq-eqb x.0.object f.object x.2)

-- the entry of one name stays where that of another goes, and a row of that other comes
pub entry_stays : (rows : List Row) (d : ℕ) (name : List ℕ) (to x : Row) → is_entry d name to ≡ false
    → entry rows d name ≡ Some x → entry (without_entry to.directory to.name rows ++ to ∷ []) d name ≡ Some x
entry_stays rows d name to x other found =
    let parts = entry_parts d name x (find_in (is_entry d name) rows x found).1 in
    let apart : is_entry to.directory to.name x ≡ false = elim (cases_Bool (is_entry to.directory to.name x)) [
      | inl is ↦ (let same = entry_parts to.directory to.name x is in
          absurd (false≢true (sym other ∙ ap (λ e. is_entry e name to) (sym parts.0 ∙ same.0) ∙ ap (λ n. is_entry to.directory n to) (sym parts.1 ∙ same.1) ∙ entry_self to)))
      | inr off ↦ off
    ] in
    find_push_some (is_entry d name) (without_entry to.directory to.name rows) to x (find_kept (is_entry d name) (λ r. not (is_entry to.directory to.name r)) rows x found (ap not apart))

pub found_stays : (rows : List Row) (d : ℕ) (name : List ℕ) (to : Row) (f : Found) → is_entry d name to ≡ false
    → Some f ≡ found_at rows d name → Some f ≡ found_at (without_entry to.directory to.name rows ++ to ∷ []) d name
found_stays rows d name to f other found =
    let x = some_found (entry rows d name) f found in
    found ∙ ap (option_map found_of) (x.1 ∙ sym (entry_stays rows d name to x.0 other x.1))
