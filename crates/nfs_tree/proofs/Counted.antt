-- How many rows name an object, and what is counted of them behind one that comes and one that goes.
use Rattle.std.proofs.Common.{◌≡◌, ℕ, ◌+◌, ◌-◌, ◌<◌, ◌≤◌, ◌^◌, suc, Bool, true, false, List, [], ◌∷◌, ◌++◌, length, Option, refl, sym, ◌∙◌, ap, arith, inl, inr}
use Rattle.std.proofs.lemmas.Bool.{cases_Bool, eq-eqb, eqb-true, ne_eqb, lt-ltb, ltb-true, ltb-false}
use Rattle.std.specs.Prelude.{◌==◌, nat_lt, if◌then◌else◌}
use Rattle.nfs_xdr.specs.Tables.{IsRising, In, without_record}
use Rattle.nfs_xdr.proofs.{Lists.{count_push, length_filter}, Tables.{at_below, in_bounds, without_none}}
use Rattle.nfs_tree.specs.{declared.row.Row.Row, Files.{links_in, has_row}, Counts.CountsAnew, Maps.{AreCounted, AreNamed}}
use Rattle.nfs_tree.proofs.MapLemmas.{cookie}

abbrev bit : Bool → ℕ
bit b = if b then 1 else 0

links_first : (r : Row) (rows : List Row) (n : ℕ) → links_in (r ∷ rows) n ≡ bit (r.object == n) + links_in rows n
links_first r rows n = elim (cases_Bool (r.object == n)) [ inl here ↦ rw here (omega arith) | inr other ↦ rw other (omega arith) ]

-- the row of a cookie goes
links_gone : (low high : ℕ) (rows : List Row) (x : Row) (n : ℕ) → IsRising cookie low rows high → In x rows
    → links_in (without_record cookie rows x.cookie) n + bit (x.object == n) ≡ links_in rows n
links_gone low high [] x n rise there = absurd there
links_gone low high (y ∷ ys) x n rise (inl is) =
    let at : x.cookie ≡ y.cookie = ap cookie is in
    let here : (y.cookie == x.cookie) ≡ true = eq-eqb y.cookie x.cookie (sym at) in
    let rest : without_record cookie ys x.cookie ≡ ys = without_none cookie x.cookie ys (at_below cookie (suc y.cookie) high x.cookie ys rise.1 (omega arith)) in
    let first = links_first y ys n in
    let same : bit (x.object == n) ≡ bit (y.object == n) = ap (λ (z : Row). bit (z.object == n)) is in
    rw (here, rest) (omega arith)
links_gone low high (y ∷ ys) x n rise (inr more) =
    let above = (in_bounds cookie (suc y.cookie) high ys x rise.1 more).0 in
    let other : (y.cookie == x.cookie) ≡ false = ne_eqb y.cookie x.cookie (λ same. absurd (omega arith)) in
    let below = links_gone (suc y.cookie) high ys x n rise.1 more in
    let first = links_first y ys n in
    let left = links_first y (without_record cookie ys x.cookie) n in
    rw other (omega arith)

pub row_links : (rows : List Row) (n : ℕ) → nat_lt 0 (links_in rows n) ≡ has_row rows n
row_links [] n = refl
row_links (r ∷ rows) n = elim (cases_Bool (r.object == n)) [
  | inl here ↦ rw here (lt-ltb 0 (suc (links_in rows n)) (omega arith))
  | inr other ↦ rw other (row_links rows n)
]

pub some_links : (rows : List Row) (n : ℕ) → has_row rows n ≡ true → 0 < links_in rows n
some_links rows n named = ltb-true _ _ (row_links rows n ∙ named)

pub no_links : (rows : List Row) (n : ℕ) → has_row rows n ≡ false → links_in rows n ≡ 0
no_links rows n unnamed = let none = ltb-false _ _ (row_links rows n ∙ unnamed) in omega arith

-- fewer than cookies there are
rows_few : (low high : ℕ) (rows : List Row) → low ≤ 2 ^ 64 → IsRising cookie low rows high → ((r : Row) → In r rows → r.cookie < 2 ^ 64) → length rows + low ≤ 2 ^ 64
rows_few low high [] up rise few = omega arith
rows_few low high (x ∷ xs) up rise few =
    let here = few x (inl refl) in
    let rest = rows_few (suc x.cookie) high xs (omega arith) rise.1 (λ y there. few y (inr there)) in
    let from = rise.0 in
    omega arith

pub links_few : (rows : List Row) (at : ℕ → List ℕ → Option ℕ) (n : ℕ) → AreNamed rows at → links_in rows n + 3 ≤ 2 ^ 64
links_few rows at n named =
    let few = rows_few 3 named.high rows (omega arith) named.rising (λ r is. (named.few r is).1) in
    let le = length_filter (λ (r : Row). r.object == n) rows in
    omega arith

-- beside the first of all that there are now
one_up : (named : Bool) (k before now : ℕ) → nat_lt 0 before ≡ named → k ≡ before - 1 → now ≡ before + 1 → (if named then k + 1 else k) ≡ now - 1
one_up true k before now has was is = let some : 0 < before = ltb-true 0 before has in omega arith
one_up false k before now has was is = let none : before ≤ 0 = ltb-false 0 before has in omega arith

-- a row came
pub counted_put : (rows : List Row) (more new : ℕ → ℕ) (r : Row) (named : Bool) → AreCounted rows more → named ≡ has_row rows r.object
    → CountsAnew more new r.object (if named then more r.object + 1 else more r.object) → AreCounted (rows ++ r ∷ []) new
counted_put rows more new r named are has anew n = anew n ∙ (elim (cases_Bool (r.object == n)) [
  | inl here ↦ (
      let same : r.object ≡ n = eqb-true r.object n here in
      let push : links_in (rows ++ r ∷ []) n ≡ links_in rows n + 1 = rw here at (count_push (λ (x : Row). x.object == n) rows r) in
      rw here (one_up named (more r.object) (links_in rows n) (links_in (rows ++ r ∷ []) n)
      (row_links rows n ∙ ap (has_row rows) (sym same) ∙ sym has) (ap more same ∙ are n) push))
  | inr other ↦ (
      let push : links_in (rows ++ r ∷ []) n ≡ links_in rows n + 0 = rw other at (count_push (λ (x : Row). x.object == n) rows r) in
      let was = are n in
      rw other (omega arith))
])

-- the row of a cookie went
pub counted_gone : (high : ℕ) (rows : List Row) (more new : ℕ → ℕ) (x : Row) → IsRising cookie 3 rows high → In x rows → AreCounted rows more
    → CountsAnew more new x.object (more x.object - 1) → AreCounted (without_record cookie rows x.cookie) new
counted_gone high rows more new x rise there are anew n = anew n ∙ (elim (cases_Bool (x.object == n)) [
  | inl here ↦ (
      let same : x.object ≡ n = eqb-true x.object n here in
      let gone : links_in (without_record cookie rows x.cookie) n + 1 ≡ links_in rows n = rw here at (links_gone 3 high rows x n rise there) in
      let was : more x.object ≡ links_in rows n - 1 = ap more same ∙ are n in
      rw here (omega arith))
  | inr other ↦ (
      let gone : links_in (without_record cookie rows x.cookie) n + 0 ≡ links_in rows n = rw other at (links_gone 3 high rows x n rise there) in
      let was = are n in
      rw other (omega arith))
])

back_one : (named : Bool) (k before : ℕ) → nat_lt 0 before ≡ named → k ≡ before - 1 → (if named then k + 1 else k) - 1 ≡ k
back_one true k before has was = omega arith
back_one false k before has was = let none : before ≤ 0 = ltb-false 0 before has in omega arith

-- a row that came and went
pub counted_back : (rows : List Row) (more mid new : ℕ → ℕ) (n : ℕ) (named : Bool) → AreCounted rows more → named ≡ has_row rows n
    → CountsAnew more mid n (if named then more n + 1 else more n) → CountsAnew mid new n (mid n - 1) → (m : ℕ) → new m ≡ more m
counted_back rows more mid new n named are has up down m = down m ∙ (elim (cases_Bool (n == m)) [
  | inl here ↦ (
      let same : n ≡ m = eqb-true n m here in
      let at : mid n ≡ (if named then more n + 1 else more n) = rw (eq-eqb n n refl) at (up n) in
      let back = back_one named (more n) (links_in rows n) (row_links rows n ∙ sym has) (are n) in
      rw here (ap (λ k. k - 1) at ∙ back ∙ ap more same))
  | inr other ↦ (let kept = up m in rw other (rw other at kept))
])
