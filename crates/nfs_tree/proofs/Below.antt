-- The climb meets what names lead from.
use Rattle.std.proofs.Common.{◌≡◌, ℕ, zero, suc, ◌+◌, ◌≤◌, Bool, true, false, List, [], ◌∷◌, ◌++◌, length, Option, Some, None, refl, sym, ◌∙◌, ap, arith, inl, inr}
use Rattle.std.proofs.lemmas.{Bool.{cases_Bool, eqb-true, eq-eqb, false≢true}, List.length-append}
use Rattle.std.specs.{Prelude.{◌==◌, find}, Option.option_map_or}
use Rattle.nfs_xdr.specs.Tables.{In}
use Rattle.nfs_xdr.proofs.Lists.{find_in}
use Rattle.nfs_tree.specs.{declared.row.Row.Row, Files.{Files, root, entry, is_directory_at, is_there, parent_in}, Names.{is_at_or_below, is_near_root}, Walks.walk, TreeInvariants.{Grounded, IsTree}}
use Rattle.nfs_tree.specs.Laws.{BelowIsReached}
use Rattle.nfs_tree.proofs.{Walked.{Ends, ends, then_walk}, Move.{AreUnique, unique_of, depth_bound, parent_is}}

-- the climb that begins at what it looks for
at_top : (rows : List Row) (top fuel d : ℕ) → top ≡ d → is_at_or_below rows top fuel d ≡ true
at_top rows top zero d same = eq-eqb d top (sym same)
at_top rows top (suc fuel) d same = rw (eq-eqb d top (sym same)) refl

-- names from what the climb meets
led : (rows : List Row) → ((r : Row) → In r rows → entry rows r.directory r.name ≡ Some r) → (top fuel d : ℕ)
    → is_at_or_below rows top fuel d ≡ true → (names : List (List ℕ)) × (walk rows top names ≡ Some d)
led rows found top zero d e = ([], ap Some (sym (eqb-true d top e)))
led rows found top (suc fuel) d e =
    elim (cases_Bool (d == top)) [
      | inl here ↦ ([], ap Some (sym (eqb-true d top here)))
      | inr other ↦ by_parent (find (λ r. r.object == d) rows) refl (rw other at e) (λ p up. led rows found top fuel p up)
    ]
  where
    by_parent : (o : Option Row) → find (λ r. r.object == d) rows ≡ o
        → option_map_or (λ p. is_at_or_below rows top fuel p) (parent_in rows d) false ≡ true
        → ((p : ℕ) → is_at_or_below rows top fuel p ≡ true → (names : List (List ℕ)) × (walk rows top names ≡ Some p))
        → (names : List (List ℕ)) × (walk rows top names ≡ Some d)
    by_parent None h up ih = absurd (let bad : false ≡ true = rw h at up in false≢true bad)
    by_parent (Some r) h up ih =
        let at = find_in (λ (r : Row). r.object == d) rows r h in
        let names = ih r.directory (rw h at up) in
        (names.0 ++ r.name ∷ [], then_walk rows top names.0 r names.1 (found r at.0) ∙ ap Some (eqb-true _ _ at.1))

-- the climb meets what names lead from
met : (rows : List Row) (dirs : ℕ → Bool) → AreUnique rows dirs → (top fuel n d : ℕ) → n ≤ fuel → dirs d ≡ true → Grounded rows n d
    → (names : List (List ℕ)) → walk rows top names ≡ Some d → is_at_or_below rows top fuel d ≡ true
met rows dirs are top zero zero d le dir g names w = by_ends (ends rows top names d w)
  where
    by_ends : Ends rows top names d → is_at_or_below rows top zero d ≡ true
    by_ends (inl none) = at_top rows top zero d none.1
    by_ends (inr last) = absurd (are.free last.1 last.4 (last.5 ∙ g))
met rows dirs are top zero (suc n) d le dir g names w = absurd (omega arith)
met rows dirs are top (suc fuel) zero d le dir g names w = by_ends (ends rows top names d w)
  where
    by_ends : Ends rows top names d → is_at_or_below rows top (suc fuel) d ≡ true
    by_ends (inl none) = at_top rows top (suc fuel) d none.1
    by_ends (inr last) = absurd (are.free last.1 last.4 (last.5 ∙ g))
met rows dirs are top (suc fuel) (suc n) d le dir g names w =
    by_ends (ends rows top names d w)
    (λ names w. met rows dirs are top fuel n g.0.directory (omega arith) (are.stands g.0 g.1) g.3 names w)
  where
    by_ends : Ends rows top names d → ((names : List (List ℕ)) → walk rows top names ≡ Some g.0.directory → is_at_or_below rows top fuel g.0.directory ≡ true)
        → is_at_or_below rows top (suc fuel) d ≡ true
    by_ends (inl none) ih = at_top rows top (suc fuel) d none.1
    by_ends (inr last) ih =
        let dir_g : dirs g.0.object ≡ true = ap dirs g.2 ∙ dir in
        let same : last.1 ≡ g.0 = are.one last.1 g.0 last.4 g.1 (last.5 ∙ sym g.2) dir_g in
        let above : is_at_or_below rows top fuel g.0.directory ≡ true = ih last.0 (last.3 ∙ ap (λ (r : Row). Some r.directory) same) in
        let parent : parent_in rows d ≡ Some g.0.directory = ap (parent_in rows) (sym g.2) ∙ parent_is rows dirs are g.0 g.1 dir_g in
        elim (cases_Bool (d == top)) [ inl here ↦ rw here refl | inr other ↦ rw (other, parent) above ]

-- the climb meets what few names lead from
near : (rows : List Row) (dirs : ℕ → Bool) → AreUnique rows dirs → (top fuel d : ℕ) → dirs d ≡ true → (names : List (List ℕ)) → length names ≤ fuel
    → walk rows top names ≡ Some d → is_at_or_below rows top fuel d ≡ true
near rows dirs are top zero d dir names few w = by_ends (ends rows top names d w)
  where
    by_ends : Ends rows top names d → is_at_or_below rows top zero d ≡ true
    by_ends (inl none) = at_top rows top zero d none.1
    by_ends (inr last) = absurd (let long : length names ≡ length last.0 + 1 = ap length last.2 ∙ length-append last.0 _ in omega arith)
near rows dirs are top (suc fuel) d dir names few w =
    by_ends (ends rows top names d w) (λ p of first le led. near rows dirs are top fuel p of first le led)
  where
    by_ends : Ends rows top names d
        → ((p : ℕ) → dirs p ≡ true → (first : List (List ℕ)) → length first ≤ fuel → walk rows top first ≡ Some p → is_at_or_below rows top fuel p ≡ true)
        → is_at_or_below rows top (suc fuel) d ≡ true
    by_ends (inl none) ih = at_top rows top (suc fuel) d none.1
    by_ends (inr last) ih =
        let long : length names ≡ length last.0 + 1 = ap length last.2 ∙ length-append last.0 _ in
        let above = ih last.1.directory (are.stands last.1 last.4) last.0 (omega arith) last.3 in
        let parent : parent_in rows d ≡ Some last.1.directory = ap (parent_in rows) (sym last.5) ∙ parent_is rows dirs are last.1 last.4 (ap dirs last.5 ∙ dir) in
        elim (cases_Bool (d == top)) [ inl here ↦ rw here refl | inr other ↦ rw (other, parent) above ]

pub near_root : (t : Files) (d : ℕ) → IsTree t → is_directory_at t d ≡ true → (names : List (List ℕ)) → length names ≤ 2048
    → walk t.rows root names ≡ Some d → is_near_root t.rows d ≡ true
unfolding is_near_root
near_root t d is dir names few w =
    near t.rows (λ n. is_directory_at t n) (unique_of t.rows (λ n. is_directory_at t n) (λ n. is_there t n) is.rows) root 2048 d dir names few w

pub below_is_reached : BelowIsReached
below_is_reached t top d is dir = (
  λ e. led t.rows is.rows.found top (length t.rows) d e,
  λ led. by_ends led.0 led.1 (ends t.rows top led.0 d led.1),
)
  where
    by_ends : (names : List (List ℕ)) → walk t.rows top names ≡ Some d → Ends t.rows top names d → is_at_or_below t.rows top (length t.rows) d ≡ true
    by_ends names w (inl none) = at_top t.rows top (length t.rows) d none.1
    by_ends names w (inr last) =
        let are = unique_of t.rows (λ n. is_directory_at t n) (λ n. is_there t n) is.rows in
        let up = is.rows.grounded last.1 last.4 in
        let deep : Grounded t.rows (suc up.0) d = (last.1, last.4, last.5, up.1) in
        met t.rows (λ n. is_directory_at t n) are top (length t.rows) (suc up.0) d
        (depth_bound (suc up.0) t.rows (λ n. is_directory_at t n) are d dir deep) dir deep names w
