-- A directory lies neither at nor below what stands in it.
use Rattle.std.proofs.Common.{◌≡◌, ℕ, zero, suc, ◌≤◌, Bool, true, false, List, length, Option, Some, None, refl, sym, ◌∙◌, ap, subst, arith, inl, inr}
use Rattle.std.proofs.lemmas.Bool.{cases_Bool, eqb-true, false≢true}
use Rattle.std.specs.{Prelude.{◌==◌, ◌&&◌, find, option_map, unwrap_or}, Option.option_map_or}
use Rattle.nfs_xdr.specs.Tables.{In}
use Rattle.nfs_xdr.proofs.Lists.{find_in}
use Rattle.nfs_tree.specs.{declared.row.Row.Row, Files.{Files, is_entry, entry, is_directory_at, is_there, has_name, parent_in}}
use Rattle.nfs_tree.specs.{Names.{Move, moved_object, is_at_or_below, is_below_itself}, TreeInvariants.{Grounded, AreRows, IsTree}}
use Rattle.nfs_tree.proofs.{RowsKept.entry_parts, Trees.row_of, Put.vacant_of, Move.{unique_of, depth_one}, Moved.above_zero}

-- what the climb meets is no deeper than where it begins
deeper : (rows : List Row) (top fuel d k : ℕ) → is_at_or_below rows top fuel d ≡ true → Grounded rows k top → (n : ℕ) × (k ≤ n) × Grounded rows n d
deeper rows top zero d k e g = (k, omega arith, subst (Grounded rows k) (sym (eqb-true d top e)) g)
deeper rows top (suc fuel) d k e g =
    elim (cases_Bool (d == top)) [
      | inl here ↦ (k, omega arith, subst (Grounded rows k) (sym (eqb-true d top here)) g)
      | inr other ↦ by_parent (find (λ r. r.object == d) rows) refl (rw other at e) (λ p up. deeper rows top fuel p k up g)
    ]
  where
    by_parent : (o : Option Row) → find (λ r. r.object == d) rows ≡ o
        → option_map_or (λ p. is_at_or_below rows top fuel p) (parent_in rows d) false ≡ true
        → ((p : ℕ) → is_at_or_below rows top fuel p ≡ true → (n : ℕ) × (k ≤ n) × Grounded rows n p) → (n : ℕ) × (k ≤ n) × Grounded rows n d
    by_parent None h up ih = absurd (let bad : false ≡ true = rw h at up in false≢true bad)
    by_parent (Some r) h up ih =
        let at = find_in (λ (r : Row). r.object == d) rows r h in
        let above = ih r.directory (rw h at up) in
        let less = above.1 in
        (suc above.0, omega arith, (r, at.0, eqb-true _ _ at.1, above.2))

-- it would be deeper than it is
above_row : (rows : List Row) (dirs there : ℕ → Bool) → AreRows rows dirs there → (r : Row) → In r rows
    → (fuel : ℕ) → is_at_or_below rows r.object fuel r.directory ≡ false
above_row rows dirs there are r is fuel =
    elim (cases_Bool (is_at_or_below rows r.object fuel r.directory)) [
      | inl met ↦ (
          let up = are.grounded r is in
          let down = deeper rows r.object fuel r.directory (suc up.0) met (r, is, refl, up.1) in
          let less = down.1 in
          let same = depth_one rows dirs (unique_of rows dirs there are) down.0 up.0 r.directory (are.stands r is) down.2 up.1 in
          absurd (omega arith))
      | inr apart ↦ apart
    ]

and_false : (a b : Bool) → b ≡ false → a && b ≡ false
and_false true b e = e
and_false false b e = refl

-- what moves within one directory does not come below itself
pub stays_above : (t : Files) (m : Move) → IsTree t → m.source ≡ m.target → is_below_itself t m ≡ false
stays_above t m is same =
    elim (cases_Bool (has_name t m.source m.old)) [
      | inl there ↦ (
          let found = row_of t.rows m.source m.old there in
          let at = find_in (is_entry m.source m.old) t.rows found.0 found.1 in
          let parts = entry_parts m.source m.old found.0 at.1 in
          let object : found.0.object ≡ moved_object t m = sym (ap (λ o. unwrap_or (option_map (λ (r : Row). r.object) o) 0) found.1) in
          let met : is_at_or_below t.rows found.0.object (length t.rows) found.0.directory ≡ false =
          above_row t.rows (λ n. is_directory_at t n) (λ n. is_there t n) is.rows found.0 at.0 (length t.rows) in
          and_false (is_directory_at t (moved_object t m)) (is_at_or_below t.rows (moved_object t m) (length t.rows) m.target)
          (subst (λ n. is_at_or_below t.rows n (length t.rows) m.target ≡ false) object
          (subst (λ d. is_at_or_below t.rows found.0.object (length t.rows) d ≡ false) (parts.0 ∙ same) met)))
      | inr none ↦ (
          let zero : moved_object t m ≡ 0 = ap (λ o. unwrap_or (option_map (λ (r : Row). r.object) o) 0) (vacant_of (entry t.rows m.source m.old) none) in
          elim (cases_Bool (is_directory_at t (moved_object t m))) [
            | inl dir ↦ absurd (above_zero t (moved_object t m) is dir zero)
            | inr file ↦ rw file refl
          ])
    ]
