-- Where a name leads behind a change of a tree, and where a RENAME leaves its names.
use Rattle.std.proofs.Common.{◌≡◌, ◌≢◌, ℕ, ◌+◌, ◌≤◌, Bool, true, false, not, List, [], ◌∷◌, ◌++◌, Option, Some, None, refl, sym, ◌∙◌, ap, arith, inl, inr}
use Rattle.std.proofs.lemmas.Bool.{cases_Bool, not-false, eqb-true, true≢false}
use Rattle.std.specs.Prelude.{option_map, unwrap_or, is_some, Ok}
use Rattle.nfs_xdr.specs.{Checks.first_fault, declared.time.Time.Time}
use Rattle.nfs_xdr.proofs.{Checks.all_passed, Lists.{find_in, find_none_kept, find_push_none, find_push_other, find_out}}
use Rattle.nfs_compound.specs.declared.name_args.Rename.{Rename}
use Rattle.nfs_tree.specs.declared.row.Row.{Row}
use Rattle.nfs_tree.specs.Files.{Files, root, is_entry, entry, object_named, number_named, without_entry}
use Rattle.nfs_tree.specs.Names.{moves, moved_object, replaced_object, rename_checks}
use Rattle.nfs_tree.specs.TreeInvariants.{IsTree}
use Rattle.nfs_tree.proofs.{Objects.stored_within, RowsKept.{entry_parts, entry_self}}
use Rattle.nfs_names.specs.{declared.context.Context.Context, Checks.both, State.State, Rename.{move_of, renamed}}
use Rattle.nfs_promises.proofs.Names.NameRows.{replaced_rows}

abbrev pub IsGone : ℕ → List ℕ → Files → Type 0
IsGone d name t = entry t.rows d name ≡ None

pub pushed_found : (rows : List Row) (new : Row) → entry rows new.directory new.name ≡ None → entry (rows ++ new ∷ []) new.directory new.name ≡ Some new
pushed_found rows new none = find_push_none (is_entry new.directory new.name) rows new none (entry_self new)

pub removed_gone : (rows : List Row) (d : ℕ) (name : List ℕ) → entry (without_entry d name rows) d name ≡ None
removed_gone rows d name = find_out (is_entry d name) (λ (r : Row). not (is_entry d name r)) rows (λ r here. ap not here)

-- a row leads to an object, which has a number from 1 on
object_some : (t : Files) (d : ℕ) (name : List ℕ) (n : ℕ) → IsTree t → object_named t d name ≡ Some n → 1 ≤ n
object_some t d name n is e = go (entry t.rows d name) refl e
  where
    go : (o : Option Row) → entry t.rows d name ≡ o → option_map (λ (r : Row). r.object) o ≡ Some n → 1 ≤ n
    go None at e = absurd cc
    go (Some r) at e =
        let same : r.object ≡ n = cc in
        let there = is.rows.names r (find_in (is_entry d name) t.rows r at).0 in
        let within = stored_within root (t.last_object + 1) t.objects r.object is.objects there in
        let low = within.0 in omega arith

named_same : (t : Files) (d : ℕ) (name : List ℕ) (n : ℕ) → 1 ≤ n → number_named t d name ≡ n → object_named t d name ≡ Some n
named_same t d name n some e = go (object_named t d name) e
  where
    go : (o : Option ℕ) → unwrap_or o 0 ≡ n → o ≡ Some n
    go None e = absurd (omega arith)
    go (Some k) e = ap (λ k. Some k) e

pub moved_leads : (n : ℕ) (s : State) (x : Context) (now : Time) (a : Rename) (p : _) (b : Bool) → both s x ≡ Ok p → IsTree s.tree
    → object_named s.tree p.saved.number a.oldname ≡ Some n → moves s.tree (move_of a p) ≡ b
    → object_named (renamed s x now a p b).state.tree p.current.number a.newname ≡ Some n
moved_leads n s x now a p true here tree from is =
    let left = without_entry p.current.number a.newname s.tree.rows in
    let rows = without_entry p.saved.number a.oldname left in
    let new : Row = record { directory = p.current.number; name = a.newname; object = moved_object s.tree (move_of a p); cookie = s.tree.last_cookie + 1 } in
    let none = find_none_kept (is_entry p.current.number a.newname) (λ (r : Row). not (is_entry p.saved.number a.oldname r)) left (removed_gone s.tree.rows p.current.number a.newname) in
    ap (λ rows. option_map (λ (r : Row). r.object) (entry rows p.current.number a.newname)) (replaced_rows _ (object_named s.tree p.current.number a.newname))
    ∙ (ap (option_map (λ (r : Row). r.object)) (pushed_found rows new none) ∙ ap (λ o. Some (unwrap_or o 0)) from)
moved_leads n s x now a p false here tree from is =
    let some = object_some s.tree p.saved.number a.oldname n tree from in
    let both : moved_object s.tree (move_of a p) ≡ replaced_object s.tree (move_of a p) = eqb-true _ _ (not-false _ is) in
    named_same s.tree p.current.number a.newname n some (sym both ∙ ap (λ o. unwrap_or o 0) from)

some_row : (o : Option Row) → not (is_some o) ≡ false → (r : Row) × (o ≡ Some r)
some_row None e = absurd (true≢false e)
some_row (Some r) e = (r, refl)

pub moved_gone : (s : State) (x : Context) (now : Time) (a : Rename) (p : _) (b : Bool) → both s x ≡ Ok p → IsTree s.tree → first_fault (rename_checks s.tree (move_of a p)) ≡ None
    → object_named s.tree p.saved.number a.oldname ≢ object_named s.tree p.current.number a.newname → moves s.tree (move_of a p) ≡ b
    → IsGone p.saved.number a.oldname (renamed s x now a p b).state.tree
moved_gone s x now a p true here tree row differ is =
    let rows = without_entry p.current.number a.newname s.tree.rows in
    let new : Row = record { directory = p.current.number; name = a.newname; object = moved_object s.tree (move_of a p); cookie = s.tree.last_cookie + 1 } in
    ap (λ rows. entry rows p.saved.number a.oldname) (replaced_rows _ (object_named s.tree p.current.number a.newname))
    ∙ (find_push_other (is_entry p.saved.number a.oldname) (without_entry p.saved.number a.oldname rows) new (elim (cases_Bool (is_entry p.saved.number a.oldname new)) [
      | inl same ↦ (let parts = entry_parts p.saved.number a.oldname new same in
          absurd (differ (sym (ap (λ d. object_named s.tree d a.newname) parts.0 ∙ ap (object_named s.tree p.saved.number) parts.1))))
      | inr other ↦ other
    ]) ∙ removed_gone rows p.saved.number a.oldname)
moved_gone s x now a p false here tree row differ is =
    let passed = all_passed (rename_checks s.tree (move_of a p)) row in
    let from = some_row (entry s.tree.rows p.saved.number a.oldname) passed.1.1.1.0 in
    let leads : object_named s.tree p.saved.number a.oldname ≡ Some from.0.object = ap (option_map (λ (r : Row). r.object)) from.1 in
    let both : moved_object s.tree (move_of a p) ≡ replaced_object s.tree (move_of a p) = eqb-true _ _ (not-false _ is) in
    let from_is : moved_object s.tree (move_of a p) ≡ from.0.object = ap (λ o. unwrap_or o 0) leads in
    absurd (differ (leads
    ∙ sym (named_same s.tree p.current.number a.newname from.0.object (object_some s.tree p.saved.number a.oldname from.0.object tree leads) (sym both ∙ from_is))))
