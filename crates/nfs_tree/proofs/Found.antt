-- What stands behind CREATE and REMOVE.
use Rattle.std.proofs.Common.{◌≡◌, ◌≢◌, ℕ, suc, ◌+◌, Bool, true, false, not, List, [], ◌∷◌, length, Option, Some, None, refl, sym, ◌∙◌, ap, subst, arith, inl, inr}
use Rattle.std.proofs.lemmas.Bool.{cases_Bool, eqb-true, false≢true}
use Rattle.std.specs.{Prelude.{◌==◌, filter, option_map, unwrap_or, Ok}, List.list_any}
use Rattle.nfs_xdr.specs.{Tables.In, declared.time.Time.Time}
use Rattle.nfs_xdr.proofs.Lists.{in_filter, in_push, in_any, find_in, find_out, find_push_none, none_left}
use Rattle.nfs_tree.specs.{declared.row.Row.Row, declared.sets.Sets.Sets, declared.done.Created.Created, declared.done.Removed.Removed}
use Rattle.nfs_tree.specs.declared.fault.TreeFault.{TreeFault}
use Rattle.nfs_tree.specs.Files.{Files, root, is_entry, entry, object_named, number_named, has_entries, without_entry, raised}
use Rattle.nfs_tree.specs.{Calls.{does_unless, create, create_fault, remove, remove_fault}, Create.{New, with_new}, Names.without_name, TreeInvariants.IsTree}
use Rattle.nfs_tree.specs.Laws.{CreatedIsFound, RemovedIsAbsent, RemovedIsEmpty, IsUnused, NewIsUnused, UnlinkedIsUnnamed}
use Rattle.nfs_tree.proofs.{RowsKept.entry_self, Objects.stored_within, Trees.{remove_granted, row_of}, Put.{create_granted, directory_there}}

-- nothing refused what answers, and the answer is the one that it gives
went : {A : Type 0} (t : Files) (o : Option TreeFault) (answer told : A) (after : Files)
    → (does_unless t o answer after).answer ≡ Ok told → (o ≡ None) × (answer ≡ told)
went t None answer told after e = (refl, cc)
went t (Some fault) answer told after e = absurd cc

pub created_is_found : CreatedIsFound
created_is_found t d name new sets now made e =
    let fault = create_fault t d name new in
    let answer : Created = record { number = t.last_object + 1; directory = raised t d } in
    let after = with_new t d name new sets now in
    let done = went t fault answer made after e in
    let to : Row = record { directory = d; name = name; object = t.last_object + 1; cookie = t.last_cookie + 1 } in
    let found : entry after.rows d name ≡ Some to =
    find_push_none (is_entry d name) t.rows to (create_granted t d name new done.0).vacant (entry_self to) in
    ap (λ o. object_named (does_unless t o answer after).after d name) done.0
    ∙ (ap (λ o. option_map (λ (r : Row). r.object) o) found ∙ ap (λ (c : Created). Some c.number) done.1)

pub removed_is_absent : RemovedIsAbsent
removed_is_absent t d name now gone e =
    let answer : Removed = record { number = number_named t d name; directory = raised t d } in
    let after = without_name t d name now in
    let done = went t (remove_fault t d name) answer gone after e in
    let out : entry after.rows d name ≡ None = find_out (is_entry d name) (λ r. not (is_entry d name r)) t.rows (λ r is. rw is refl) in
    ap (λ o. object_named (does_unless t o answer after).after d name) done.0 ∙ ap (λ o. option_map (λ (r : Row). r.object) o) out

-- what is removed is not the root
not_root : (t : Files) (d : ℕ) (name : List ℕ) → IsTree t → remove_fault t d name ≡ None → number_named t d name ≢ root
not_root t d name is none e =
    let r = row_of t.rows d name (remove_granted t d name none).0 in
    let there = find_in (is_entry d name) t.rows r.0 r.1 in
    let object : r.0.object ≡ number_named t d name = sym (ap (λ o. unwrap_or (option_map (λ (r : Row). r.object) o) 0) r.1) in
    is.rows.free r.0 there.0 (object ∙ e)

still_empty : (t : Files) (d : ℕ) (name : List ℕ) → remove_fault t d name ≡ None → has_entries (without_entry d name t.rows) (number_named t d name) ≡ false
still_empty t d name none =
    none_left (λ r. r.directory == number_named t d name) (λ r. not (is_entry d name r)) t.rows (remove_granted t d name none).1

pub removed_is_empty : RemovedIsEmpty
removed_is_empty t d name now gone is e =
    let answer : Removed = record { number = number_named t d name; directory = raised t d } in
    let after = without_name t d name now in
    let done = went t (remove_fault t d name) answer gone after e in
    let same : number_named t d name ≡ gone.number = ap (λ (g : Removed). g.number) done.1 in (
      ap (λ o. has_entries (does_unless t o answer after).after.rows gone.number) done.0
          ∙ (ap (has_entries after.rows) (sym same) ∙ still_empty t d name done.0),
      λ root. not_root t d name is done.0 (same ∙ root),
    )

none_of : (p : Row → Bool) (rows : List Row) → ((r : Row) → In r rows → p r ≡ true → ⊥) → list_any p rows ≡ false
none_of p rows out =
    elim (cases_Bool (list_any p rows)) [ inl some ↦ absurd (let r = in_any p rows some in out r.0 r.1 r.2) | inr none ↦ none ]

-- behind CREATE
new_unused : (t : Files) (d : ℕ) (name : List ℕ) (new : New) (sets : Sets) (now later : Time) (gone : Removed) → IsTree t
    → create_fault t d name new ≡ None → (remove (with_new t d name new sets now) d name later).answer ≡ Ok gone
    → (gone.number ≡ t.last_object + 1) × IsUnused (remove (with_new t d name new sets now) d name later).after (t.last_object + 1)
new_unused t d name new sets now later gone is granted e =
    let u = with_new t d name new sets now in
    let n = t.last_object + 1 in
    let to : Row = record { directory = d; name = name; object = n; cookie = t.last_cookie + 1 } in
    let found : entry u.rows d name ≡ Some to =
    find_push_none (is_entry d name) t.rows to (create_granted t d name new granted).vacant (entry_self to) in
    let number : number_named u d name ≡ n = ap (λ o. unwrap_or (option_map (λ (r : Row). r.object) o) 0) found in
    let answer : Removed = record { number = number_named u d name; directory = raised u d } in
    let after = without_name u d name later in
    let done = went u (remove_fault u d name) answer gone after e in
    let low = stored_within root n t.objects root is.objects (directory_there t root is.root) in
    let unused : IsUnused after n = record {
      unnamed = none_of (λ r. r.object == n) after.rows (λ r there object.
          (let was = in_filter (λ (r : Row). not (is_entry d name r)) u.rows r there in
          elim (in_push t.rows to r was.0) [
            | inl new ↦ false≢true (ap not (sym (entry_self to)) ∙ ap (λ r. not (is_entry d name r)) (sym new) ∙ was.1)
            | inr old ↦
                (let within = stored_within root n t.objects r.object is.objects (is.rows.names r old) in
                let same : r.object ≡ n = eqb-true _ _ object in omega arith)
          ]));
      empty = subst (λ k. has_entries after.rows k ≡ false) number (still_empty u d name done.0);
      other = λ same. omega arith;
    } in (
      ap (λ (g : Removed). g.number) (sym done.1) ∙ number,
      subst (λ o. IsUnused (does_unless u o answer after).after n) (sym done.0) unused,
    )

pub new_is_unused : NewIsUnused
new_is_unused t d name new sets now later made gone is e f =
    let fault = create_fault t d name new in
    let answer : Created = record { number = t.last_object + 1; directory = raised t d } in
    let after = with_new t d name new sets now in
    let done = went t fault answer made after e in
    let same : t.last_object + 1 ≡ made.number = ap (λ (c : Created). c.number) done.1 in
    let did : (create t d name new sets now).after ≡ after = ap (λ o. (does_unless t o answer after).after) done.0 in
    let both = new_unused t d name new sets now later gone is done.0 (subst (λ u. (remove u d name later).answer ≡ Ok gone) did f) in (
      both.0 ∙ same,
      subst (λ n. IsUnused (remove (create t d name new sets now).after d name later).after n) same
          (subst (λ u. IsUnused (remove u d name later).after (t.last_object + 1)) (sym did) both.1),
    )

none_passes : (p : Row → Bool) (rows : List Row) → length (filter p rows) ≡ 0 → list_any p rows ≡ false
none_passes p [] e = refl
none_passes p (r ∷ rows) e =
    elim (cases_Bool (p r)) [
      | inl here ↦ absurd (let bad : suc (length (filter p rows)) ≡ 0 = rw here at e in omega arith)
      | inr gone ↦ rw gone (none_passes p rows (rw gone at e))
    ]

none_left_of : (p : Row → Bool) (rows : List Row) → list_any p rows ≡ false → length (filter p rows) ≡ 0
none_left_of p [] e = refl
none_left_of p (r ∷ rows) e =
    elim (cases_Bool (p r)) [
      | inl here ↦ absurd (let bad : true ≡ false = rw here at e in cc)
      | inr gone ↦ rw gone (none_left_of p rows (rw gone at e))
    ]

pub unlinked_is_unnamed : UnlinkedIsUnnamed
unlinked_is_unnamed t n = (none_passes (λ r. r.object == n) t.rows, none_left_of (λ r. r.object == n) t.rows)
