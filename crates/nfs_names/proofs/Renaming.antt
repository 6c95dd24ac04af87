-- RENAME: the tree's own checks are its last ones, and what it leaves.
use Rattle.std.proofs.Common.{◌≡◌, ℕ, List, ◌+◌, true, false, not, Option, Some, None, refl, sym, subst, ◌∙◌, ap, inl, inr}
use Rattle.std.proofs.lemmas.Bool.{cases_Bool, or_parts, ne_eqb, and_from, false≢true}
use Rattle.std.specs.Prelude.{Result, Ok, Err, IsOk, is_ok as is_right, option_map, ◌==◌, ◌&&◌, ◌||◌, if◌then◌else◌, is_some, unwrap_or}
use Rattle.nfs_xdr.proofs.{Checks.all_passed, Lists.none_left}
use Rattle.nfs_xdr.specs.declared.time.Time.{Time}
use Rattle.nfs_compound.specs.declared.op_num.OpNum.TheVariants as Num
use Rattle.nfs_compound.specs.declared.name_args.Rename as args
use Rattle.nfs_tree.specs.{declared.row.Row.Row, declared.done.Renamed.Renamed, declared.fault.TreeFault.TreeFault}
use Rattle.nfs_tree.specs.Files.{Files, has_name, object_named, is_entry, entry, has_entries, without_entry, raised, unraised}
use Rattle.nfs_tree.specs.Calls.{Did, DoesOrWants, rename_fault, rename_unless}
use Rattle.nfs_tree.specs.Names.{Move, move, moves, moved_object, replaced_object, is_unlike, is_in_the_way, rename_checks, with_moved}
use Rattle.nfs_tree.specs.Calls as tree
use Rattle.nfs_tree.proofs.Trees.{has_one, apart}
use Rattle.nfs_names.specs.{declared.context.Context.Context, declared.node.Pair.Pair, State.State, Faults.tree_fault_status}
use Rattle.nfs_names.specs.Outcome.{refuses, or_lack, is_lack}
use Rattle.nfs_names.specs.{Checks.both, Operation.moves_in, Rename.{move_of, renamed}, Fronts.renaming}
use Rattle.nfs_names.specs.Rename as of_rename
use Rattle.nfs_opens.specs.Steps.{in_order}
use Rattle.nfs_names.proofs.{Found.{came, ok_is}, Changing.{rename_asks, goes, stops}, Rows.none_pushed, Faulted.{refused_by_did, delayed, own_refused, fault_fails}}

-- what the tree did of two names, of the names that were asked for
pub as_named : (t left : Files) (now : Time) (p : Pair) (a : args.Rename) (old new : List ℕ) (r : Result Renamed TreeFault) → old ≡ a.oldname → new ≡ a.newname
    → DoesOrWants t (moves t (move p.saved.number old p.current.number new)) (tree.rename t (move p.saved.number old p.current.number new) now) r left
    → DoesOrWants t (moves t (move_of a p)) (tree.rename t (move_of a p) now) r left
as_named t left now p a old new r one other did =
    let does : List ℕ → List ℕ → Type 0 =
    λ o n. DoesOrWants t (moves t (move p.saved.number o p.current.number n)) (tree.rename t (move p.saved.number o p.current.number n) now) r left in
    subst (λ (n : List ℕ). does a.oldname n) other (subst (λ (o : List ℕ). does o new) one did)

-- the same answer and tree as the tree's definition has where no check fails
abbrev Goes : Files → Move → Time → Did Renamed
Goes t m now = if moves t m then tree.moved t m now else tree.unmoved t m

unless_ok : (t : Files) (fault : Option TreeFault) (did : Did Renamed) (r : Renamed) (new : Files) → Ok r ≡ (rename_unless t fault did).answer
    → new ≡ (rename_unless t fault did).after → (fault ≡ None) × (Ok r ≡ did.answer) × (new ≡ did.after)
unless_ok t None did r new e n = (refl, e, n)
unless_ok t (Some f) did r new e n = absurd cc

unless_err : (t : Files) (fault : Option TreeFault) (did : Did Renamed) (f : TreeFault) (new : Files) → IsOk did.answer
    → Err f ≡ (rename_unless t fault did).answer → new ≡ (rename_unless t fault did).after → (fault ≡ Some f) × (new ≡ t)
unless_err t None did f new ok e n = absurd (false≢true (ap is_right e ∙ ok))
unless_err t (Some g) did f new ok e n = (ap Some cc, n)

unless_none : (t : Files) (fault : Option TreeFault) (did : Did Renamed) → IsOk (rename_unless t fault did).answer → fault ≡ None
unless_none t None did ok = refl
unless_none t (Some f) did ok = absurd cc

goes_ok : (t : Files) (m : Move) (now : Time) → IsOk (Goes t m now).answer
goes_ok t m now = elim (cases_Bool (moves t m)) [ inl go ↦ rw go refl | inr stay ↦ rw stay refl ]

pub record Went (t : Files) (m : Move) (now : Time) (r : Renamed) (new : Files) : Type 0 where
  pub none : rename_fault t m ≡ None
  pub answer : Ok r ≡ (Goes t m now).answer
  pub after : new ≡ (Goes t m now).after

pub went : (t : Files) (m : Move) (now : Time) (r : Renamed) (new : Files) → DoesOrWants t (moves t m) (tree.rename t m now) (Ok r) new → Went t m now r new
went t m now r new d = let p = unless_ok t (rename_fault t m) (Goes t m now) r new d.0 d.1 in record { none = p.0; answer = p.1; after = p.2 }

-- what had the new name has no entries behind the move
way_free : (t : Files) (m : Move) → rename_fault t m ≡ None → moves t m ≡ true → is_in_the_way t m ≡ false
way_free t m none go =
    let checks = all_passed (rename_checks t m) none in
    let both : moves t m && is_in_the_way t m ≡ false = checks.1.1.1.1.1.1.0 in
    rw go at both

pub replaced_empty : (t : Files) (m : Move) (now : Time) (n : ℕ) → rename_fault t m ≡ None
    → moves t m ≡ true → object_named t m.target m.name ≡ Some n → has_entries (with_moved t m now).rows n ≡ false
replaced_empty t m now n none go found =
    let is : replaced_object t m ≡ n = ap (λ o. unwrap_or o 0) found in
    let some : has_name t m.target m.name ≡ true = by_entry (entry t.rows m.target m.name) refl in
    let way : has_name t m.target m.name && (is_unlike t m || has_entries t.rows (replaced_object t m)) ≡ false = way_free t m none go in
    let rest : is_unlike t m || has_entries t.rows (replaced_object t m) ≡ false = rw some at way in
    let empty : has_entries t.rows n ≡ false = ap (has_entries t.rows) (sym is)
    ∙ (or_parts (is_unlike t m) (has_entries t.rows (replaced_object t m)) rest).1 in
    let other = apart t m.target n (has_one t m.target m.name some) empty in
    let test = λ (r : Row). r.directory == n in
    none_pushed test (without_entry m.source m.old (without_entry m.target m.name t.rows))
    (record { directory = m.target; name = m.name; object = moved_object t m; cookie = t.last_cookie + 1 })
    (none_left test (λ r. not (is_entry m.source m.old r)) (without_entry m.target m.name t.rows)
    (none_left test (λ r. not (is_entry m.target m.name r)) t.rows empty))
    (ne_eqb m.target n (λ e. other (sym e)))
  where
    by_entry : (o : Option Row) → entry t.rows m.target m.name ≡ o → is_some (entry t.rows m.target m.name) ≡ true
    by_entry None h = absurd (let bad : None ≡ Some n = sym (ap (option_map (λ (r : Row). r.object)) h) ∙ found in cc)
    by_entry (Some r) h = ap is_some h

pub went_empty : (t : Files) (m : Move) (now : Time) (r : Renamed) (new : Files)
    → Went t m now r new → (n : ℕ) → r.replaced ≡ Some n → has_entries new.rows n ≡ false
went_empty t m now r new w n is = elim (cases_Bool (moves t m)) [
  | inl go ↦ (let answer : Ok r ≡ (tree.moved t m now).answer = rw go at w.answer in
      let after : new ≡ with_moved t m now = rw go at w.after in
      let same : r ≡ record { source = raised t m.source; target = raised t m.target; replaced = object_named t m.target m.name } = cc in
      ap (λ (u : Files). has_entries u.rows n) after ∙ replaced_empty t m now n w.none go (sym (ap (λ (r : Renamed). r.replaced) same) ∙ is))
  | inr stay ↦ (let answer : Ok r ≡ (tree.unmoved t m).answer = rw stay at w.answer in
      let same : r ≡ record { source = unraised t m.source; target = unraised t m.target; replaced = None } = cc in
      absurd (let bad : None ≡ Some n = sym (ap (λ (r : Renamed). r.replaced) same) ∙ is in cc))
]

-- A RENAME that the tree refused: a check failed, or memory was refused where an entry would have moved.
pub rename_refused : (s : State) (x : Context) (now : Time) (a : args.Rename) (p : Pair) (f : TreeFault) (new : Files)
    → renaming s x a ≡ Ok p
    → DoesOrWants s.tree (moves s.tree (move_of a p)) (tree.rename s.tree (move_of a p) now) (Err f) new
    → (new ≡ s.tree)
    × (refuses s x Num.Rename (tree_fault_status f) ≡ or_lack (moves_in s a (both s x) && is_lack (tree_fault_status f)) s x Num.Rename (of_rename.rename s x now a))
rename_refused s x now a p f new v d =
    let t = s.tree in
    let m = move_of a p in
    let o = of_rename.rename s x now a in
    let asks = rename_asks s x now a in
    let found = came (both s x) _ p v in
    let same = ok_is refl (came (in_order (of_rename.place_checks x a found.found)) _ p found.then).then in
    let grows : moves_in s a (both s x) ≡ moves t m = ap (moves_in s a) (found.is ∙ ap Ok same) in
    elim (refused_by_did t (moves t m) (tree.rename t m now) new f d) [
      | inl w ↦ (
        w.3,
        (let none = unless_none t (rename_fault t m) (Goes t m now) w.2 in
            let is : o ≡ renamed s x now a p true = goes asks p v none ∙ ap (renamed s x now a p) w.1 in
            let flag : moves_in s a (both s x) && is_lack (tree_fault_status f) ≡ true = and_from _ _ (grows ∙ w.1) (ap (λ f. is_lack (tree_fault_status f)) w.0) in
            ap (λ f. refuses s x Num.Rename (tree_fault_status f)) w.0
            ∙ sym (ap (λ b. or_lack b s x Num.Rename o) flag ∙ ap (or_lack true s x Num.Rename) is ∙ delayed s x Num.Rename (renamed s x now a p true) refl)),
      )
      | inr e ↦ (let err = unless_err t (rename_fault t m) (Goes t m now) f new (goes_ok t m now) e.1 e.2 in
          (err.1, sym (ap (or_lack _ s x Num.Rename) (stops asks p f v err.0) ∙ own_refused _ s x Num.Rename (tree_fault_status f) (fault_fails f))))
    ]
