use Rattle.std.proofs.Common.{◌≡◌, true, Some, None, inl, inr, refl, sym, ap, ◌∙◌}
use Rattle.nfs_tree.specs.{declared.fault.TreeFault.TheVariants.Memory, Files.Files}
use Rattle.nfs_opens.specs.{Table.{Kept, table}, Calls.open_fault}
use Rattle.nfs_opens.specs.Calls as of_opens
use Rattle.nfs_names.specs.{State.{State, state_of}, Faults.tree_fault_status}
use Rattle.nfs_names.proofs.{Found.checked_ok, Faulted.{done_by_tree, refused_tree}}
use Rattle.nfs_files.specs.{Open.{asking, last_checks, file_of, tree_of}, OpenParts.tree_fault, OpenParts.asked_for}
use Rattle.nfs_files.proofs.{Granted.{may_change, tree_free}, Opened.shared_free}
use Rattle.nfs_files.proofs.entering.open_found.Goals as goal

-- the checks passed, so memory alone was refused
pub returns-in-Err : goal.returns-in-Err
returns-in-Err c =
    let s = state_of c.args.store.now in
    let x = c.args.context.now in
    let t = s.tree in
    let o = c.args.asked.now in
    let found = c.args.found.now in
    let f = c.in-Err.fault in
    let granted = checked_ok (asked_for s x o) (last_checks s x o) found c.requires.granted in
    let did = refused_tree t true (tree_fault t o found) (file_of t found) (tree_of t x c.args.now o found) c.enter.new.tree f c.in-Err.ensures in
    let memory : f ≡ Memory = elim did.1 [
      | inl w ↦ w.0
      | inr other ↦ absurd (let bad : None ≡ Some f = sym (tree_free s x o found granted.0 granted.1) ∙ other.0 in cc)
    ] in
    let with_parts : Files → Kept → State = λ t k. record { tree = t; opens = table k; lease = s.lease } in
    (c.status_of.ensures ∙ ap tree_fault_status memory, ap (λ t. with_parts t c.reserve.new.self) did.0 ∙ ap (with_parts t) c.in-Ok.ensures.ok, refl)

pub info_of-cinfo-requires : goal.info_of-cinfo-requires
info_of-cinfo-requires c =
    let s = state_of c.args.store.now in
    let x = c.args.context.now in
    let o = c.args.asked.now in
    let found = c.args.found.now in
    may_change s x o found (checked_ok (asked_for s x o) (last_checks s x o) found c.requires.granted).1

pub open-requires-clause-judged : goal.open-requires-clause-judged
open-requires-clause-judged c =
    let s = state_of c.args.store.now in
    let x = c.args.context.now in
    let t = s.tree in
    let o = c.args.asked.now in
    let found = c.args.found.now in
    let granted = checked_ok (asked_for s x o) (last_checks s x o) found c.requires.granted in
    let did = done_by_tree t true (tree_fault t o found) (file_of t found) c.in-Ok-enter.file
    (tree_of t x c.args.now o found) c.enter.new.tree c.in-Ok-enter.ensures in
    ap (λ (k : Kept). open_fault (table k) (of_opens.asked c.ask_for.result)) c.in-Ok.ensures.ok
    ∙ ap (open_fault s.opens) (c.ask_for.ensures ∙ ap (asking x o) did.1)
    ∙ shared_free s x o found granted.1
