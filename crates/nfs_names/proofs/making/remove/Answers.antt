use Rattle.std.proofs.Common.{◌≡◌, not, sym, ap, ◌∙◌, false}
use Rattle.std.specs.Prelude.{Ok, ◌==◌}
use Rattle.nfs_results.specs.{declared.res.ChangeInfo.ChangeInfo, declared.res.Res.Res}
use Rattle.nfs_tree.specs.{declared.row.Row.Row, declared.done.Removed.Removed, Files.{Files, is_entry, number_named, has_entries, raised}, Names.without_name}
use Rattle.nfs_tree.specs.Calls.{remove_fault}
use Rattle.nfs_tree.proofs.Trees.{remove_granted}
use Rattle.nfs_names.specs.{State.{State, state_of, with_tree, without_unused}, Outcome.Outcome, Create.change_info, Faults.tree_fault_status, Fronts.removing}
use Rattle.nfs_xdr.proofs.Lists.{none_left}
use Rattle.nfs_names.proofs.{Changing.{remove_asks, goes, stops, errs}, Faulted.{did_ok, does_err}}
use Rattle.nfs_names.proofs.making.remove.Goals as goal

pub drop_empty-requires : goal.drop_empty-requires
drop_empty-requires c unused =
    let t = c.args.store.now.tree in
    let d = c.in-Ok.d.number in
    let name = c.args.name.now in
    let n = number_named t d name in
    let did = did_ok t (remove_fault t d name) (record { number = n; directory = raised t d }) c.in-Ok-remove.removed
    (without_name t d name c.args.now) c.remove.new.self c.in-Ok-remove.ensures.answer c.in-Ok-remove.ensures.after in
    let empty = (remove_granted t d name did.0).1 in
    let gone : has_entries (without_name t d name c.args.now).rows n ≡ false =
    none_left (λ (r : Row). r.directory == n) (λ r. not (is_entry d name r)) t.rows empty in
    ap (λ (u : Files). has_entries u.rows c.in-Ok-remove.removed.number) did.2
    ∙ ap (λ (k : Removed). has_entries (without_name t d name c.args.now).rows k.number) did.1 ∙ gone

pub returns-in-Ok-remove : goal.returns-in-Ok-remove
returns-in-Ok-remove c =
    let s = state_of c.args.store.now in
    let x = c.args.context.now in
    let t = s.tree in
    let now = c.args.now in
    let d = c.in-Ok.d in
    let name = c.args.name.now in
    let n = number_named t d.number name in
    let v : removing s x name ≡ Ok d = sym c.judge_remove.ensures ∙ c.in-Ok.is in
    let did = did_ok t (remove_fault t d.number name) (record { number = n; directory = raised t d.number }) c.in-Ok-remove.removed
    (without_name t d.number name now) c.remove.new.self c.in-Ok-remove.ensures.answer c.in-Ok-remove.ensures.after in
    let outcome : ChangeInfo → State → Outcome = λ info u. record { result = Res.Remove info; state = u; context = x } in
    let left : State = with_tree s (without_name t d.number name now) in
    ap (λ info. outcome info (state_of c.drop_empty.new.self)) (c.change_info.ensures ∙ ap (λ (k : Removed). change_info k.directory) did.1)
    ∙ ap (outcome (change_info (raised t d.number)))
    (c.drop_empty.ensures ∙ ap (λ u. without_unused (with_tree s u) c.in-Ok-remove.removed.number) did.2
    ∙ ap (λ (k : Removed). without_unused left k.number) did.1)
    ∙ sym (goes (remove_asks s x now name) d v did.0)

pub returns-in-Err-remove : goal.returns-in-Err-remove
returns-in-Err-remove c =
    let s = state_of c.args.store.now in
    let x = c.args.context.now in
    let t = s.tree in
    let now = c.args.now in
    let d = c.in-Ok.d in
    let name = c.args.name.now in
    let f = c.in-Err-remove.fault in
    let v : removing s x name ≡ Ok d = sym c.judge_remove.ensures ∙ c.in-Ok.is in
    let did = does_err t (remove_fault t d.number name) (record { number = number_named t d.number name; directory = raised t d.number })
    (without_name t d.number name now) c.remove.new.self f c.in-Err-remove.ensures.answer c.in-Err-remove.ensures.after in
    let outcome : Res → Files → Outcome = λ r t. record { result = r; state = with_tree s t; context = x } in
    ap (λ r. outcome r c.remove.new.self) (c.refuse.ensures ∙ ap (Res.Refused 28) c.status_of.ensures) ∙ ap (outcome (Res.Refused 28 (tree_fault_status f))) did.1
    ∙ sym (stops (remove_asks s x now name) d f v did.0)

pub returns-in-Err : goal.returns-in-Err
returns-in-Err c =
    let s = state_of c.args.store.now in
    let x = c.args.context.now in
    let name = c.args.name.now in
    let outcome : Res → Outcome = λ r. record { result = r; state = s; context = x } in
    ap outcome c.refuse-in-Err.ensures
    ∙ sym (errs (remove_asks s x c.args.now name) c.in-Err.status (sym c.judge_remove.ensures ∙ c.in-Err.is))
