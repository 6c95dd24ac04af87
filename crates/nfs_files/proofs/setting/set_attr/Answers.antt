use Rattle.std.proofs.Common.{ℕ, List, sym, ap, ◌∙◌}
use Rattle.nfs_compound.specs.declared.op_num.OpNum.TheVariants as Num
use Rattle.nfs_results.specs.{declared.res.Res.Res, Results.refusal}
use Rattle.nfs_xdr.specs.declared.status.Status.TheVariants.{Nfs4Ok}
use Rattle.nfs_tree.specs.Files.{Files}
use Rattle.nfs_attrs.specs.Mask.{mask_of, trimmed_words}
use Rattle.nfs_names.specs.{State.{state_of, with_tree}, Faults.tree_fault_status, Outcome.Outcome}
use Rattle.nfs_names.proofs.Faulted.{did_ok, does_err, by_error}
use Rattle.nfs_files.specs.{SetAttr.with_set, SetAttrParts.{tree_fault, asked_for, last_checks, was_set}}
use Rattle.nfs_files.proofs.SetRows.{set_goes, set_stops}
use Rattle.nfs_files.proofs.setting.set_attr.Goals as goal
use Rattle.nfs_files.proofs.InSteps.{set_attr_is}

pub returns-in-Ok-change : goal.returns-in-Ok-change
returns-in-Ok-change c =
    let s = state_of c.args.store.now in
    let x = c.args.context.now in
    let a = c.args.asked.now in
    let m = c.in-Ok.setting in
    let told : List ℕ → Res = Res.SetAttr Nfs4Ok in
    let leaves : Res → Files → Outcome = λ r t. record { result = r; state = with_tree s t; context = x } in
    let after = with_set s.tree x m.node c.args.now m.wanted m.wanted.size in
    let did = did_ok s.tree (tree_fault s.tree m.node.number m.wanted m.wanted.size) tt c.in-Ok-change.field-0 after c.change.new.tree
    c.in-Ok-change.ensures.answer c.in-Ok-change.ensures.after in
    ap (λ set. leaves (told set) c.change.new.tree) (c.attr_set.ensures ∙ ap trimmed_words c.mask_in-given.ensures)
    ∙ ap (leaves (told (trimmed_words (mask_of a.obj_attributes.attrmask)))) did.2
    ∙ sym (set_goes s x c.args.now a m (sym c.judge.ensures ∙ c.in-Ok.is) did.0)

pub returns-in-Err-change : goal.returns-in-Err-change
returns-in-Err-change c =
    let s = state_of c.args.store.now in
    let x = c.args.context.now in
    let a = c.args.asked.now in
    let m = c.in-Ok.setting in
    let f = c.in-Err-change.fault in
    let leaves : Res → Files → Outcome = λ r t. record { result = r; state = with_tree s t; context = x } in
    let after = with_set s.tree x m.node c.args.now m.wanted m.wanted.size in
    let did = does_err s.tree (tree_fault s.tree m.node.number m.wanted m.wanted.size) tt after c.change.new.tree f
    c.in-Err-change.ensures.answer c.in-Err-change.ensures.after in
    ap (λ r. leaves r c.change.new.tree) (c.refuse.ensures ∙ ap (refusal 34) c.status_of.ensures)
    ∙ ap (leaves (refusal 34 (tree_fault_status f))) did.1
    ∙ sym (set_stops s x c.args.now a m f (sym c.judge.ensures ∙ c.in-Ok.is) did.0)

pub returns-in-Err : goal.returns-in-Err
returns-in-Err c =
    rw (set_attr_is (state_of c.args.store.now) c.args.context.now c.args.now c.args.asked.now)
    (let s = state_of c.args.store.now in
    let x = c.args.context.now in
    let a = c.args.asked.now in
    ap (λ (r : Res). record { result = r; state = s; context = x }) c.refuse-in-Err.ensures
    ∙ sym (by_error s x Num.SetAttr (asked_for s x a) (last_checks s) (was_set s x c.args.now a) c.in-Err.status (sym c.judge.ensures ∙ c.in-Err.is)))
