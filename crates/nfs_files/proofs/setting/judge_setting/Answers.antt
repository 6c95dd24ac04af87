use Rattle.std.proofs.{Common.{◌≡◌, Some, None, refl, sym, ap, ◌∙◌}, lemmas.Result.err_from_is_err_and}
use Rattle.std.specs.Prelude.{Ok, Err}
use Rattle.nfs_xdr.specs.{Caller.caller, Checks.first_fault}
use Rattle.nfs_attrs.specs.Setting.{may_set}
use Rattle.nfs_names.specs.{State.state_of, Outcome.{passed, checked}}
use Rattle.nfs_names.proofs.Found.{judged_err, judged_ok, stopped}
use Rattle.nfs_files.specs.{declared.setting.Setting.Setting, SetAttrParts.{setting, owner_checks}}
use Rattle.nfs_files.proofs.SetRows.{set_by}
use Rattle.nfs_files.proofs.setting.judge_setting.Goals as goal

pub returns-in_err-may_set : goal.returns-in_err-may_set
returns-in_err-may_set c =
    let s = state_of c.args.store.now in
    let x = c.args.context.now in
    let a = c.args.asked.now in
    let d = c.in_ok-node.node in
    let w = c.in_ok-wanted.wanted in
    let m : Setting = record { node = d; wanted = w } in
    let f = c.in_err-may_set.field-0.0 in
    let r = err_from_is_err_and c.from_residual-in_err-may_set.result c.from_residual-in_err-may_set.ensures.1 in
    let is : setting s x a ≡ checked (Ok m) (owner_checks s x) =
    set_by s x a d w (sym c.current.ensures ∙ c.in_ok-node.was) (sym c.wanted_of.ensures ∙ c.in_ok-wanted.was) in
    let may = c.may_set.ensures ∙ ap (λ p. may_set p d.object w (caller c.who.result.now)) c.profile.ensures ∙ ap (may_set s.tree.profile d.object w) c.who.ensures in
    let barred : first_fault (owner_checks s x m) ≡ Some f = judged_err _ _ (sym may ∙ c.in_err-may_set.was) in
    r.1 ∙ ap Err r.2 ∙ sym (is ∙ stopped (Ok m) (owner_checks s x) m f refl barred)

pub returns : goal.returns
returns c =
    let s = state_of c.args.store.now in
    let x = c.args.context.now in
    let a = c.args.asked.now in
    let d = c.in_ok-node.node in
    let w = c.in_ok-wanted.wanted in
    let m : Setting = record { node = d; wanted = w } in
    let is : setting s x a ≡ checked (Ok m) (owner_checks s x) =
    set_by s x a d w (sym c.current.ensures ∙ c.in_ok-node.was) (sym c.wanted_of.ensures ∙ c.in_ok-wanted.was) in
    let may = c.may_set.ensures ∙ ap (λ p. may_set p d.object w (caller c.who.result.now)) c.profile.ensures ∙ ap (may_set s.tree.profile d.object w) c.who.ensures in
    let free : first_fault (owner_checks s x m) ≡ None = judged_ok _ _ (sym may ∙ c.in_ok-may_set.was) in
    sym (is ∙ ap (passed m) free)
