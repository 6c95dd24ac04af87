use Rattle.std.proofs.Common.{sym, ap, ◌∙◌}
use Rattle.nfs_compound.specs.declared.op_num.OpNum.TheVariants as Num
use Rattle.nfs_names.specs.{State.state_of, Outcome.done}
use Rattle.nfs_files.specs.OpenDowngrade.{open_downgrade}
use Rattle.nfs_files.proofs.InSteps.{downgrade_is, where_found, where_refused}
use Rattle.nfs_files.proofs.closing.open_downgrade.Goals as goal

pub returns-in-Ok : goal.returns-in-Ok
returns-in-Ok c =
    let s = state_of c.args.store.now in
    let x = c.args.context.now in
    let a = c.args.asked.now in
    c.narrow_open.ensures ∙ sym (where_found s x Num.OpenDowngrade (open_downgrade s x a) _ _ _ (downgrade_is s x a) (sym c.judge_downgrade.ensures ∙ c.in-Ok.is))

pub returns-in-Err : goal.returns-in-Err
returns-in-Err c =
    let s = state_of c.args.store.now in
    let x = c.args.context.now in
    let a = c.args.asked.now in
    ap (done s x) c.refuse.ensures
    ∙ sym (where_refused s x Num.OpenDowngrade (open_downgrade s x a) _ _ _ (downgrade_is s x a) (sym c.judge_downgrade.ensures ∙ c.in-Err.is))
