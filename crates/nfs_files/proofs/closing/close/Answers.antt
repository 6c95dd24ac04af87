use Rattle.std.proofs.Common.{sym, ap, ◌∙◌}
use Rattle.nfs_compound.specs.declared.op_num.OpNum.TheVariants as Num
use Rattle.nfs_names.specs.{State.state_of, Outcome.done}
use Rattle.nfs_files.specs.Close.{close}
use Rattle.nfs_files.proofs.InSteps.{close_is, where_found, where_refused}
use Rattle.nfs_files.proofs.closing.close.Goals as goal

pub returns-in-Ok : goal.returns-in-Ok
returns-in-Ok c =
    let s = state_of c.args.store.now in
    let x = c.args.context.now in
    let a = c.args.asked.now in
    c.close_open.ensures ∙ sym (where_found s x Num.Close (close s x a) _ _ _ (close_is s x a) (sym c.target_for.ensures ∙ c.in-Ok.is))

pub returns-in-Err : goal.returns-in-Err
returns-in-Err c =
    let s = state_of c.args.store.now in
    let x = c.args.context.now in
    let a = c.args.asked.now in
    ap (done s x) c.refuse.ensures
    ∙ sym (where_refused s x Num.Close (close s x a) _ _ _ (close_is s x a) (sym c.target_for.ensures ∙ c.in-Err.is))
