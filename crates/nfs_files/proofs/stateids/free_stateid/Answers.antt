use Rattle.std.proofs.Common.{sym, ap, ◌∙◌}
use Rattle.nfs_compound.specs.declared.op_num.OpNum.TheVariants as Num
use Rattle.nfs_names.specs.{State.state_of, Outcome.done}
use Rattle.nfs_files.specs.FreeStateid.{free_stateid}
use Rattle.nfs_files.proofs.InSteps.{free_is, where_found, where_refused}
use Rattle.nfs_files.proofs.stateids.free_stateid.Goals as goal

pub returns-in-Ok : goal.returns-in-Ok
returns-in-Ok c =
    let s = state_of c.args.store.now in
    let x = c.args.context.now in
    let a = c.args.given.now in
    c.free_id.ensures ∙ sym (where_found s x Num.FreeStateid (free_stateid s x a) _ _ _ (free_is s x a) (sym c.meant.ensures ∙ c.in-Ok.is))

pub returns-in-Err : goal.returns-in-Err
returns-in-Err c =
    let s = state_of c.args.store.now in
    let x = c.args.context.now in
    let a = c.args.given.now in
    ap (done s x) c.refuse.ensures
    ∙ sym (where_refused s x Num.FreeStateid (free_stateid s x a) _ _ _ (free_is s x a) (sym c.meant.ensures ∙ c.in-Err.is))
