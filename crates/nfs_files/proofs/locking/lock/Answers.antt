use Rattle.std.proofs.Common.{sym, ◌∙◌}
use Rattle.nfs_compound.specs.declared.op_num.OpNum.TheVariants as Num
use Rattle.nfs_names.specs.State.{state_of}
use Rattle.nfs_files.specs.Lock.{lock}
use Rattle.nfs_files.proofs.{InSteps.{lock_is, where_found, where_refused}, Locked.not_locked}
use Rattle.nfs_files.proofs.locking.lock.Goals as goal

pub returns-in-Ok : goal.returns-in-Ok
returns-in-Ok c =
    let s = state_of c.args.store.now in
    let x = c.args.context.now in
    let a = c.args.asked.now in
    rw (where_found s x Num.Lock (lock s x a) _ _ _ (lock_is s x a) (sym c.judge_lock.ensures.wish ∙ c.in-Ok.is)) c.set_lock.ensures

pub returns-in-Err : goal.returns-in-Err
returns-in-Err c =
    let s = state_of c.args.store.now in
    let x = c.args.context.now in
    let a = c.args.asked.now in
    not_locked s x (lock s x a) c.in-Err.status _ _ _
    (where_refused s x Num.Lock (lock s x a) _ _ _ (lock_is s x a) (sym c.judge_lock.ensures.wish ∙ c.in-Err.is))
    c.put_refusal.ensures.put c.put_refusal.ensures.status
