use Rattle.std.proofs.Common.{◌≡◌, ap, ◌∙◌, sym, not}
use Rattle.std.specs.Prelude.{Ok, ◌&&◌}
use Rattle.nfs_compound.specs.declared.op_num.OpNum.TheVariants as Num
use Rattle.nfs_results.specs.Results.{status_of_result}
use Rattle.nfs_names.specs.{State.state_of, Outcome.{or_lack, is_lack}}
use Rattle.nfs_files.specs.{LockU.{lock_u, wants_memory}, Parts.{unlocking, unlocks}}
use Rattle.nfs_files.proofs.{InSteps.{unlock_is, where_found, where_refused}, Refused.told_refusal, Spans.wished_whole}
use Rattle.nfs_files.proofs.locking.lock_u.Goals as goal

pub returns-in-Ok : goal.returns-in-Ok
returns-in-Ok c =
    let s = state_of c.args.store.now in
    let x = c.args.context.now in
    let a = c.args.asked.now in
    let k = c.in-Ok.wished in
    let delayed = is_lack (status_of_result c.give_up.result) in
    let found : unlocking s x a ≡ Ok k = sym c.judge_unlock.ensures.wish ∙ c.in-Ok.is in
    let whole = wished_whole s x a.locktype a.offset a.length a.lock_stateid k found in
    c.give_up.ensures
    ∙ ap (λ b. or_lack (not b && delayed) s x Num.LockU (unlocks s x k)) whole
    ∙ sym (ap (or_lack (wants_memory a && delayed) s x Num.LockU) (where_found s x Num.LockU (lock_u s x a) (unlocking s x a) (unlocks s x) k (unlock_is s x a) found))

pub returns-in-Err : goal.returns-in-Err
returns-in-Err c =
    let s = state_of c.args.store.now in
    let x = c.args.context.now in
    let a = c.args.asked.now in
    told_refusal (wants_memory a) s x Num.LockU (lock_u s x a) c.in-Err.status _
    (where_refused s x Num.LockU (lock_u s x a) _ _ _ (unlock_is s x a) (sym c.judge_unlock.ensures.wish ∙ c.in-Err.is)) c.refuse.ensures
