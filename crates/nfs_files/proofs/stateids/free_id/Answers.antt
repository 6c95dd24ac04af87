use Rattle.nfs_compound.specs.declared.op_num.OpNum.TheVariants as Num
use Rattle.nfs_results.specs.declared.res.Res.TheVariants as Res
use Rattle.nfs_opens.specs.Closing as opens
use Rattle.nfs_names.specs.{State.state_of, Outcome.done, Ending.with_opens}
use Rattle.nfs_files.proofs.Refused.{by_refusal}
use Rattle.nfs_files.proofs.stateids.free_id.Goals as goal

pub returns-in-Err : goal.returns-in-Err
returns-in-Err c =
    let s = state_of c.args.store.now in
    let x = c.args.context.now in
    by_refusal s x Num.FreeStateid (opens.free s.opens c.args.id x.client) (λ did. done (with_opens s did.1) x Res.FreeStateid) c.in-Err.status _ _
    c.in-Err.ensures.answer c.in-Err.ensures.after c.refuse.ensures
