use Rattle.std.proofs.Common.{◌∙◌, ap}
use Rattle.nfs_results.specs.declared.res.Res.TheVariants as Res
use Rattle.nfs_files.specs.{Target.with_stateid, Close.spent, Parts.closed}
use Rattle.nfs_compound.specs.declared.op_num.OpNum.TheVariants as Num
use Rattle.nfs_opens.specs.Closing as opens
use Rattle.nfs_names.specs.State.{State, state_of}
use Rattle.nfs_files.proofs.Refused.{by_refusal, by_grant}
use Rattle.nfs_files.proofs.closing.close_open.Goals as goal

pub returns-in-Err : goal.returns-in-Err
returns-in-Err c =
    let s = state_of c.args.store.now in
    let x = c.args.context.now in
    let t = c.args.target in
    by_refusal s x Num.Close (opens.close s.opens t.id x.client t.file) (λ did. closed s x t.file did.1) c.in-Err.status _ _
    c.in-Err.ensures.answer c.in-Err.ensures.after c.refuse.ensures

pub returns-in-Ok : goal.returns-in-Ok
returns-in-Ok c =
    let s = state_of c.args.store.now in
    let x = c.args.context.now in
    let t = c.args.target in
    ap (λ (left : State). record { result = Res.Close spent; state = left; context = with_stateid x spent }) c.drop_unused.ensures.state
    ∙ by_grant s x Num.Close (opens.close s.opens t.id x.client t.file) (λ did. closed s x t.file did.1) tt _ c.in-Ok.ensures.answer c.in-Ok.ensures.after
