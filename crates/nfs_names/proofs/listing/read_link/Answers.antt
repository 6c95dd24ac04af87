use Rattle.std.proofs.Common.{sym, ◌∙◌}
use Rattle.std.specs.Prelude.{Err}
use Rattle.nfs_compound.specs.declared.op_num.OpNum.TheVariants as Num
use Rattle.nfs_names.specs.State.{state_of}
use Rattle.nfs_names.proofs.Fronted.{read_link_by, refusal_comes}
use Rattle.nfs_names.proofs.listing.read_link.Goals as goal

pub returns-in-Err : goal.returns-in-Err
returns-in-Err c =
    let s = state_of c.args.store.now in
    let x = c.args.context.now in
    refusal_comes s x Num.ReadLink _ c.in-Err.status _ _ _
    (read_link_by s x (Err c.in-Err.status) (sym c.in-Err.is ∙ c.judge_link.ensures)) c.put_refusal.ensures.status c.put_refusal.ensures.put
