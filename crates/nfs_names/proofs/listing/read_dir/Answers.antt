use Rattle.std.proofs.Common.{sym, ◌∙◌}
use Rattle.std.specs.Prelude.{Err}
use Rattle.nfs_compound.specs.declared.op_num.OpNum.TheVariants as Num
use Rattle.nfs_names.specs.State.{state_of}
use Rattle.nfs_names.proofs.{Fronted.refusal_comes, Listed.{listing_comes, read_dir_by}}
use Rattle.nfs_names.proofs.listing.read_dir.Goals as goal

pub returns-in-Ok : goal.returns-in-Ok
returns-in-Ok c =
    listing_comes (state_of c.args.store.now) c.args.context.now c.args.asked.now c.in-Ok.d
    c.put_listing.result c.args.out.now c.put_listing.new.out (sym c.judge_listing.ensures ∙ c.in-Ok.is) c.put_listing.ensures

pub returns-in-Err : goal.returns-in-Err
returns-in-Err c =
    let s = state_of c.args.store.now in
    let x = c.args.context.now in
    refusal_comes s x Num.ReadDir _ c.in-Err.status _ _ _
    (read_dir_by s x c.args.asked.now (Err c.in-Err.status) (sym c.in-Err.is ∙ c.judge_listing.ensures)) c.put_refusal.ensures.status c.put_refusal.ensures.put
