use Rattle.std.proofs.Common.{refl, sym, ◌∙◌}
use Rattle.nfs_compound.specs.declared.op_num.OpNum.TheVariants as Num
use Rattle.nfs_names.specs.State.{state_of}
use Rattle.nfs_files.specs.Read.{read}
use Rattle.nfs_files.proofs.InSteps.{read_is, where_found, where_refused}
use Rattle.nfs_files.proofs.bytes.read.Goals as goal

pub returns-in-Ok : goal.returns-in-Ok
returns-in-Ok c =
    let s = state_of c.args.store.now in
    let x = c.args.context.now in
    let a = c.args.asked.now in
    rw (where_found s x Num.Read (read s x a) _ _ _ (read_is s x a) (sym c.to_read.ensures ∙ c.in-Ok.is))
    (record { put = c.put_read.ensures; status = refl; state = refl; context = refl })

pub returns-in-Err : goal.returns-in-Err
returns-in-Err c =
    let s = state_of c.args.store.now in
    let x = c.args.context.now in
    let a = c.args.asked.now in
    rw (where_refused s x Num.Read (read s x a) _ _ _ (read_is s x a) (sym c.to_read.ensures ∙ c.in-Err.is))
    (record { put = c.put_refusal.ensures.put; status = c.put_refusal.ensures.status; state = refl; context = refl })
