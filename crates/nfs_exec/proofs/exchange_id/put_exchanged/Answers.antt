use Rattle.std.proofs.Common.{sym, subst, arith}
use Rattle.nfs_xdr.specs.SheetState.{HasRoom}
use Rattle.nfs_results.specs.{declared.res.Res.Res, ResultCodec.IsBounded, Results.spell_result}
use Rattle.nfs_exec.proofs.Step.RefusalsFit.{exchanged_bounded, exchanged_long}
use Rattle.nfs_exec.proofs.exchange_id.put_exchanged.Goals as goal

pub write-requires-clause-bounds : goal.write-requires-clause-bounds
write-requires-clause-bounds c = subst IsBounded (sym c.told-res.ensures) (exchanged_bounded _ c.args.exchanged.now c.bytes.ensures.bounds)

pub write-requires-clause-room : goal.write-requires-clause-room
write-requires-clause-room c = λ arrays.
    (let long = exchanged_long _ c.args.exchanged.now c.bytes.ensures.bounds in
    let room = c.requires in
    subst (λ (r : Res). HasRoom c.args.out.now (spell_result r)) (sym c.told-res.ensures) (omega (arith, long, room)))
