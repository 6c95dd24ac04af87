use Rattle.std.proofs.{Common.{◌≤◌, length, ap, sym, subst, arith}, lemmas.List.length-append}
use Rattle.nfs_results.specs.{declared.res.Res.Res, Results.spell_result}
use Rattle.nfs_xdr.specs.declared.status.Status.TheVariants.{RepTooBig}
use Rattle.nfs_exec.proofs.Step.RefusalsFit.{refusal_short}
use Rattle.nfs_exec.proofs.tables.Tables.in_room.Goals as goal

pub write-requires-clause-room : goal.write-requires-clause-room
write-requires-clause-room c = λ arrays.
    (let short = subst (λ (r : Res). length (spell_result r) ≤ 12) (sym c.refusal.ensures) (refusal_short c.number.result RepTooBig) in
    let reserve = c.requires.reserve in
    let room = c.requires.room in
    omega (arith, short, reserve, room))

pub returns-then-largest-reply-clause-fits : goal.returns-then-largest-reply-clause-fits
returns-then-largest-reply-clause-fits c =
    let short = subst (λ (r : Res). length (spell_result r) ≤ 12) (sym c.refusal.ensures) (refusal_short c.number.result RepTooBig) in
    let reserve = c.requires.reserve in
    let long = ap length c.write.ensures.bytes in
    let parts = length-append c.args.out.now.bytes (spell_result c.refusal.result) in
    omega (arith, short, reserve, long, parts)
