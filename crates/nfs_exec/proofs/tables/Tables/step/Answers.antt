use Rattle.std.proofs.{Common.{◌≡◌, ◌≤◌, ◌∙◌, length, ap, sym, subst, arith}, lemmas.List.length-append}
use Rattle.nfs_results.specs.{declared.res.Res.Res, Largest.largest, Results.spell_result}
use Rattle.nfs_exec.proofs.Step.RefusalsFit.{refusal_short}
use Rattle.nfs_exec.proofs.tables.Tables.step.Goals as goal

-- what a fault answers has 12 bytes at most
short : (r k : Res) → r ≡ k → length (spell_result k) ≤ 12 → length (spell_result r) ≤ 12
short r k is few = subst (λ (r : Res). length (spell_result r) ≤ 12) (sym is) few

pub write-requires-clause-room : goal.write-requires-clause-room
write-requires-clause-room c = λ arrays.
    (let few = short c.refusal.result _ c.refusal.ensures (refusal_short c.in-Fault.number c.in-Fault.status) in
    let room = c.requires.room in
    omega (arith, few, room))

pub returns-in-Fault-clause-fits : goal.returns-in-Fault-clause-fits
returns-in-Fault-clause-fits c =
    let few = short c.refusal.result _ c.refusal.ensures (refusal_short c.in-Fault.number c.in-Fault.status) in
    let long = ap length c.write.ensures.bytes ∙ length-append c.args.out.now.bytes (spell_result c.refusal.result) in
    omega (arith, few, long)

pub returns-in-Fault-clause-more : goal.returns-in-Fault-clause-more
returns-in-Fault-clause-more c = λ ok.
    (let few = short c.refusal.result _ c.refusal.ensures (refusal_short c.in-Fault.number c.in-Fault.status) in
    let long = ap length c.write.ensures.bytes ∙ length-append c.args.out.now.bytes (spell_result c.refusal.result) in
    let most : largest c.args.item.now ≡ 64 = ap largest c.in-Fault.is in
    omega (arith, few, long, most))
