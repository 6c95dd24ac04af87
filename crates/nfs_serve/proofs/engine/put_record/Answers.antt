use Rattle.std.proofs.Common.{None, arith}
use Rattle.nfs_rpc.proofs.Lengths.{length_refusal}
use Rattle.nfs_rpc.specs.View as view
use Rattle.nfs_serve.proofs.Stepping.{refusal_puts, arguments_within}
use Rattle.nfs_serve.proofs.engine.put_record.Goals as goal

pub write_refusal-requires : goal.write_refusal-requires
write_refusal-requires c = record { room = omega (arith, length_refusal c.in-Err.refusal, c.requires.room) }

pub put_answer-requires-clause-size : goal.put_answer-requires-clause-size
put_answer-requires-clause-size c = arguments_within c.args.bytes.now (view.call c.in-Ok.call)
    (record { each = λ i. (let small = c.type_inv.bytes i in omega (arith, small)) }) c.in-Ok.ensures.called

pub returns-in-Ok-clause-answer : goal.returns-in-Ok-clause-answer
returns-in-Ok-clause-answer c =
    let (choice, put) = c.put_answer.ensures.answer in
    (choice, rw c.in-Ok.ensures.called put)

pub returns-in-Err-clause-answer : goal.returns-in-Err-clause-answer
returns-in-Err-clause-answer c = (None, rw (c.in-Err.ensures.called, c.outcome_of.ensures) (refusal_puts _ c.in-Err.refusal _ _ c.write_refusal.ensures))
