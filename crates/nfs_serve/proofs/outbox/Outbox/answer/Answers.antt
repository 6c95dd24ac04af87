use Rattle.std.proofs.{Common.{◌≡◌, ◌+◌, ◌++◌, length, take, drop, arith, ap, ◌∙◌, sym, length-append}, lemmas.List.drop-append-le}
use Rattle.nfs_xdr.specs.Spelling.{number}
use Rattle.nfs_xdr.proofs.Putting.{length_number}
use Rattle.nfs_serve.specs.{declared.form.Form.TheVariants.Plain, Run.{one_fragment, spell_answer}}
use Rattle.nfs_serve.proofs.Framing.{marked}
use Rattle.nfs_serve.proofs.outbox.Outbox.answer.Goals as goal

pub put_u32-requires : goal.put_u32-requires
put_u32-requires c =
    let laid = ap (λ b. b.laid) c.self.view_is in
    record { room = omega (arith, laid, c.requires.room, c.self.invariant.2, length_number 0) }

pub record_onto-requires-clause-room : goal.record_onto-requires-clause-room
record_onto-requires-clause-room c =
    let laid = ap (λ b. b.laid) c.self.view_is in
    let long = ap length c.put_u32.ensures.bytes ∙ length-append c.self.inside.sheet.bytes (number 0) in
    omega (arith, laid, long, c.put_u32.ensures.room, c.requires.room, c.self.invariant.2, length_number 0)

pub set_mark-requires-clause-within : goal.set_mark-requires-clause-within
set_mark-requires-clause-within c =
    let (choice, put) = c.in-Reply.ensures in
    let long = ap length c.put_u32.ensures.bytes ∙ length-append c.self.inside.sheet.bytes (number 0) in
    let longer = ap length put.put.bytes ∙ length-append c.put_u32.new.self.bytes put.text in
    omega (arith, long, longer, c.len-at.ensures.value, length_number 0)

pub returns-in-Reply : goal.returns-in-Reply
returns-in-Reply c =
    let (choice, put) = c.in-Reply.ensures in
    let owed = c.self.inside.sheet.bytes in
    let at = c.len-at.result in
    let text = put.text in
    let is : c.set_mark.new.sheet.bytes ≡ owed ++ one_fragment text =
    ap (λ s. s.bytes) c.set_mark.ensures.marked
    ∙ ap (λ l. take at l ++ one_fragment (drop (at + 4) l)) (put.put.bytes ∙ ap (λ l. l ++ text) c.put_u32.ensures.bytes)
    ∙ marked owed text at 0 c.len-at.ensures.value in (
      choice,
      λ conn. ap (drop c.self.inside.at) is ∙ drop-append-le c.self.inside.at owed (one_fragment text) c.self.invariant.0
          ∙ ap (λ b. b.bytes ++ one_fragment text) c.self.view_is
          ∙ ap (λ r. c.args.self.now.bytes ++ spell_answer Plain conn r) (sym put.reply),
      put.state,
    )
