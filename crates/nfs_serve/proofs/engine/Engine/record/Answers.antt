use Rattle.std.proofs.Common.{◌≡◌, sym, ap, ◌∙◌, length, length-take-le, refl}
use Rattle.nfs_rpc.specs.CallHead.{call_of}
use Rattle.nfs_exec.specs.{Step.Expiry.expired, Step.Machine.machine_of}
use Rattle.nfs_serve.specs.Server.{state_of}
use Rattle.nfs_serve.proofs.Stepping.{step_of, answer_lies}
use Rattle.nfs_serve.proofs.engine.Engine.record.Goals as goal

pub returns : goal.returns
returns c =
    let (choice, put) = c.put_record.ensures.answer in
    let now_is = step_of (state_of c.args.self.now.kept) c.args.call.now c.args.now c.self.inside.moment choice
    (machine_of c.self.inside.world) (call_of c.args.call.now)
    (ap (λ e. e.kept.moment) c.self.view_is ∙ c.pass.ensures.moment)
    (ap (λ e. machine_of e.kept.world) c.self.view_is ∙ c.pass.ensures.tables
    ∙ ap (λ e. expired e.kept.moment (machine_of c.args.self.now.kept.world)) (sym c.self.view_is)) refl in
    let front : length c.cut.new.self.bytes ≡ 8 = rw c.cut.ensures (length-take-le 8 c.self.inside.sheet.bytes c.self.invariant.0) in
    let (lies, left) = answer_lies c.put_record.result _ _ _ _ front put in
    (choice, rw now_is lies, left ∙ sym (ap (λ t. t.state) now_is))
