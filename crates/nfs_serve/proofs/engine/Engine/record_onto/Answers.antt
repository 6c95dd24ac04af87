use Rattle.std.proofs.Common.{sym, ap, ◌∙◌, refl}
use Rattle.nfs_rpc.specs.CallHead.{call_of}
use Rattle.nfs_exec.specs.{Step.Expiry.expired, Step.Machine.machine_of}
use Rattle.nfs_serve.specs.Server.{state_of}
use Rattle.nfs_serve.proofs.Stepping.{step_of}
use Rattle.nfs_serve.proofs.engine.Engine.record_onto.Goals as goal

pub returns : goal.returns
returns c =
    let (choice, put) = c.put_record.ensures.answer in
    let now_is = step_of (state_of c.args.self.now.kept) c.args.call.now c.args.now c.self.inside.moment choice
    (machine_of c.self.inside.world) (call_of c.args.call.now)
    (ap (λ e. e.kept.moment) c.self.view_is ∙ c.pass.ensures.moment)
    (ap (λ e. machine_of e.kept.world) c.self.view_is ∙ c.pass.ensures.tables
    ∙ ap (λ e. expired e.kept.moment (machine_of c.args.self.now.kept.world)) (sym c.self.view_is)) refl in
    (choice, rw now_is put)
