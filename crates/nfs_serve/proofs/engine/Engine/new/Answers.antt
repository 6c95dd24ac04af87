use Rattle.std.proofs.Common.{refl, ap}
use Rattle.nfs_exec.specs.Step.Machine.{Machine}
use Rattle.nfs_serve.specs.Step.{ServerState}
use Rattle.nfs_serve.proofs.Framing.{behind_front}
use Rattle.nfs_serve.proofs.engine.Engine.new.Goals as goal

pub returns : goal.returns
returns c =
    let state : Machine → ServerState = λ m. record { machine = m; moment = 0 } in
    (ap state c.in_ok-new.ensures, rw (c.put_u64.ensures.bytes, c.in_ok-sheet.ensures, behind_front 0) refl)
