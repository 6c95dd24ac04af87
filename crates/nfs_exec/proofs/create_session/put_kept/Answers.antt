use Rattle.std.proofs.Common.{sym, subst}
use Rattle.nfs_clients.specs.declared.created.CreateResult.{CreateResult}
use Rattle.nfs_exec.specs.{Step.View.Does}
use Rattle.nfs_exec.specs.Step.Parts.{repeated}
use Rattle.nfs_exec.proofs.create_session.put_kept.Goals as goal

pub returns-in-Refused : goal.returns-in-Refused
returns-in-Refused c = λ m. subst (λ (kept : CreateResult). Does (repeated m kept) c.put_refusal.result m c.args.out.now c.put_refusal.new.out)
    (sym c.in-Refused.is) (c.put_refusal.ensures m)
