use Rattle.std.proofs.Common.{sym, ap, ◌∙◌, subst}
use Rattle.nfs_results.specs.Results.{refusal}
use Rattle.nfs_exec.specs.Step.View.{IsSmall}
use Rattle.nfs_exec.proofs.Step.RefusalsFit.{done_small, destroy_client_small}
use Rattle.nfs_exec.proofs.tables.Tables.destroy_client.Goals as goal

pub returns-in-Ok-clause-size : goal.returns-in-Ok-clause-size
returns-in-Ok-clause-size c = done_small

pub returns-in-Err-clause-size : goal.returns-in-Err-clause-size
returns-in-Err-clause-size c = subst IsSmall (sym (c.refusal.ensures ∙ ap (λ n. refusal n c.status.result) c.number.ensures))
    (subst (λ s. IsSmall (refusal 57 s)) (sym c.status.ensures) (destroy_client_small c.in-Err.fault))
