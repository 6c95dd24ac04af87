use Rattle.std.proofs.Common.{sym, ap, ◌∙◌, subst}
use Rattle.nfs_results.specs.Results.{refusal}
use Rattle.nfs_exec.specs.{Step.View.IsSmall, Step.Machine.machine_of}
use Rattle.nfs_exec.proofs.{Step.RefusalsFit.{session_done_small, destroy_session_small}, Step.Destroying.no_session}
use Rattle.nfs_exec.proofs.tables.Tables.destroy_session.Goals as goal

pub returns-then-destroy-clause-size : goal.returns-then-destroy-clause-size
returns-then-destroy-clause-size c = session_done_small

pub returns-clause-outcome : goal.returns-clause-outcome
returns-clause-outcome c = no_session (machine_of c.args.self.now) c.args.sessionid.now c.from_bytes.result c.destroy.new.self _
    c.from_bytes.ensures.read c.if-destroy.ensures.stood c.if-destroy.ensures.gone (c.refusal.ensures ∙ ap (λ n. refusal n _) c.number.ensures)

pub returns-clause-size : goal.returns-clause-size
returns-clause-size c = subst IsSmall (sym (c.refusal.ensures ∙ ap (λ n. refusal n _) c.number.ensures)) destroy_session_small
