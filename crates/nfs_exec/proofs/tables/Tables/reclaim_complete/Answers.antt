use Rattle.std.proofs.Common.{◌∙◌, sym, subst, length, ◌≤◌}
use Rattle.nfs_results.specs.{declared.res.Res.Res, Results.spell_result, ResultCodec.IsBounded}
use Rattle.nfs_xdr.specs.declared.status.Status.TheVariants.{CompleteAlready}
use Rattle.nfs_exec.specs.Step.Machine.{machine_of}
use Rattle.nfs_exec.proofs.{Step.RefusalsFit.{refusal_bounded, refusal_short}, Step.Behind.{current_bears, reclaimed_short}}
use Rattle.nfs_exec.proofs.tables.Tables.reclaim_complete.Goals as goal

pub returns-in-Ok-clause-short : goal.returns-in-Ok-clause-short
returns-in-Ok-clause-short c = reclaimed_short

pub returns-in-Err-clause-bounds : goal.returns-in-Err-clause-bounds
returns-in-Err-clause-bounds c =
    let m = machine_of c.args.self.now in
    subst IsBounded (sym c.refused.ensures)
    (refusal_bounded 58 c.in-Err.status (current_bears m.store c.args.context.now c.in-Err.status (sym c.current.ensures ∙ c.in-Err.is)))

pub returns-in-Err-clause-short : goal.returns-in-Err-clause-short
returns-in-Err-clause-short c = subst (λ (r : Res). length (spell_result r) ≤ 12) (sym c.refused.ensures) (refusal_short 58 c.in-Err.status)

pub returns-then-reclaimed-clause-short : goal.returns-then-reclaimed-clause-short
returns-then-reclaimed-clause-short c =
    subst (λ (r : Res). length (spell_result r) ≤ 12) (sym c.refused-then-reclaimed.ensures) (refusal_short 58 CompleteAlready)

pub returns-else-reclaimed-clause-short : goal.returns-else-reclaimed-clause-short
returns-else-reclaimed-clause-short c = reclaimed_short
