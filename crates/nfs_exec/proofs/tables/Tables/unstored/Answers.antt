use Rattle.std.proofs.Common.{◌≡◌, ◌∙◌, false, ap, sym, subst, refl, length, ◌≤◌}
use Rattle.nfs_compound.specs.{Request.item_number, declared.op.Item.TheVariants.Operation}
use Rattle.nfs_results.specs.{declared.res.Res.Res, Results.{spell_result, refusal}, ResultCodec.IsBounded}
use Rattle.nfs_exec.specs.{Step.Machine.{with_result, machine_of}, Step.Place.status_behind, Step.Behind.Step}
use Rattle.nfs_exec.proofs.{Step.RefusalsFit.{behind_bears, refusal_bounded, refusal_short}, Step.Behind.other_stays}
use Rattle.nfs_exec.proofs.tables.Tables.unstored.Goals as goal

pub returns-in_default : goal.returns-in_default
returns-in_default c =
    let m = machine_of c.args.self.now in
    let i = Operation c.args.op.now in
    let is : c.refusal.result ≡ refusal (item_number i) (status_behind i) =
    c.refusal.ensures ∙ ap (λ n. refusal n c.status_behind.result) c.number.ensures ∙ ap (refusal (item_number i)) c.status_behind.ensures in
    record {
      outcome = ap (with_result m) is ∙ sym (ap (λ (s : Step). s.outcome) (other_stays m c.args.context.now c.args.op.now c.in_default.not-ReclaimComplete));
      bounds = subst IsBounded (sym is) (refusal_bounded (item_number i) (status_behind i) (behind_bears i false c.requires.bears));
      short = subst (λ (r : Res). length (spell_result r) ≤ 12) (sym is) (refusal_short (item_number i) (status_behind i));
      store = refl;
    }
