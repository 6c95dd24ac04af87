use Rattle.std.proofs.Common.{refl, ap, sym, subst, ◌∙◌}
use Rattle.nfs_xdr.specs.Caller.{caller}
use Rattle.nfs_compound.specs.{declared.op.Item.Item, declared.op.Item.TheVariants.Fault}
use Rattle.nfs_results.specs.{ResultCodec.IsBounded, Results.status_of_result}
use Rattle.nfs_names.specs.Outcome.{is_lack}
use Rattle.nfs_exec.specs.{Step.Machine.{with_result, machine_of}, Step.Compound.first_item, Step.View.{IsSmall, CanBear, Does}}
use Rattle.nfs_exec.proofs.{Step.RefusalsFit.place_small, Step.AloneResults.{small_fits, put_does, misplaced}}
use Rattle.nfs_exec.proofs.tables.Tables.alone.Goals as goal

pub write-requires : goal.write-requires
write-requires c =
    let i = Fault c.in-Fault.number c.in-Fault.status in
    let small = place_small i c.args.declared c.in-Fault.status (subst CanBear c.in-Fault.is c.requires.bears) refl in
    record {
      bounds = subst IsBounded (sym c.refusal-res.ensures) small.0;
      room = small_fits c.args.out.now c.refusal-res.result c.requires.room (subst IsSmall (sym c.refusal-res.ensures) small);
    }

pub returns-in-Fault : goal.returns-in-Fault
returns-in-Fault c =
    let m = machine_of c.args.self.now in
    let i = Fault c.in-Fault.number c.in-Fault.status in
    let who = caller c.args.who.now in
    let r = c.refusal-res.result in
    subst (λ (k : Item). Does (first_item m c.args.declared who c.args.now (is_lack c.status.result) k) c.status.result m c.args.out.now c.write.new.out)
    (sym c.in-Fault.is) (put_does m m c.args.declared who c.args.now i r c.status.result c.args.out.now c.write.new.out
    (ap (with_result m) c.refusal-res.ensures ∙ misplaced m c.args.declared who c.args.now (is_lack (status_of_result r)) i c.in-Fault.status refl)
    c.status.ensures c.write.ensures)
