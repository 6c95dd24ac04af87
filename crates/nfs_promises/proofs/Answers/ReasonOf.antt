-- The reason of a status that an operation was answered.
use Rattle.std.proofs.Common.{◌≡◌, false, ◌∙◌, ap, subst}
use Rattle.nfs_xdr.specs.declared.status.Status.{Status}
use Rattle.nfs_compound.specs.declared.op.{Item.TheVariants.Operation, Op.Op}
use Rattle.nfs_names.specs.Outcome.{is_ok}
use Rattle.nfs_exec.specs.Runs.Ops.{RanOp}
use Rattle.nfs_exec.proofs.Runs.OneRun.{IsRun}
use Rattle.nfs_promises.specs.Answers.Reasons.{IsSaid, Reason, SaysSo, is_cut}
use Rattle.nfs_promises.proofs.{Answers.Reasons.answered, Locks.OneStateEach.HasOneEach}

pub reason_of : (d : RanOp) → IsRun d → HasOneEach d.before.store.opens → (op : Op) → d.item ≡ Operation op → (f : Status) → d.status ≡ f → is_cut d.before.store (Operation op) f ≡ false → is_ok f ≡ false
    → Reason d.before.store d.context (Operation op) f
reason_of d r each op is f status cut fails =
    let said : IsSaid d op = subst (SaysSo d) is (answered d r each) in
    subst (Reason d.before.store d.context (Operation op)) status ((said.answered (ap (is_cut d.before.store (Operation op)) status ∙ cut)).refused (ap is_ok status ∙ fails))
