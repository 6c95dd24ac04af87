use Rattle.std.proofs.Common.{refl, sym, ◌∙◌, ap, subst}
use Rattle.nfs_xdr.specs.Caller.{caller}
use Rattle.nfs_xdr.specs.declared.status.Status.TheVariants.{StaleClientId, SeqMisordered, ClidInUse}
use Rattle.nfs_clients.specs.CreateSession.{Stale, Misordered, InUse, create_verdict}
use Rattle.nfs_names.specs.Outcome.{is_lack}
use Rattle.nfs_exec.specs.{Step.Machine.{MachineOutcome, machine_of}, Step.View.Does}
use Rattle.nfs_exec.specs.Step.Parts.{by_number}
use Rattle.nfs_exec.proofs.{Step.Creating.refused_call, Step.InSteps.create_session_is}
use Rattle.nfs_exec.proofs.tables.Tables.create_session.Goals as goal
use Rattle.nfs_exec.proofs.tables.Tables.create_session.Goals.{in-Stale, in-Misordered, in-InUse}

pub returns-in-Runs : goal.returns-in-Runs
returns-in-Runs c =
    let m = machine_of c.args.self.now in
    let refused = is_lack c.make_session.result in
    subst (λ (o : MachineOutcome). Does o c.make_session.result (machine_of c.make_session.new.self) c.args.out.now c.make_session.new.out)
    (ap (by_number m c.args.now refused c.args.asked.now) c.in-Runs.ensures ∙ sym (create_session_is m (caller c.args.who.now) c.args.now refused c.args.asked.now))
    c.make_session.ensures

pub returns-in-Again : goal.returns-in-Again
returns-in-Again c =
    let m = machine_of c.args.self.now in
    let refused = is_lack c.put_kept.result in
    subst (λ (o : MachineOutcome). Does o c.put_kept.result m c.args.out.now c.put_kept.new.out)
    (ap (by_number m c.args.now refused c.args.asked.now) c.in-Again.ensures ∙ sym (create_session_is m (caller c.args.who.now) c.args.now refused c.args.asked.now))
    (c.put_kept.ensures m)

pub returns : goal.returns
returns c =
    let m = machine_of c.args.self.now in
    let asked = c.args.asked.now in
    let verdict = create_verdict m.clients asked.clientid asked.sequence c.args.who.now.uid in
    subst (λ (o : MachineOutcome). Does o c.put_refusal.result (machine_of c.match-create_judge.self) c.args.out.now c.put_refusal.new.out)
    (sym (create_session_is m (caller c.args.who.now) c.args.now (is_lack c.put_refusal.result) asked)) (elim c.match-create_judge.branch [
      | in-Stale w ↦ refused_call m c.args.now _ asked verdict Stale _ StaleClientId c.put_refusal.result _ c.args.out.now
          c.put_refusal.new.out w.in-Stale.ensures refl w.status-is (ap machine_of w.self-is) c.put_refusal.ensures
      | in-Misordered w ↦ refused_call m c.args.now _ asked verdict Misordered _ SeqMisordered c.put_refusal.result _
          c.args.out.now c.put_refusal.new.out w.in-Misordered.ensures refl w.status-is (ap machine_of w.self-is) c.put_refusal.ensures
      | in-InUse w ↦ refused_call m c.args.now _ asked verdict InUse _ ClidInUse c.put_refusal.result _ c.args.out.now
          c.put_refusal.new.out w.in-InUse.ensures refl w.status-is (ap machine_of w.self-is) c.put_refusal.ensures
    ])
