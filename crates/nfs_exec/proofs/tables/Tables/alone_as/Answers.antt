use Rattle.std.proofs.Common.{refl, ap, sym, subst, ◌∙◌}
use Rattle.nfs_xdr.specs.{Caller.caller, declared.status.Status.TheVariants.NotSupp}
use Rattle.nfs_compound.specs.{Request.item_number, declared.op.Item.TheVariants.Operation}
use Rattle.nfs_results.specs.{declared.res.Res.Res, Results.{refusal, status_of_result}, ResultCodec.IsBounded}
use Rattle.nfs_compound.specs.declared.op.Op.TheVariants as Op
use Rattle.nfs_names.specs.Outcome.{is_lack}
use Rattle.nfs_exec.specs.{Step.Machine.{Machine, with_result, machine_of}, Step.View.IsSmall}
use Rattle.nfs_exec.proofs.Step.RefusalsFit.{place_small, rest_small}
use Rattle.nfs_exec.proofs.Step.AloneResults.{small_fits, put_does, misplaced, branch_done, not_carried}
use Rattle.nfs_exec.proofs.tables.Tables.alone_as.Goals as goal
use Rattle.nfs_exec.proofs.tables.Tables.alone_as.Goals.{in-Some, in-None+in-DestroySession, in-None+in-DestroyClientId, in-None+in_default}

pub write-requires-clause-bounds : goal.write-requires-clause-bounds
write-requires-clause-bounds c = elim c.match-place_fault.branch [
  | in-Some w ↦ (
      let same = w.refusal-res.ensures ∙ ap (λ n. refusal n w.in-Some.status) w.number.ensures in
      subst (λ (r : Res). IsBounded r) (sym w.res-is) (subst IsBounded (sym same)
      (place_small (Operation c.args.op.now) c.args.declared w.in-Some.status c.requires.bears (sym c.place_fault.ensures ∙ w.in-Some.is)).0)
      )
  | in-None+in-DestroySession w ↦ subst (λ (r : Res). IsBounded r) (sym w.res-is) w.destroy_session.ensures.size.0
  | in-None+in-DestroyClientId w ↦ subst (λ (r : Res). IsBounded r) (sym w.res-is) w.destroy_client.ensures.size.0
  | in-None+in_default w ↦ (
      let same = w.refusal.ensures ∙ ap (λ n. refusal n NotSupp) w.number-in_default.ensures in
      subst (λ (r : Res). IsBounded r) (sym w.res-is)
      (subst IsBounded (sym same) (rest_small (Operation c.args.op.now) c.args.declared (sym c.place_fault.ensures ∙ w.in-None.is)).0)
      )
]

pub write-requires-clause-room : goal.write-requires-clause-room
write-requires-clause-room c = small_fits c.args.out.now c.match-place_fault.res c.requires.room (elim c.match-place_fault.branch [
  | in-Some w ↦ (
      let same = w.refusal-res.ensures ∙ ap (λ n. refusal n w.in-Some.status) w.number.ensures in
      subst (λ (r : Res). IsSmall r) (sym w.res-is) (subst IsSmall (sym same)
      (place_small (Operation c.args.op.now) c.args.declared w.in-Some.status c.requires.bears (sym c.place_fault.ensures ∙ w.in-Some.is)))
      )
  | in-None+in-DestroySession w ↦ subst (λ (r : Res). IsSmall r) (sym w.res-is) w.destroy_session.ensures.size
  | in-None+in-DestroyClientId w ↦ subst (λ (r : Res). IsSmall r) (sym w.res-is) w.destroy_client.ensures.size
  | in-None+in_default w ↦ (
      let same = w.refusal.ensures ∙ ap (λ n. refusal n NotSupp) w.number-in_default.ensures in
      subst (λ (r : Res). IsSmall r) (sym w.res-is)
      (subst IsSmall (sym same) (rest_small (Operation c.args.op.now) c.args.declared (sym c.place_fault.ensures ∙ w.in-None.is)))
      )
])

pub returns : goal.returns
returns c =
    let m = machine_of c.args.self.now in
    let i = Operation c.args.op.now in
    let who = caller c.args.who.now in
    let left = machine_of c.match-place_fault.self in
    let r = c.match-place_fault.res in
    put_does m left c.args.declared who c.args.now i r c.status.result c.args.out.now c.write.new.out
    (elim c.match-place_fault.branch [
      | in-Some w ↦ (
          let same = w.refusal-res.ensures ∙ ap (λ n. refusal n w.in-Some.status) w.number.ensures in
          ap (λ (k : Machine). with_result k r) (ap machine_of w.self-is) ∙ ap (with_result m) (w.res-is ∙ same)
          ∙ misplaced m c.args.declared who c.args.now (is_lack (status_of_result r)) i w.in-Some.status (sym c.place_fault.ensures ∙ w.in-Some.is)
          )
      | in-None+in-DestroySession w ↦ branch_done m left (machine_of w.destroy_session.new.self) c.args.declared who c.args.now i
          (Operation (Op.DestroySession w.in-DestroySession.sessionid)) r w.destroy_session.result (ap machine_of w.self-is) w.res-is
          (ap Operation w.in-DestroySession.is) (sym c.place_fault.ensures ∙ w.in-None.is) w.destroy_session.ensures.outcome
      | in-None+in-DestroyClientId w ↦ branch_done m left (machine_of w.destroy_client.new.self) c.args.declared who c.args.now i
          (Operation (Op.DestroyClientId w.in-DestroyClientId.clientid)) r w.destroy_client.result (ap machine_of w.self-is) w.res-is
          (ap Operation w.in-DestroyClientId.is) (sym c.place_fault.ensures ∙ w.in-None.is) w.destroy_client.ensures.outcome
      | in-None+in_default w ↦ (
          let same = w.refusal.ensures ∙ ap (λ n. refusal n NotSupp) w.number-in_default.ensures in
          branch_done m left m c.args.declared who c.args.now i i r (refusal (item_number i) NotSupp)
          (ap machine_of w.self-is) (w.res-is ∙ same) refl (sym c.place_fault.ensures ∙ w.in-None.is)
          (not_carried m who c.args.now _ c.args.op.now w.in_default.not-ExchangeId
          w.in_default.not-CreateSession w.in_default.not-DestroySession w.in_default.not-DestroyClientId)
          )
    ]) c.status.ensures c.write.ensures
