use Rattle.nfs_opens.specs.{declared.locking.OpenFault.TheVariants.Refused, Table.table, Locking.unlock, Calls.is_whole, Steps.map_err}
use Rattle.nfs_names.specs.{Ending.with_opens, State.state_of, Outcome.{or_lack, is_lack}}
use Rattle.nfs_compound.specs.declared.stateid.Stateid.{Stateid}
use Rattle.nfs_files.specs.{Denied.open_fault_status, Target.with_stateid, Parts.unlocks}
use Rattle.nfs_xdr.specs.declared.status.Status.TheVariants.{Nfs4Ok}
use Rattle.std.proofs.Common.{ap, ◌∙◌, sym, refl, not}
use Rattle.std.specs.Prelude.{◌&&◌}
use Rattle.nfs_compound.specs.declared.op_num.OpNum.TheVariants as Num
use Rattle.nfs_results.specs.{declared.res.Res.Res, Results.status_of_result}
use Rattle.nfs_files.proofs.Refused.{refused_outcome, unlock_tells, unlocked_by, unlocked_is, ok_unlocked, granted_outcome}
use Rattle.nfs_files.proofs.locking.give_up.Goals as goal

pub returns-in-Err : goal.returns-in-Err
returns-in-Err c =
    let s = state_of c.args.store.now in
    let x = c.args.context.now in
    let k = c.args.wished.now in
    let w = k.wish in
    let whole = is_whole w.first w.last in
    let said = unlock s.opens k.id w.client w.file w.first w.last in
    let did = map_err Refused said in
    let is = c.refuse.ensures ∙ ap (Res.Refused 14) c.status_of.ensures in
    refused_outcome s x Num.LockU (not whole) did (unlocked_by s x) c.in-Err.fault _ _ (ok_unlocked s x) refl refl is
    (unlock_tells s.opens whole did _ c.in-Err.fault c.in-Err.ensures.unlocks)
    ∙ ap (or_lack (not whole && is_lack (open_fault_status c.in-Err.fault)) s x Num.LockU) (unlocked_is s x said)
    ∙ sym (ap (λ (r : Res). or_lack (not whole && is_lack (status_of_result r)) s x Num.LockU (unlocks s x k)) is)

pub returns-in-Ok : goal.returns-in-Ok
returns-in-Ok c =
    let s = state_of c.args.store.now in
    let x = c.args.context.now in
    let k = c.args.wished.now in
    let w = k.wish in
    let grows = not (is_whole w.first w.last) in
    let said = unlock s.opens k.id w.client w.file w.first w.last in
    let did = map_err Refused said in
    ap (λ (w : Stateid). record { result = Res.LockU w; state = with_opens s (table c.unlock.new.self); context = with_stateid x w }) c.wire_id-id.ensures
    ∙ granted_outcome grows s x did c.in-Ok.id _ c.in-Ok.ensures.unlocks.0 c.in-Ok.ensures.unlocks.1
    ∙ ap (or_lack (grows && is_lack Nfs4Ok) s x Num.LockU) (unlocked_is s x said)
