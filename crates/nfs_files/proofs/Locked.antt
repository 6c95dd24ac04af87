-- What LOCK comes to where the table of opens refused it.
use Rattle.std.proofs.Common.{◌≡◌, true, refl, sym, ◌∙◌, ap, subst}
use Rattle.std.specs.Prelude.{Result, Err}
use Rattle.nfs_xdr.specs.{SheetState.{SheetState, Puts}, declared.status.Status.Status}
use Rattle.nfs_xdr.specs.declared.status.Status.TheVariants as S
use Rattle.nfs_compound.specs.declared.op_num.OpNum.TheVariants as Num
use Rattle.nfs_results.specs.{declared.res.Res.Res, Results.{spell_result, status_of_result}}
use Rattle.nfs_ranges.specs.declared.Held.{Held}
use Rattle.nfs_opens.specs.{declared.stateid.StateId.StateId, declared.locking.OpenFault.OpenFault, Table.Table, Calls.LocksOrWants}
use Rattle.nfs_opens.specs.declared.locking.OpenFault.TheVariants as F
use Rattle.nfs_opens.proofs.CallLaws.{refused_is}
use Rattle.nfs_names.specs.{declared.context.Context.Context, State.State, Comes.Comes, Outcome.{Outcome, refuses, or_lack, is_lack}, Ending.with_opens}
use Rattle.nfs_files.specs.{Denied.lock_denied, Lock.locked}
use Rattle.nfs_files.proofs.Refused.{told_with, refused_outcome, lock_tells, ok_locked, own_refusal}

comes : (s : State) (x : Context) (o : Outcome) (answer : Status) (r : Res) (old new : SheetState) (after : Table)
    → told_with s x r after ≡ o → Puts old new (spell_result r) → answer ≡ status_of_result r → Comes o old new answer (with_opens s after) x
comes s x o answer r old new after same put status =
    subst (λ o. Comes o old new answer (with_opens s after) x) same (record { put = put; status = status; state = refl; context = refl })

-- what is known of an answer is known of what it was found to be
by_answer : (t : Table) (did : Result (StateId × Table) OpenFault) (v w : Result StateId OpenFault) (after : Table)
    → v ≡ w → LocksOrWants t did v after → LocksOrWants t did w after
by_answer t did v w after e tells = subst (λ v. LocksOrWants t did v after) e tells

pub refused_comes : (s : State) (x : Context) (did : Result (StateId × Table) OpenFault) (status answer : Status) (old new : SheetState) (after : Table)
    → (v : Result StateId OpenFault) → v ≡ Err (F.Refused status) → LocksOrWants s.opens did v after
    → Puts old new (spell_result (Res.Refused 12 status)) → answer ≡ status
    → Comes (or_lack (is_lack answer) s x Num.Lock (locked s x did)) old new answer (with_opens s after) x
refused_comes s x did status answer old new after v found known put is =
    let tells = by_answer s.opens did v (Err (F.Refused status)) after found known in
    let o = locked s x did in
    subst (λ a. Comes (or_lack (is_lack a) s x Num.Lock o) old new a (with_opens s after) x) (sym is)
    (comes s x (or_lack (is_lack status) s x Num.Lock o) status (Res.Refused 12 status) old new after
    (refused_outcome s x Num.Lock true did (locked s x) (F.Refused status) (Res.Refused 12 status) after
    (ok_locked s x) refl refl refl (lock_tells s.opens did after (F.Refused status) tells)) put refl)

pub denied_comes : (s : State) (x : Context) (did : Result (StateId × Table) OpenFault) (held : Held) (answer : Status) (old new : SheetState) (after : Table)
    → (v : Result StateId OpenFault) → v ≡ Err (F.Denied held) → LocksOrWants s.opens did v after
    → Puts old new (spell_result (Res.LockDenied (lock_denied after held))) → answer ≡ S.Denied
    → Comes (or_lack (is_lack answer) s x Num.Lock (locked s x did)) old new answer (with_opens s after) x
denied_comes s x did held answer old new after v found known put is =
    let tells = by_answer s.opens did v (Err (F.Denied held)) after found known in
    let no = refused_is s.opens did (F.Denied held) tells.0 in
    let o = locked s x did in
    subst (λ a. Comes (or_lack (is_lack a) s x Num.Lock o) old new a (with_opens s after) x) (sym is)
    (comes s x o S.Denied (Res.LockDenied (lock_denied after held)) old new after
    (ap (λ t. told_with s x (Res.LockDenied (lock_denied t held)) t) (tells.1 ∙ no.1) ∙ sym (ap (locked s x) no.0)) put refl)

-- and where its own checks did
pub not_locked : (s : State) (x : Context) (o : Outcome) (status answer : Status) (old new : SheetState) → o ≡ refuses s x Num.Lock status
    → Puts old new (spell_result (Res.Refused 12 status)) → answer ≡ status → Comes (or_lack (is_lack answer) s x Num.Lock o) old new answer s x
not_locked s x o status answer old new same put is =
    rw (is, same) (subst (λ (o : Outcome). Comes o old new status s x) (sym (own_refusal true s x Num.Lock status (refuses s x Num.Lock status) refl))
    (record { put = put; status = refl; state = refl; context = refl }))
