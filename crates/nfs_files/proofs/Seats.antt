-- What stateids are refused with.
use Rattle.std.proofs.Common.{◌≡◌, ℕ, Bool, true, false, cond, Option, Some, None, refl}
use Rattle.std.specs.Prelude.{Result, Ok, Err}
use Rattle.nfs_xdr.specs.{declared.status.Status.Status, Checks.first_fault}
use Rattle.nfs_xdr.specs.declared.status.Status.TheVariants as S
use Rattle.nfs_compound.specs.declared.stateid.Stateid.{Stateid}
use Rattle.nfs_opens.specs.{declared.stateid.StateId.StateId, declared.stateid.CurrentSeqid.CurrentSeqid, declared.stateid.CurrentSeqid.TheVariants.Any}
use Rattle.nfs_opens.specs.{declared.judging.Seat.Seat, declared.judging.Seat.TheVariants.{Anonymous, ReadBypass, Open, Lock}, declared.judging.Sort.Sort}
use Rattle.nfs_opens.specs.{declared.judging.Sort.TheVariants.{OpenOnly, LockOnly, Either}, declared.share.Share.Share}
use Rattle.nfs_opens.specs.{StateId.{is_current, with_seqid, is_anonymous, is_bypass}, Table.Table}
use Rattle.nfs_opens.specs.Judging.{judge_checks, special, judge, state_named}
use Rattle.nfs_names.specs.{declared.context.Context.Context, declared.node.Node.Node, State.State, Outcome.{passed, checked}}
use Rattle.nfs_opens.proofs.Terms.{seated, judge_named}
use Rattle.nfs_names.proofs.Refusing.{Refuses, refusal_by, all_refuse, err_refuses, ok_refuses, refuses_checked, refuses_then}
use Rattle.nfs_files.specs.{StateIds.{state_id, meant}, Bytes.{file_checks, seat, reading, writing, seat_checks, may_use}, Parts.{readable, writable}}
use Rattle.nfs_files.proofs.Passing.{if_passed_refuses}
use Rattle.nfs_files.proofs.InSteps.{may_use_is}

pub bad : {A : Type 0} → Refuses {A = A} (Err S.BadStateId)
bad = err_refuses S.BadStateId (refusal_by S.BadStateId refl)

pub by_bool : {A : Type 0} (b : Bool) (v w : Result A Status) → Refuses v → Refuses w → Refuses (cond b v w)
by_bool true v w h g = h
by_bool false v w h g = g

pub meant_refuses : (x : Context) (form : CurrentSeqid) (given : Stateid) → Refuses (meant x form given)
meant_refuses x form given =
    by_bool (is_current (state_id given)) _ _
    (by_bool _ _ _ bad (ok_refuses (with_seqid form (state_id x.stateid)))) (ok_refuses (state_id given))

special_refuses : (sort : Sort) (seat : Seat) → Refuses (special sort seat)
special_refuses Either seat = ok_refuses seat
special_refuses OpenOnly seat = bad
special_refuses LockOnly seat = bad

same_passed : (seat : Seat) (o : Option Status) → Refuses (passed seat o) → Refuses (seated seat o)
same_passed seat None h = h
same_passed seat (Some status) h = h

named_refuses : (t : Table) (id : StateId) (client : ℕ) (file : Option ℕ) (sort : Sort) → Refuses (judge_named client file sort id.seqid (state_named t id))
named_refuses t id client file sort = elim (state_named t id) as (λ o. Refuses (judge_named client file sort id.seqid o)) [
  | None ↦ bad
  | Some n ↦ same_passed n.seat (first_fault (judge_checks client file sort id.seqid n))
      (refuses_checked (Ok n.seat) (λ seat. judge_checks client file sort id.seqid n) (ok_refuses n.seat) (λ seat. refl))
]

pub judge_refuses : (t : Table) (id : StateId) (client : ℕ) (file : Option ℕ) (sort : Sort) → Refuses (judge t id client file sort)
judge_refuses t id client file sort =
    by_bool (is_anonymous id) _ _ (special_refuses sort Anonymous)
    (by_bool (is_bypass id) _ _ (special_refuses sort ReadBypass) (named_refuses t id client file sort))

pub seat_refuses : (s : State) (x : Context) (given : Stateid) (d : Node) → Refuses (seat s x given d)
unfolding seat
seat_refuses s x given d = refuses_then (meant x Any given) _ (meant_refuses x Any given) (λ id. judge_refuses s.opens id x.client (Some d.number) Either)

pub may_use_refuses : (s : State) (x : Context) (wanted : Share) (given : Stateid) (d : Node) → Refuses (may_use s x wanted given d)
may_use_refuses s x wanted given d =
    rw (may_use_is s x wanted given d)
    (refuses_checked (seat s x given d) (seat_checks s x wanted d) (seat_refuses s x given d) each)
  where
    each : (k : Seat) → all_refuse (seat_checks s x wanted d k) ≡ true
    each Anonymous = refl
    each ReadBypass = refl
    each (Open number access) = refl
    each (Lock number access) = refl

pub readable_refuses : (s : State) (x : Context) (given : Stateid) (v : Result Node Status) → Refuses v → Refuses (readable s x given v)
unfolding readable
readable_refuses s x given v h =
    if_passed_refuses (checked v file_checks) (may_use s x reading given) (refuses_checked v file_checks h (λ d. refl)) (may_use_refuses s x reading given)

pub writable_refuses : (s : State) (x : Context) (given : Stateid) (v : Result Node Status) → Refuses v → Refuses (writable s x given v)
unfolding writable
writable_refuses s x given v h =
    if_passed_refuses (checked v file_checks) (may_use s x writing given) (refuses_checked v file_checks h (λ d. refl)) (may_use_refuses s x writing given)
