-- CLOSE, FREE_STATEID, LOCKU and OPEN_DOWNGRADE: the results that they may have.
use Rattle.std.proofs.Common.{ℕ, Some, None, refl}
use Rattle.std.specs.Prelude.{Result, Ok, ok_or, not}
use Rattle.nfs_xdr.specs.{Spelling.number, declared.status.Status.Status}
use Rattle.nfs_xdr.specs.declared.status.Status.TheVariants as S
use Rattle.nfs_compound.specs.declared.op_num.OpNum.TheVariants as Num
use Rattle.nfs_compound.specs.{declared.stateid.Stateid.Stateid, declared.open_args.Close.Close, declared.open_args.OpenDowngrade.OpenDowngrade}
use Rattle.nfs_compound.specs.{declared.lock_args.LockType.LockType, declared.lock_args.LockU.LockU, declared.op.Item.TheVariants.Operation}
use Rattle.nfs_compound.specs.declared.op.Op.TheVariants as Op
use Rattle.nfs_results.specs.declared.res.Res.TheVariants as Res
use Rattle.nfs_ranges.specs.Holders.{holds_any}
use Rattle.nfs_opens.specs.{declared.share.Share.Share, declared.stateid.StateId.StateId, declared.stateid.CurrentSeqid.CurrentSeqid}
use Rattle.nfs_opens.specs.{declared.stateid.CurrentSeqid.TheVariants.{Own, Any}, declared.judging.Seat.Seat}
use Rattle.nfs_opens.specs.{declared.judging.Sort.TheVariants.{OpenOnly, LockOnly, Either}, declared.locking.Wish.Wish, Steps.{require}}
use Rattle.nfs_opens.specs.{Table.{Table, open_at, lock_at}, Judging.judge}
use Rattle.nfs_opens.specs.declared.judging.Seat.TheVariants as Seats
use Rattle.nfs_files.specs.{declared.{ranges.Wished.Wished, target.Target.Target}, StateIds.meant}
use Rattle.nfs_files.specs.Bytes.{file_checks}
use Rattle.nfs_files.specs.{Target.the_file, Ranges.{range, wished}, Close.close, Parts.{target, wish, wished_by, closed, closes}}
use Rattle.nfs_files.specs.{FreeStateid.free_stateid, LockU.lock_u, Parts.{frees, unlocking, unlocked, unlocks}}
use Rattle.nfs_files.specs.{OpenDowngrade.{bits, open_downgrade}, Parts.{bit_checks, narrowing, narrowed, narrows}}
use Rattle.nfs_opens.specs.Closing as closing
use Rattle.nfs_opens.specs.Opening as opening
use Rattle.nfs_opens.specs.Locking as locking
use Rattle.nfs_names.specs.{declared.context.Context.Context, State.State, Outcome.done, Checks.current, Ending.with_opens}
use Rattle.nfs_names.proofs.{Bounds.IsAnswer, NameLaws.current_refuses}
use Rattle.nfs_names.proofs.Refusing.{Refuses, refusal_by, refuses_checked, refuses_mapped, refuses_then, there_refuses, held_refuses, answers_with, err_refuses, ok_refuses}
use Rattle.nfs_files.proofs.{Passing.if_passed_refuses, Seats.{bad, meant_refuses, judge_refuses}}
use Rattle.nfs_files.proofs.InSteps.{file_is, close_is, free_is, downgrade_is, range_is, wished_is, unlock_is}
use Rattle.nfs_files.proofs.Terms.{range_checks, last_of}
use Rattle.nfs_files.proofs.OpenAnswers.{wire_length}

-- the file and the stateid
pub the_file_refuses : (s : State) (x : Context) → Refuses (the_file s x)
the_file_refuses s x =
    rw (file_is s x)
    (refuses_checked (current s x) file_checks (current_refuses s x) (λ d. refl))

pub target_refuses : (s : State) (x : Context) (form : CurrentSeqid) (given : Stateid) → Refuses (target s x form given)
unfolding target
target_refuses s x form given = refuses_then (the_file s x) _ (the_file_refuses s x) (λ d.
    refuses_mapped (λ id. record { file = d.number; id = id }) (meant x form given) (meant_refuses x form given))

-- what the table of opens refuses
lock_in_refuses : (seat : Seat) → Refuses (closing.lock_in seat)
lock_in_refuses Seats.Anonymous = bad
lock_in_refuses Seats.ReadBypass = bad
lock_in_refuses (Seats.Open number access) = err_refuses S.LocksHeld (refusal_by S.LocksHeld refl)
lock_in_refuses (Seats.Lock number access) = ok_refuses number

pub close_refuses : (t : Table) (id : StateId) (client file : ℕ) → Refuses (closing.close t id client file)
close_refuses t id client file =
    refuses_then (judge t id client (Some file) OpenOnly) _ (judge_refuses t id client (Some file) OpenOnly) (λ seat. ok_refuses _)

pub free_refuses : (t : Table) (id : StateId) (client : ℕ) → Refuses (closing.free t id client)
free_refuses t id client =
    refuses_then (judge t id client None Either) _ (judge_refuses t id client None Either) (λ seat.
    refuses_then (closing.lock_in seat) _ (lock_in_refuses seat) (λ n.
    refuses_then (ok_or (lock_at t n) S.BadStateId) _ (there_refuses (lock_at t n) S.BadStateId refl) (λ l.
    refuses_then (require (not (holds_any (t.held l.file) n)) S.LocksHeld) _ (held_refuses _ S.LocksHeld refl) (λ u.
    ok_refuses _))))

pub downgrade_refuses : (t : Table) (id : StateId) (client file : ℕ) (access deny : Share) → Refuses (opening.downgrade t id client file access deny)
downgrade_refuses t id client file access deny =
    refuses_then (judge t id client (Some file) OpenOnly) _ (judge_refuses t id client (Some file) OpenOnly) (λ seat.
    refuses_then (ok_or (open_at t id.number) S.BadStateId) _ (there_refuses (open_at t id.number) S.BadStateId refl) (λ o.
    refuses_then (require (opening.is_narrower access deny o) S.Inval) _ (held_refuses _ S.Inval refl) (λ u.
    ok_refuses _)))

-- CLOSE
closes_may : (s : State) (x : Context) (a : Close) (t : Target) → IsAnswer (Operation (Op.Close a)) (closes s x t).result
closes_may s x a t =
    answers_with (IsAnswer (Operation (Op.Close a))) s x Num.Close (closing.close s.opens t.id x.client t.file) (λ did. closed s x t.file did.1)
    (close_refuses s.opens t.id x.client t.file)
    (λ status h. record { may = (refl, rw (h.done, h.legal) refl, tt); arrays = tt })
    (λ did. record { may = (refl, tt, tt); arrays = refl })

pub may_close : (s : State) (x : Context) (a : Close) → IsAnswer (Operation (Op.Close a)) (close s x a).result
may_close s x a =
    rw (close_is s x a)
    (answers_with (IsAnswer (Operation (Op.Close a))) s x Num.Close (target s x Own a.open_stateid) (closes s x) (target_refuses s x Own a.open_stateid)
    (λ status h. record { may = (refl, rw (h.done, h.legal) refl, tt); arrays = tt })
    (λ t. closes_may s x a t))

-- FREE_STATEID
frees_may : (s : State) (x : Context) (given : Stateid) (id : StateId) → IsAnswer (Operation (Op.FreeStateid given)) (frees s x id).result
frees_may s x given id =
    answers_with (IsAnswer (Operation (Op.FreeStateid given))) s x Num.FreeStateid (closing.free s.opens id x.client)
    (λ did. done (with_opens s did.1) x Res.FreeStateid) (free_refuses s.opens id x.client)
    (λ status h. record { may = (refl, rw (h.done, h.legal) refl, tt); arrays = tt })
    (λ did. record { may = (refl, tt, tt); arrays = tt })

pub may_free : (s : State) (x : Context) (given : Stateid) → IsAnswer (Operation (Op.FreeStateid given)) (free_stateid s x given).result
may_free s x given =
    rw (free_is s x given)
    (answers_with (IsAnswer (Operation (Op.FreeStateid given))) s x Num.FreeStateid (meant x Any given) (frees s x) (meant_refuses x Any given)
    (λ status h. record { may = (refl, rw (h.done, h.legal) refl, tt); arrays = tt })
    (λ id. frees_may s x given id))

-- OPEN_DOWNGRADE
narrows_may : (s : State) (x : Context) (a : OpenDowngrade) (t : Target) → IsAnswer (Operation (Op.OpenDowngrade a)) (narrows s x a t).result
narrows_may s x a t =
    answers_with (IsAnswer (Operation (Op.OpenDowngrade a))) s x Num.OpenDowngrade
    (opening.downgrade s.opens t.id x.client t.file (bits a.share_access) (bits a.share_deny)) (λ did. narrowed s x did.0 did.1)
    (downgrade_refuses s.opens t.id x.client t.file (bits a.share_access) (bits a.share_deny))
    (λ status h. record { may = (refl, rw (h.done, h.legal) refl, tt); arrays = tt })
    (λ did. record { may = (refl, tt, tt); arrays = wire_length did.0 })

pub narrowing_refuses : (s : State) (x : Context) (a : OpenDowngrade) → Refuses (narrowing s x a)
narrowing_refuses s x a = if_passed_refuses (target s x Own a.open_stateid) (λ t. _) (target_refuses s x Own a.open_stateid)
    (λ t. refuses_checked (judge s.opens t.id x.client (Some t.file) OpenOnly) (bit_checks a)
    (judge_refuses s.opens t.id x.client (Some t.file) OpenOnly) (λ seat. refl))

pub may_downgrade : (s : State) (x : Context) (a : OpenDowngrade) → IsAnswer (Operation (Op.OpenDowngrade a)) (open_downgrade s x a).result
may_downgrade s x a =
    rw (downgrade_is s x a)
    (answers_with (IsAnswer (Operation (Op.OpenDowngrade a))) s x Num.OpenDowngrade (narrowing s x a) (narrows s x a)
    (narrowing_refuses s x a)
    (λ status h. record { may = (refl, rw (h.done, h.legal) refl, tt); arrays = tt })
    (λ t. narrows_may s x a t))

-- LOCKU
range_refuses : (offset size : ℕ) → Refuses (range offset size)
range_refuses offset size =
    rw (range_is offset size)
    (refuses_checked (Ok (last_of offset size)) (λ last. range_checks offset size) (ok_refuses (last_of offset size)) (λ last. refl))

pub wished_refuses : (s : State) (x : Context) (how : LockType) (offset size : ℕ) → Refuses (wished s x how offset size)
wished_refuses s x how offset size =
    rw (wished_is s x how offset size)
    (refuses_then (the_file s x) _ (the_file_refuses s x) (λ d.
    refuses_mapped (λ last. wish x how offset last d.number) (range offset size) (range_refuses offset size)))

pub wished_by_refuses : (x : Context) (given : Stateid) (v : Result Wish Status) → Refuses v → Refuses (wished_by x given v)
wished_by_refuses x given v h = refuses_then v _ h (λ w.
    refuses_mapped (λ id. record { wish = w; id = id }) (meant x Any given) (meant_refuses x Any given))

pub unlock_refuses : (t : Table) (id : StateId) (client file first last : ℕ) → Refuses (locking.unlock t id client file first last)
unlock_refuses t id client file first last =
    refuses_then (judge t id client (Some file) LockOnly) _ (judge_refuses t id client (Some file) LockOnly) (λ seat.
    refuses_then (ok_or (lock_at t id.number) S.BadStateId) _ (there_refuses (lock_at t id.number) S.BadStateId refl) (λ l. ok_refuses _))

unlocks_may : (s : State) (x : Context) (a : LockU) (k : Wished) → IsAnswer (Operation (Op.LockU a)) (unlocks s x k).result
unlocks_may s x a k =
    let w = k.wish in
    answers_with (IsAnswer (Operation (Op.LockU a))) s x Num.LockU (locking.unlock s.opens k.id w.client w.file w.first w.last)
    (λ did. unlocked s x did.0 did.1)
    (unlock_refuses s.opens k.id w.client w.file w.first w.last)
    (λ status h. record { may = (refl, rw (h.done, h.legal) refl, tt); arrays = tt })
    (λ did. record { may = (refl, tt, tt); arrays = wire_length did.0 })

pub may_lock_u : (s : State) (x : Context) (a : LockU) → IsAnswer (Operation (Op.LockU a)) (lock_u s x a).result
may_lock_u s x a =
    rw (unlock_is s x a)
    (answers_with (IsAnswer (Operation (Op.LockU a))) s x Num.LockU (unlocking s x a) (unlocks s x)
    (wished_by_refuses x a.lock_stateid (wished s x a.locktype a.offset a.length) (wished_refuses s x a.locktype a.offset a.length))
    (λ status h. record { may = (refl, rw (h.done, h.legal) refl, tt); arrays = tt })
    (unlocks_may s x a))
