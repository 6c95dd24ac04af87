-- The operations on open files answer fails NFS4ERR_DELAY where memory is not refused.
use Rattle.std.proofs.Common.{◌≡◌, ℕ, Bool, true, false, cond, not, List, Option, Some, None, refl, ◌∙◌, ap}
use Rattle.std.specs.Prelude.{◌==◌, Result, Ok, Err, ok_or}
use Rattle.nfs_xdr.specs.{declared.time.Time.Time, declared.status.Status.Status}
use Rattle.nfs_xdr.specs.declared.status.Status.TheVariants.{BadStateId, NotSupp, OpenMode, ServerFault}
use Rattle.nfs_compound.specs.{Arguments.arguments, declared.lock_args.Lock.Lock, declared.lock_args.Locker.TheVariants.{LockOwner, OpenOwner}}
use Rattle.nfs_compound.specs.{declared.lock_args.Locker.Locker, OpNum.op_number, declared.stateid.Stateid.Stateid, declared.open_args.Close.Close}
use Rattle.nfs_compound.specs.{declared.open_args.OpenDowngrade.OpenDowngrade, declared.lock_args.LockU.LockU, declared.op.Op.Op}
use Rattle.nfs_compound.specs.declared.op_num.OpNum.TheVariants as Num
use Rattle.nfs_results.specs.Results.{status_of_result}
use Rattle.nfs_ranges.specs.declared.Held.{Held}
use Rattle.nfs_opens.specs.{declared.share.Share.Share, declared.stateid.StateId.StateId, declared.stateid.CurrentSeqid.TheVariants.{Any, Own}}
use Rattle.nfs_opens.specs.{declared.records.LockState.LockState, declared.judging.Seat.Seat, declared.judging.Sort.Sort}
use Rattle.nfs_opens.specs.{declared.judging.Sort.TheVariants.{OpenOnly, LockOnly}, declared.locking.Wish.Wish, declared.locking.OpenFault.OpenFault}
use Rattle.nfs_opens.specs.{StateId.last_number, Table.{Table, lock_at}, Judging.judge, Steps.{◌>>=◌, require, map_err}}
use Rattle.nfs_opens.specs.declared.locking.OpenFault.TheVariants as F
use Rattle.nfs_opens.specs.Closing as closing
use Rattle.nfs_opens.specs.Opening as opening
use Rattle.nfs_opens.specs.Locking as locking
use Rattle.nfs_opens.proofs.Terms.{lock_by_owner, unless_told}
use Rattle.nfs_names.specs.{declared.context.Context.Context, State.State, Outcome.{checked, is_delay}, Checks.current}
use Rattle.nfs_names.proofs.{Faulted.status_of_refusal, NameLaws.current_refuses, Refusing.refuses_checked}
use Rattle.nfs_files.specs.{Bytes.{seat, file_checks}, StateIds.meant, Ranges.wished, Denied.open_fault_status, Close.close, Parts.{writable, target, closes}}
use Rattle.nfs_files.specs.{FreeStateid.free_stateid, LockU.lock_u, Parts.{frees, unlocking, unlocks}}
use Rattle.nfs_files.specs.{OpenDowngrade.{bits, open_downgrade}, TestStateid.test_stateid, Parts.{narrowing, narrows}}
use Rattle.nfs_files.specs.Write.{last_checks}
use Rattle.nfs_files.proofs.{Outcomes.one, Prompt.{IsPrompt, err_prompt, ok_prompt, own_prompt, answered_prompt}, OpenAnswers.open_refuses}
use Rattle.nfs_files.proofs.{Seats.{meant_refuses, judge_refuses, readable_refuses, writable_refuses}, SetAnswers.{asked_refuses as set_refuses}}
use Rattle.nfs_files.proofs.StateAnswers.{target_refuses, close_refuses, free_refuses, downgrade_refuses, narrowing_refuses, wished_refuses, wished_by_refuses, unlock_refuses}
use Rattle.nfs_files.specs.Parts as parts
use Rattle.nfs_files.specs.Lock as of_lock
use Rattle.nfs_files.specs.SetAttrParts as set_parts
use Rattle.nfs_files.proofs.Terms.{tested}
use Rattle.nfs_files.proofs.InSteps.{close_is, free_is, unlock_is, downgrade_is, commit_is, test_is, read_is, set_attr_is, write_is}
use Rattle.nfs_files.proofs.InSteps as in_steps

-- Locks.

judge_prompt : (t : Table) (id : StateId) (client : ℕ) (file : Option ℕ) (sort : Sort) → IsPrompt (judge t id client file sort)
judge_prompt t id client file sort = own_prompt (judge t id client file sort) (judge_refuses t id client file sort)

-- what the table of opens refuses
there_prompt : {A F : Type 0} (g : F → Status) (o : Option A) (f : F) → is_delay (g f) ≡ false → IsPrompt (map_err g (ok_or o f))
there_prompt g None f is = err_prompt (g f) is
there_prompt g (Some a) f is = ok_prompt a

required_prompt : {F : Type 0} (g : F → Status) (b : Bool) (f : F) → is_delay (g f) ≡ false → IsPrompt (map_err g (require b f))
required_prompt g true f is = ok_prompt tt
required_prompt g false f is = err_prompt (g f) is

next_prompt : {A B F : Type 0} (g : F → Status) (v : Result A F) (next : A → Result B F) → IsPrompt (map_err g v) → ((a : A) → IsPrompt (map_err g (next a)))
    → IsPrompt (map_err g (v >>= next))
next_prompt g (Err f) next is more = err_prompt (g f) (is (g f) refl)
next_prompt g (Ok a) next is more = more a

fault_prompt : (v : Result Seat Status) → IsPrompt v → IsPrompt (map_err open_fault_status (map_err F.Refused v))
fault_prompt (Err status) is = err_prompt status (is status refl)
fault_prompt (Ok seat) is = ok_prompt seat

told_prompt : (o : Option Held) → IsPrompt (map_err open_fault_status (unless_told o))
told_prompt None = ok_prompt tt
told_prompt (Some h) = err_prompt (open_fault_status (F.Denied h)) refl

judged_prompt : (t : Table) (n : ℕ) (access : Share) (w : Wish) → IsPrompt (map_err open_fault_status (locking.lock_judged t n access w))
judged_prompt t n access w = go (locking.permits access w.kind)
  where
    go : (b : Bool) → IsPrompt (map_err open_fault_status (cond b (unless_told (locking.clash t n w)) (Err (F.Refused OpenMode))))
    go true = told_prompt (locking.clash t n w)
    go false = err_prompt OpenMode refl

as_prompt : (t : Table) (w : Wish) (n : ℕ) (access : Share) → IsPrompt (map_err open_fault_status (locking.lock_as t w n access))
as_prompt t w n access =
    next_prompt open_fault_status (locking.lock_judged t n access w) _ (judged_prompt t n access w) (λ u.
    next_prompt open_fault_status (ok_or (lock_at t n) (F.Refused BadStateId)) _ (there_prompt open_fault_status (lock_at t n) (F.Refused BadStateId) refl) (λ l. ok_prompt _))

owner_prompt : (t : Table) (w : Wish) (opened : ℕ) (owner : List ℕ) (access : Share) (o : Option LockState)
    → IsPrompt (map_err open_fault_status (lock_by_owner t w opened owner access o))
owner_prompt t w opened owner access (Some l) = as_prompt t w l.number access
owner_prompt t w opened owner access None =
    next_prompt open_fault_status (locking.lock_judged t 0 access w) _ (judged_prompt t 0 access w) (λ u.
    next_prompt open_fault_status (require (not (t.last == last_number)) (F.Refused ServerFault)) _ (required_prompt open_fault_status _ (F.Refused ServerFault) refl) (λ u. ok_prompt _))

locks_prompt : (t : Table) (who : Locker) (id : StateId) (w : Wish) → IsPrompt (map_err open_fault_status (of_lock.locks_as t who id w))
locks_prompt t (OpenOwner o) id w =
    next_prompt open_fault_status (map_err F.Refused (judge t id w.client (Some w.file) OpenOnly)) _ (fault_prompt _ (judge_prompt t id w.client (Some w.file) OpenOnly))
    (λ seat. owner_prompt t w id.number o.lock_owner.owner (locking.access_in seat) (locking.state_of t w.client o.lock_owner.owner w.file))
locks_prompt t (LockOwner o) id w =
    next_prompt open_fault_status (map_err F.Refused (judge t id w.client (Some w.file) LockOnly)) _ (fault_prompt _ (judge_prompt t id w.client (Some w.file) LockOnly))
    (λ seat. as_prompt t w id.number (locking.access_in seat))

locked_prompt : (s : State) (x : Context) (v : Result (StateId × Table) OpenFault) → IsPrompt (map_err open_fault_status v)
    → is_delay (status_of_result (of_lock.locked s x v).result) ≡ false
locked_prompt s x (Ok did) is = refl
locked_prompt s x (Err (F.Refused status)) is = ap is_delay (status_of_refusal 12 status) ∙ is status refl
locked_prompt s x (Err (F.Denied h)) is = refl
locked_prompt s x (Err F.Memory) is = absurd (let bad : true ≡ false = is (open_fault_status F.Memory) refl in cc)

tested_prompt : (s : State) (x : Context) (o : Option Held) → is_delay (status_of_result (tested s x o).result) ≡ false
tested_prompt s x None = refl
tested_prompt s x (Some h) = refl

-- By the operation.

close_prompt : (s : State) (x : Context) (a : Close) → is_delay (status_of_result (close s x a).result) ≡ false
close_prompt s x a =
    rw (close_is s x a)
    (answered_prompt s x Num.Close (target s x Own a.open_stateid) (closes s x) (own_prompt _ (target_refuses s x Own a.open_stateid)) (λ t.
    answered_prompt s x Num.Close (closing.close s.opens t.id x.client t.file) _ (own_prompt _ (close_refuses s.opens t.id x.client t.file)) (λ did. refl)))

freed_prompt : (s : State) (x : Context) (given : Stateid) → is_delay (status_of_result (free_stateid s x given).result) ≡ false
freed_prompt s x given =
    rw (free_is s x given)
    (answered_prompt s x Num.FreeStateid (meant x Any given) (frees s x) (own_prompt _ (meant_refuses x Any given)) (λ id.
    answered_prompt s x Num.FreeStateid (closing.free s.opens id x.client) _ (own_prompt _ (free_refuses s.opens id x.client)) (λ did. refl)))

lock_prompt : (s : State) (x : Context) (a : Lock) → is_delay (status_of_result (of_lock.lock s x a).result) ≡ false
lock_prompt s x a =
    rw (in_steps.lock_is s x a)
    (let w = wished s x a.locktype a.offset a.length in
    let reclaims = refuses_checked w (parts.reclaim_checks a) (wished_refuses s x a.locktype a.offset a.length) (λ w. refl) in
    answered_prompt s x Num.Lock (parts.locking s x a) (parts.locks s x a.locker)
    (own_prompt _ (wished_by_refuses x (of_lock.stateid_in a.locker) (checked w (parts.reclaim_checks a)) reclaims))
    (λ k. locked_prompt s x (of_lock.locks_as s.opens a.locker k.id k.wish) (locks_prompt s.opens a.locker k.id k.wish)))

lock_u_prompt : (s : State) (x : Context) (a : LockU) → is_delay (status_of_result (lock_u s x a).result) ≡ false
lock_u_prompt s x a =
    rw (unlock_is s x a)
    (let wish = wished s x a.locktype a.offset a.length in
    answered_prompt s x Num.LockU (unlocking s x a) (unlocks s x)
    (own_prompt _ (wished_by_refuses x a.lock_stateid wish (wished_refuses s x a.locktype a.offset a.length))) (λ k.
    (let w = k.wish in
    answered_prompt s x Num.LockU (locking.unlock s.opens k.id w.client w.file w.first w.last) _
    (own_prompt _ (unlock_refuses s.opens k.id w.client w.file w.first w.last)) (λ did. refl))))

narrows_prompt : (s : State) (x : Context) (a : OpenDowngrade) → is_delay (status_of_result (open_downgrade s x a).result) ≡ false
narrows_prompt s x a =
    rw (downgrade_is s x a)
    (answered_prompt s x Num.OpenDowngrade (narrowing s x a) (narrows s x a) (own_prompt _ (narrowing_refuses s x a)) (λ t.
    answered_prompt s x Num.OpenDowngrade (opening.downgrade s.opens t.id x.client t.file (bits a.share_access) (bits a.share_deny)) _
    (own_prompt _ (downgrade_refuses s.opens t.id x.client t.file (bits a.share_access) (bits a.share_deny))) (λ did. refl)))

pub files_prompt : (s : State) (x : Context) (now : Time) (op : Op) → is_delay (status_of_result (one s x now op).result) ≡ false
unfolding test_stateid
files_prompt s x now (Op.Close a) = close_prompt s x a
files_prompt s x now (Op.Commit a) =
    rw (commit_is s x) (answered_prompt s x Num.Commit _ _ (own_prompt _ (refuses_checked (current s x) file_checks (current_refuses s x) (λ d. refl))) (λ d. refl))
files_prompt s x now (Op.FreeStateid given) = freed_prompt s x given
files_prompt s x now (Op.Lock a) = lock_prompt s x a
files_prompt s x now (Op.LockT a) =
    rw (test_is s x a) (answered_prompt s x Num.LockT _ _ (own_prompt _ (wished_refuses s x a.locktype a.offset a.length)) (λ w. tested_prompt s x _))
files_prompt s x now (Op.LockU a) = lock_u_prompt s x a
files_prompt s x now (Op.Open a) = rw (in_steps.open_is s x now a) (answered_prompt s x Num.Open _ _ (own_prompt _ (open_refuses s x a)) (λ f. refl))
files_prompt s x now (Op.OpenDowngrade a) = narrows_prompt s x a
files_prompt s x now (Op.Read a) =
    rw (read_is s x a) (answered_prompt s x Num.Read _ _ (own_prompt _ (readable_refuses s x a.stateid (current s x) (current_refuses s x))) (λ d. refl))
files_prompt s x now (Op.SetAttr a) = rw (set_attr_is s x now a) (answered_prompt s x Num.SetAttr _ _
    (own_prompt _ (refuses_checked (set_parts.asked_for s x a) (set_parts.last_checks s) (set_refuses s x a) (λ m. refl))) (λ m. refl))
files_prompt s x now (Op.TestStateid given) = refl
files_prompt s x now (Op.Write a) =
    let found = writable_refuses s x a.stateid (current s x) (current_refuses s x) in
    rw (write_is s x now a)
    (answered_prompt s x Num.Write _ _ (own_prompt _ (refuses_checked (writable s x a.stateid (current s x)) (last_checks s a) found (λ d. refl))) (λ d. refl))
files_prompt s x now op = ap is_delay (status_of_refusal (op_number (arguments op).op) NotSupp)
