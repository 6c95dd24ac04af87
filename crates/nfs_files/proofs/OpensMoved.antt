-- What CLOSE, FREE_STATEID, OPEN_DOWNGRADE, LOCK and LOCKU come to: a refusal, or what was granted, with what is known of it.
use Rattle.std.proofs.Common.{◌≡◌, refl, sym, subst}
use Rattle.std.specs.Prelude.{Result, Ok, Err}
use Rattle.nfs_xdr.specs.{declared.status.Status.Status, declared.status.Status.TheVariants.Delay}
use Rattle.nfs_compound.specs.{declared.lock_args.Lock.Lock, declared.lock_args.Locker.TheVariants.{LockOwner, OpenOwner}, declared.lock_args.Locker.Locker}
use Rattle.nfs_compound.specs.{declared.op_num.OpNum.OpNum, declared.stateid.Stateid.Stateid, declared.lock_args.LockU.LockU, declared.open_args.Close.Close}
use Rattle.nfs_compound.specs.declared.open_args.OpenDowngrade.{OpenDowngrade}
use Rattle.nfs_compound.specs.declared.op_num.OpNum.TheVariants as Num
use Rattle.nfs_results.specs.declared.res.Res.TheVariants as Res
use Rattle.nfs_ranges.specs.declared.Held.{Held}
use Rattle.nfs_opens.specs.{declared.stateid.StateId.StateId, declared.stateid.CurrentSeqid.TheVariants.{Any, Own}, declared.locking.Wish.Wish}
use Rattle.nfs_opens.specs.{declared.locking.OpenFault.OpenFault, Table.{Table, with_open}, Locking.unlock}
use Rattle.nfs_opens.specs.declared.locking.OpenFault.TheVariants as F
use Rattle.nfs_opens.specs.Closing as closing
use Rattle.nfs_opens.specs.Opening as opening
use Rattle.nfs_opens.proofs.CallLaws.{IsClosed, closed_is, IsFreed, freed_is, IsNarrowed, narrowed_is, IsLocked, under_is, known_is, IsUnlocked, unlocked_is}
use Rattle.nfs_names.specs.{declared.context.Context.Context, State.State, Ending.with_opens, Outcome.{Outcome, done, refuses, answers}}
use Rattle.nfs_files.specs.{declared.ranges.Wished.Wished, declared.target.Target.Target, StateIds.meant, Denied.lock_denied, Parts.target}
use Rattle.nfs_files.specs.{Close.close, FreeStateid.free_stateid, Lock.{locks_as, locked, lock}, Parts.{closed, closes, frees, locking, locks}}
use Rattle.nfs_files.specs.{LockU.lock_u, OpenDowngrade.{bits, open_downgrade}, Parts.{unlocking, unlocked, unlocks, narrowing, narrowed, narrows}}
use Rattle.nfs_files.proofs.InSteps.{close_is, free_is, downgrade_is, unlock_is}
use Rattle.nfs_files.proofs.InSteps as in_steps

-- what an operation comes to, by what was found
pub answered : {A : Type 0} (P : Outcome → Type 0) (s : State) (x : Context) (op : OpNum) (v : Result A Status) (f : A → Outcome)
    → ((status : Status) → P (refuses s x op status)) → ((a : A) → v ≡ Ok a → P (f a)) → P (answers s x op v f)
answered P s x op (Err status) f refused each = refused status
answered P s x op (Ok a) f refused each = each a refl

pub by_close : (P : Outcome → Type 0) (s : State) (x : Context) (a : Close) → ((status : Status) → P (refuses s x Num.Close status))
    → ((t : Target) (did : Unit {0} × Table) → target s x Own a.open_stateid ≡ Ok t → closing.close s.opens t.id x.client t.file ≡ Ok did
    → IsClosed s.opens t.id x.client t.file did → P (closed s x t.file (closing.without_open s.opens t.id.number)))
    → P (close s x a)
by_close P s x a refused each =
    rw (close_is s x a)
    (answered P s x Num.Close (target s x Own a.open_stateid) (closes s x) refused (λ t judged.
    answered P s x Num.Close (closing.close s.opens t.id x.client t.file) _ refused (λ did granted.
    (let is = closed_is s.opens t.id x.client t.file did granted in
    subst (λ after. P (closed s x t.file after)) (sym is.left) (each t did judged granted is)))))

pub by_free : (P : Outcome → Type 0) (s : State) (x : Context) (given : Stateid) → ((status : Status) → P (refuses s x Num.FreeStateid status))
    → ((id : StateId) (did : Unit {0} × Table) → IsFreed s.opens id x.client did
    → P (done (with_opens s (closing.without_lock s.opens id.number)) x Res.FreeStateid))
    → P (free_stateid s x given)
by_free P s x given refused each =
    rw (free_is s x given)
    (answered P s x Num.FreeStateid (meant x Any given) (frees s x) refused (λ id judged.
    answered P s x Num.FreeStateid (closing.free s.opens id x.client) _ refused (λ did granted.
    (let is = freed_is s.opens id x.client did granted in
    subst (λ after. P (done (with_opens s after) x Res.FreeStateid)) (sym is.left) (each id did is)))))

pub by_downgrade : (P : Outcome → Type 0) (s : State) (x : Context) (a : OpenDowngrade) → ((status : Status) → P (refuses s x Num.OpenDowngrade status))
    → ((t : Target) (did : StateId × Table) → IsNarrowed s.opens t.id x.client t.file (bits a.share_access) (bits a.share_deny) did
    → P (narrowed s x did.0 (with_open s.opens t.id.number (opening.narrows (bits a.share_access) (bits a.share_deny)))))
    → P (open_downgrade s x a)
by_downgrade P s x a refused each =
    rw (downgrade_is s x a)
    (answered P s x Num.OpenDowngrade (narrowing s x a) (narrows s x a) refused (λ t judged.
    answered P s x Num.OpenDowngrade (opening.downgrade s.opens t.id x.client t.file (bits a.share_access) (bits a.share_deny)) _ refused (λ did granted.
    (let is = narrowed_is s.opens t.id x.client t.file (bits a.share_access) (bits a.share_deny) did granted in
    subst (λ after. P (narrowed s x did.0 after)) (sym is.left) (each t did is)))))

pub lock_is : (t : Table) (who : Locker) (id : StateId) (w : Wish) (did : StateId × Table) → locks_as t who id w ≡ Ok did → IsLocked t w did
lock_is t (OpenOwner o) id w did granted = under_is t id o.lock_owner.owner w did granted
lock_is t (LockOwner o) id w did granted = known_is t id w did granted

by_locked : (P : Outcome → Type 0) (s : State) (x : Context) (v : Result (StateId × Table) OpenFault) → ((status : Status) → P (refuses s x Num.Lock status))
    → ((h : Held) → P (done s x (Res.LockDenied (lock_denied s.opens h)))) → ((did : StateId × Table) → v ≡ Ok did → P (locked s x (Ok did))) → P (locked s x v)
by_locked P s x (Ok did) refused held each = each did refl
by_locked P s x (Err (F.Refused status)) refused held each = refused status
by_locked P s x (Err (F.Denied h)) refused held each = held h
by_locked P s x (Err F.Memory) refused held each = refused Delay

pub by_lock : (P : Outcome → Type 0) (s : State) (x : Context) (a : Lock) → ((status : Status) → P (refuses s x Num.Lock status))
    → ((h : Held) → P (done s x (Res.LockDenied (lock_denied s.opens h))))
    → ((m : Wished) (did : StateId × Table) → locking s x a ≡ Ok m → locks_as s.opens a.locker m.id m.wish ≡ Ok did → IsLocked s.opens m.wish did
    → P (locked s x (Ok did)))
    → P (lock s x a)
by_lock P s x a refused held each =
    rw (in_steps.lock_is s x a)
    (answered P s x Num.Lock (locking s x a) (locks s x a.locker) refused (λ m judged.
    by_locked P s x (locks_as s.opens a.locker m.id m.wish) refused held (λ did granted.
    each m did judged granted (lock_is s.opens a.locker m.id m.wish did granted))))

pub by_unlock : (P : Outcome → Type 0) (s : State) (x : Context) (a : LockU) → ((status : Status) → P (refuses s x Num.LockU status))
    → ((m : Wished) (did : StateId × Table) → unlocking s x a ≡ Ok m → unlock s.opens m.id m.wish.client m.wish.file m.wish.first m.wish.last ≡ Ok did
    → IsUnlocked s.opens m.id m.wish.client m.wish.file m.wish.first m.wish.last did → P (unlocked s x did.0 did.1))
    → P (lock_u s x a)
by_unlock P s x a refused each =
    rw (unlock_is s x a)
    (answered P s x Num.LockU (unlocking s x a) (unlocks s x) refused (λ m judged.
    (let w = m.wish in
    answered P s x Num.LockU (unlock s.opens m.id w.client w.file w.first w.last) _ refused (λ d granted.
    each m d judged granted (unlocked_is s.opens m.id w.client w.file w.first w.last d granted)))))
