-- Behind a LOCK of a new lock owner that answered NFS4_OK, the lock state that it names is that owner's.
use Rattle.std.proofs.Common.{◌≡◌, ℕ, sym, ◌∙◌, ap, subst}
use Rattle.std.specs.Prelude.{Ok}
use Rattle.nfs_xdr.specs.Tables.{In}
use Rattle.nfs_compound.specs.declared.lock_args.Lock as args
use Rattle.nfs_compound.specs.declared.{lock_args.{Locker.TheVariants.OpenOwner, OpenToLockOwner.OpenToLockOwner}, op.Item.TheVariants.Operation}
use Rattle.nfs_compound.specs.declared.op.Op.TheVariants as Op
use Rattle.nfs_opens.specs.{declared.locking.Wish.Wish, declared.records.LockState.LockState, Table.Table}
use Rattle.nfs_names.specs.State.{time_at}
use Rattle.nfs_files.specs.{Lock.locks_as, Parts.locking}
use Rattle.nfs_files.proofs.{LockOwners.under_owner, ToldLocks.left_by}
use Rattle.nfs_exec.specs.{Runs.LockHeld.LocksFor, Runs.Ops.RanOp}
use Rattle.nfs_exec.proofs.Runs.WhatWasDone.{by_ok, did_lock, IsRun}

asked_is : (b a : args.Lock) → Op.Lock a ≡ Op.Lock b → b ≡ a
asked_is b a e = cc

pub owned_behind : (d : RanOp) → IsRun d → (n : ℕ) (w : Wish) (locks : LocksFor d n w) (o : OpenToLockOwner) → locks.asked.locker ≡ OpenOwner o
    → (l : LockState) → In l d.behind.store.opens.locks → l.number ≡ n → l.owner ≡ o.lock_owner.owner
owned_behind d r n w told o owner l =
    let s = d.before.store in
    let x = d.context in
    let a = told.asked in
    let did = did_lock d r n w told in
    let locks = did.locks in
    by_ok (λ text u. In l u.opens.locks → l.number ≡ n → l.owner ≡ o.lock_owner.owner) d r (Operation (Op.Lock a)) told.is did.ok (λ ok inside named.
    (let same : locks.asked ≡ a = asked_is locks.asked a locks.is in
    let granted : locks_as s.opens (OpenOwner o) locks.id w ≡ Ok locks.did =
    ap (λ k. locks_as s.opens k locks.id w) (sym owner) ∙ (ap (λ (k : args.Lock). locks_as s.opens k.locker locks.id w) (sym same) ∙ locks.granted) in
    let left = left_by s x (time_at s r.now) r.refused a (record { wish = w; id = locks.id }) locks.did
    (subst (λ (k : args.Lock). locking s x k ≡ Ok (record { wish = w; id = locks.id })) same locks.judged)
    (subst (λ (k : args.Lock). locks_as s.opens k.locker locks.id w ≡ Ok locks.did) same locks.granted) ok in
    under_owner s.opens locks.id o.lock_owner.owner w locks.did r.whole.table granted l (subst (λ (t : Table). In l t.locks) left inside)
    (named ∙ sym locks.state)))

pub owned_client : (d : RanOp) → IsRun d → (n : ℕ) (w : Wish) → LocksFor d n w → (l : LockState) → In l d.behind.store.opens.locks → l.number ≡ n → l.client ≡ d.context.client
owned_client d r n w locks l inside = (did_lock d r n w locks).client l inside
