-- A LOCK or a LOCKT that is denied, and what it reports (RFC 8881 sections 18.10 and 18.11); and a LOCK that grants a lock to a lock owner.
use Rattle.std.specs.Prelude.{◌≡◌, ◌≢◌, ℕ, true, false, Bool, List, Ok}
use Rattle.nfs_compound.specs.declared.lock_args.Lock as lock_args
use Rattle.nfs_compound.specs.declared.lock_args.LockT as test_args
use Rattle.nfs_compound.specs.{declared.lock_args.ExistLockOwner.ExistLockOwner, declared.lock_args.Locker.TheVariants.{LockOwner, OpenOwner}}
use Rattle.nfs_compound.specs.{declared.lock_args.OpenToLockOwner.OpenToLockOwner, declared.op.Item.Item, declared.op.Item.TheVariants.Operation}
use Rattle.nfs_compound.specs.declared.op.Op.TheVariants as Op
use Rattle.nfs_results.specs.declared.res.Denied as result
use Rattle.nfs_results.specs.declared.res.Res.TheVariants as Res
use Rattle.nfs_results.specs.Results.{spell_result}
use Rattle.nfs_opens.specs.{declared.locking.Wish.Wish, declared.stateid.CurrentSeqid.TheVariants.Any, declared.stateid.StateId.StateId}
use Rattle.nfs_files.specs.{LockTold.LockTold, StateIds.meant, Ranges.wished}
use Rattle.nfs_exec.specs.{Runs.LockHeld.{LocksFor, Tells}, Runs.Ops.RanOp}

-- a LOCK or a LOCKT asked for these bytes in this way, and its result is a report of this lock
pub data IsRefusedFor (d : RanOp) (w : Wish) (r : result.Denied) : Type 0 where
  ByLock : (asked : lock_args.Lock) → d.item ≡ Operation (Op.Lock asked) → wished d.before.store d.context asked.locktype asked.offset asked.length ≡ Ok w
      → d.result ≡ spell_result (Res.LockDenied r) → IsRefusedFor d w r
  ByTest : (asked : test_args.LockT) → d.item ≡ Operation (Op.LockT asked) → wished d.before.store d.context asked.locktype asked.offset asked.length ≡ Ok w
      → d.result ≡ spell_result (Res.LockTDenied r) → IsRefusedFor d w r

abbrev pub asks_for_lock : Item → Bool
asks_for_lock (Operation (Op.Lock a)) = true
asks_for_lock (Operation (Op.LockT a)) = true
asks_for_lock item = false

-- one byte of a lock
abbrev pub byte_of : LockTold → ℕ → LockTold
byte_of k b = record k { first = b; last = b }

-- A LOCK granted the lock to an owner: if it is of a new lock owner, it gives the owner's string.
pub record Grants (k : LockTold) (owner : List ℕ) (d : RanOp) : Type 0 where
  pub tells : Tells k d
  pub named : (o : OpenToLockOwner) → tells.locks.asked.locker ≡ OpenOwner o → o.lock_owner.owner ≡ owner

-- A LOCK of a new lock owner of this string, in a session of this client, was told the lock state.
pub record IsBegunBy (d : RanOp) (n client : ℕ) (owner : List ℕ) : Type 0 where
  pub wish : Wish
  pub locks : LocksFor d n wish
  pub new : OpenToLockOwner
  pub locker : locks.asked.locker ≡ OpenOwner new
  pub named : new.lock_owner.owner ≡ owner
  pub mine : d.context.client ≡ client

-- A lock is not of whoever asks: its lock state is not the one that a LOCK names; nor is it of the lock owner that a LOCK or a LOCKT gives, of the client whose session that
-- runs in.
pub record IsOthers (d : RanOp) (state client : ℕ) (owner : List ℕ) : Type 0 where
  pub named : (a : lock_args.Lock) (o : ExistLockOwner) (id : StateId) → d.item ≡ Operation (Op.Lock a) → a.locker ≡ LockOwner o
      → meant d.context Any o.lock_stateid ≡ Ok id → id.number ≢ state
  pub new : (a : lock_args.Lock) (o : OpenToLockOwner) → d.item ≡ Operation (Op.Lock a) → a.locker ≡ OpenOwner o → client ≡ d.context.client → owner ≢ o.lock_owner.owner
  pub tested : (a : test_args.LockT) → d.item ≡ Operation (Op.LockT a) → client ≡ d.context.client → owner ≢ a.owner.owner
