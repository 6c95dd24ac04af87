-- LOCK, LOCKU and CLOSE by their own checks, and what they leave of a lock that was told.
use Rattle.std.specs.Prelude.{◌≡◌, ◌≢◌, ℕ, ◌≤◌, Bool, true, Some, Ok}
use Rattle.nfs_xdr.specs.declared.time.Time.{Time}
use Rattle.nfs_compound.specs.declared.lock_args.Lock as args
use Rattle.nfs_compound.specs.{declared.lock_args.LockU.LockU, declared.open_args.Close.Close, declared.op.Item.Item, declared.op.Item.TheVariants.Operation}
use Rattle.nfs_compound.specs.declared.op.Op.{Op}
use Rattle.nfs_opens.specs.{declared.records.LockState.LockState, declared.stateid.StateId.StateId, declared.stateid.CurrentSeqid.TheVariants.Own}
use Rattle.nfs_opens.specs.{declared.locking.Wish.Wish, TableInvariants.IsTable, Table.{Table, lock_at}, Locking.unlock}
use Rattle.nfs_opens.specs.Closing as opens
use Rattle.nfs_results.specs.Results.{status_of_result}
use Rattle.nfs_names.specs.{declared.context.Context.Context, State.State, Outcome.is_ok}
use Rattle.nfs_files.specs.{Lock.locks_as, LockTold.{LockTold, IsBeside, IsAlike, Stands, Clashes}, Parts.{target, locking, unlocking}}
use Rattle.nfs_files.proofs.Outcomes.{one_or_delay, comes_to}

-- a LOCK that is granted: lock state n holds the bytes of the wish from now on
pub record Locks (s : State) (x : Context) (op : Op) (n : ℕ) (w : Wish) : Type 0 where
  pub asked : args.Lock
  pub id : StateId
  pub did : StateId × Table
  pub is : op ≡ Op.Lock asked
  pub judged : locking s x asked ≡ Ok (record { wish = w; id = id })
  pub granted : locks_as s.opens asked.locker id w ≡ Ok did
  pub state : did.0.number ≡ n

-- a LOCKU that is granted: lock state n holds none of the bytes of the wish from now on
pub record Unlocks (s : State) (x : Context) (op : Op) (n : ℕ) (w : Wish) : Type 0 where
  pub asked : LockU
  pub id : StateId
  pub did : StateId × Table
  pub is : op ≡ Op.LockU asked
  pub judged : unlocking s x asked ≡ Ok (record { wish = w; id = id })
  pub granted : unlock s.opens id w.client w.file w.first w.last ≡ Ok did
  pub state : id.number ≡ n

-- a CLOSE that is granted: open n goes
pub record Closes (s : State) (x : Context) (op : Op) (n : ℕ) : Type 0 where
  pub asked : Close
  pub file : ℕ
  pub id : StateId
  pub did : Unit {0} × Table
  pub is : op ≡ Op.Close asked
  pub judged : target s x Own asked.open_stateid ≡ Ok (record { file = file; id = id })
  pub granted : opens.close s.opens id x.client file ≡ Ok did
  pub opened : id.number ≡ n

-- No LOCK of another kind and no LOCKU for the lock state on a byte of it, and no CLOSE of its open.
pub record Spares (k : LockTold) (s : State) (x : Context) (op : Op) : Type 0 where
  pub locks : (n : ℕ) (w : Wish) → Locks s x op n w → n ≡ k.state → IsAlike w k
  pub unlocks : (n : ℕ) (w : Wish) → Unlocks s x op n w → n ≡ k.state → IsBeside w k
  pub closes : (n : ℕ) → Closes s x op n → n ≢ k.opened

-- A LOCK that was granted tells this lock: its lock state as it stands behind the LOCK, and bytes of its range in its way.
pub record Tells (k : LockTold) (s : State) (x : Context) (op : Op) (left : Table) : Type 0 where
  pub wish : Wish
  pub lock : LockState
  pub locks : Locks s x op k.state wish
  pub range : (wish.first ≤ k.first) × (k.first ≤ k.last) × (k.last ≤ wish.last)
  pub kind : k.kind ≡ wish.kind
  pub file : k.file ≡ wish.file
  pub stands : lock_at left k.state ≡ Some lock
  pub client : k.client ≡ lock.client
  pub opened : k.opened ≡ lock.opened

-- An operation that spares a lock, or does not answer NFS4_OK, leaves it.
abbrev pub SparedLocksStay : Type 0
SparedLocksStay = (k : LockTold) (s : State) (x : Context) (now : Time) (refused : Bool) (i : Item) → IsTable s.opens → k.first ≤ k.last
    → (is_ok (status_of_result (comes_to refused s x now i).result) ≡ true → (op : Op) → i ≡ Operation op → Spares k s x op) → Stands k s.opens
    → Stands k (comes_to refused s x now i).state.opens

-- A LOCK that clashes with a lock that stands is not granted.
abbrev pub ClashesAreNotGranted : Type 0
ClashesAreNotGranted = (k : LockTold) (s : State) (x : Context) (op : Op) (n : ℕ) (w : Wish) → IsTable s.opens → k.first ≤ k.last
    → Stands k s.opens → Locks s x op n w → Clashes k n w → ⊥

-- Behind a LOCK that answered NFS4_OK the lock that it tells stands.
abbrev pub ToldLocksStand : Type 0
ToldLocksStand = (k : LockTold) (s : State) (x : Context) (now : Time) (refused : Bool) (op : Op)
    → is_ok (status_of_result (one_or_delay refused s x now op).result) ≡ true → Tells k s x op (one_or_delay refused s x now op).state.opens
    → Stands k (one_or_delay refused s x now op).state.opens
