-- A lock state is its owner's: a LOCK of a new lock owner names, where it is answered NFS4_OK, a lock state of that owner's string and of the client (RFC 8881 sections 8.2
-- and 18.10). So two owners are told two lock states, of which `LockKept` says that they do not clash.
use Rattle.std.specs.Prelude.{◌≡◌, ℕ, List}
use Rattle.nfs_xdr.specs.Tables.{In}
use Rattle.nfs_compound.specs.declared.lock_args.{Locker.TheVariants.OpenOwner, OpenToLockOwner.OpenToLockOwner}
use Rattle.nfs_opens.specs.declared.{locking.Wish.Wish, records.LockState.LockState}
use Rattle.nfs_names.specs.declared.start.Start.{Start}
use Rattle.nfs_exec.specs.Runs.{LockHeld.LocksFor, Ops.RanOp}
use Rattle.nfs_promises.specs.{Network.Endpoint.Arrival, Runs.Points.{reached, ops_of}}

-- behind the operation the lock state of a number is of this owner, and of the client whose session the operation ran in
pub record IsOwned (d : RanOp) (n : ℕ) (name : List ℕ) : Type 0 where
  pub owner : (l : LockState) → In l d.behind.store.opens.locks → l.number ≡ n → l.owner ≡ name
  pub client : (l : LockState) → In l d.behind.store.opens.locks → l.number ≡ n → l.client ≡ d.context.client

abbrev pub EachIsOwned : Type 0
EachIsOwned = (start : Start) (records : List Arrival) (c : Arrival) (d : RanOp) (n : ℕ) (w : Wish) (locks : LocksFor d n w) (o : OpenToLockOwner)
    → In d (ops_of (reached start records) c) → locks.asked.locker ≡ OpenOwner o → IsOwned d n o.lock_owner.owner
