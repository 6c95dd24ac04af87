-- Under which open a lock stands, over any list of records: the one that a LOCK named by its own argument, that of the LOCK which made the lock state (RFC 8881 sections 8.2
-- and 18.10). So a CLOSE of this open ends the lock, and one of another open does not.
use Rattle.std.specs.Prelude.{◌≡◌, ◌⊎◌, ℕ, ◌≤◌, List, [], ◌∷◌, ◌++◌, Ok}
use Rattle.nfs_xdr.specs.Tables.{In}
use Rattle.nfs_compound.specs.declared.lock_args.{Locker.TheVariants.OpenOwner, OpenToLockOwner.OpenToLockOwner}
use Rattle.nfs_opens.specs.declared.{locking.Wish.Wish, stateid.{CurrentSeqid.TheVariants.Any, StateId.StateId}}
use Rattle.nfs_names.specs.declared.start.Start.{Start}
use Rattle.nfs_files.specs.StateIds.{meant}
use Rattle.nfs_exec.specs.Runs.{LockHeld.{LocksFor, Tells}, Ops.RanOp}
use Rattle.nfs_serve.specs.Step.{new_state}
use Rattle.nfs_promises.specs.{Bytes.ChangeTells.RunsIn, Network.Endpoint.Arrival, Runs.Points.{reached, ops_of}}

-- The LOCK of a new lock owner was answered NFS4_OK and the stateid of lock state n. Its argument names the open by a stateid, which may be the current one.
pub record MakesUnder (n opened : ℕ) (d : RanOp) : Type 0 where
  pub wish : Wish
  pub locks : LocksFor d n wish
  pub owner : OpenToLockOwner
  pub new : locks.asked.locker ≡ OpenOwner owner
  pub id : StateId
  pub means : meant d.context Any owner.open_stateid ≡ Ok id
  pub names : id.number ≡ opened

-- Each LOCK that is answered NFS4_OK and a stateid tells a lock under the open that some LOCK named which was told the same lock state: this LOCK, one in front of it in its
-- compound, or one in an earlier record.
abbrev pub EachLockWasMade : Type 0
EachLockWasMade = (start : Start) (earlier : List Arrival) (c : Arrival) (front : List RanOp) (lock : RanOp) (back : List RanOp) (n : ℕ) (w : Wish)
    → ops_of (reached start earlier) c ≡ front ++ lock ∷ back → LocksFor lock n w → w.first ≤ w.last
    → (opened : ℕ)
    × Tells (record { state = n; client = lock.context.client; opened = opened; file = w.file; kind = w.kind; first = w.first; last = w.last }) lock
    × (maker : RanOp) × (RunsIn (new_state start) earlier maker ⊎ In maker (front ++ lock ∷ [])) × MakesUnder n opened maker
