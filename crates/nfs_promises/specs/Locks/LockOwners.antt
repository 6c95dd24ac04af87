-- Whose a lock is, over any list of records: a lock state is of one lock owner, and of two owners that clash only one is told (RFC 8881 sections 8.2.5, 9.1 and 18.10).
use Rattle.std.specs.Prelude.{◌≡◌, ◌⊎◌, ℕ, ◌+◌, ◌≤◌, List, ◌∷◌, ◌++◌}
use Rattle.nfs_xdr.specs.Tables.{In}
use Rattle.nfs_compound.specs.declared.lock_args.{Locker.TheVariants.OpenOwner, OpenToLockOwner.OpenToLockOwner}
use Rattle.nfs_opens.specs.declared.locking.Wish.{Wish}
use Rattle.nfs_names.specs.declared.start.Start.{Start}
use Rattle.nfs_files.specs.LockTold.{LockTold}
use Rattle.nfs_exec.specs.Runs.{LockHeld.{LocksFor, AreSpared, Tells}, Ops.RanOp}
use Rattle.nfs_promises.specs.{Runs.{LockOwners.{AreOne, AreTwo, Meets}, Points.{state_after, reached, taken, ops_of}}, Bytes.ChangeTells.RunsIn}
use Rattle.nfs_promises.specs.{Network.Endpoint.Arrival, Locks.LockKept.AreInTime}

-- In every run, of two LOCKs of new lock owners that are told the same lock state, one in front of the other, in one compound or in different records, the owners are
-- one; and so are the clients. (A LOCK that names its lock state by a stateid is of the owner that this lock state has.)
abbrev pub StatesHaveOneOwner : Type 0
StatesHaveOneOwner = (start : Start) (earlier : List Arrival) (c : Arrival) (front : List RanOp) (first : RanOp) (back : List RanOp) (more : List Arrival)
    (second : RanOp)
    → (let s = reached start earlier in
    ops_of s c ≡ front ++ first ∷ back → In second back ⊎ RunsIn (state_after s c) more second → AreOne first second)

-- Of two LOCKs of different lock owners that clash on a byte, each answered NFS4_OK and whatever stateid, the second comes behind an end of the first, as
-- `OnlyOneIsTold` has it.
abbrev pub OnlyOneOwnerIsTold : Type 0
OnlyOneOwnerIsTold = (start : Start) (earlier : List Arrival) (c : Arrival) (k : LockTold) (front : List RanOp) (first : RanOp) (back : List RanOp)
    (between : List Arrival) (d : Arrival) (until : List RanOp) (second : RanOp) (behind : List RanOp) (n : ℕ) (w : Wish) (told : Tells k first) (locks : LocksFor second n w)
    (o p : OpenToLockOwner)
    → (let s = reached start earlier in
    ops_of s c ≡ front ++ first ∷ back → AreSpared k back
    → AreInTime k start.lease (taken s c) (state_after s c) between
    (λ last t. (ops_of t d ≡ until ++ second ∷ behind) × (taken t d ≤ last + start.lease) × AreSpared k until)
    → told.locks.asked.locker ≡ OpenOwner o → locks.asked.locker ≡ OpenOwner p → told.wish.first ≤ told.wish.last
    → AreTwo first o second p → Meets k w → ⊥)
