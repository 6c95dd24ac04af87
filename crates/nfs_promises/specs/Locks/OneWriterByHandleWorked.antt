-- One writer by filehandle, worked by hand like the run of `LockKeptWorked` (RFC 8881 sections 9.1, 18.8 and 18.10).
use Rattle.std.specs.Prelude.{◌≡◌, ◌+◌, ◌≤◌, List, [], ◌∷◌, ◌++◌}
use Rattle.nfs_xdr.specs.declared.status.Status.TheVariants.{Denied}
use Rattle.nfs_compound.specs.declared.op.Op.{Op}
use Rattle.nfs_results.specs.Results.{done_head}
use Rattle.nfs_exec.specs.Runs.{LockHeld.{LocksFor, AreSpared, Tells}, Ops.RanOp}
use Rattle.nfs_serve.specs.Step.{ServerState}
use Rattle.nfs_promises.specs.Runs.{Requests.{current_stateid, in_session, unchecked, opening_by, locking}, Started.usual, Points.{state_after, taken, ops_of}}
use Rattle.nfs_promises.specs.{Network.Endpoint.Arrival, Names.HandlesWorked.given, Locks.LockKeptWorked.{came, earlier, waits, outset, told, wish}}
use Rattle.nfs_promises.specs.Locks.{LockKeptWorked.stateid_of_lock, LockKept.AreInTime, OneWriterByHandle.{Overlaps, IsKnownAt}}
use Rattle.nfs_compound.specs.declared.op_num.OpNum.TheVariants as Num

abbrev pub opens_gets_and_locks : List Op
opens_gets_and_locks = Op.PutRootFh ∷ opening_by (0x6f ∷ []) 3 0 unchecked (0x66 ∷ []) ∷ Op.GetFh ∷ locking (0x6c ∷ []) current_stateid 0 1 ∷ []

abbrev pub locks : Arrival
locks = came 102 3 (in_session 1 1 opens_gets_and_locks)

abbrev pub clashes : Arrival
clashes = came 372 8 (in_session 2 1 opens_gets_and_locks)

abbrev pub locked : ServerState
locked = state_after outset locks

-- a LOCK that is answered NFS4_OK, and the stateid of a lock state of its own
abbrev pub granting : RanOp → RanOp
granting d = record d { result = done_head Num.Lock ++ stateid_of_lock 4 }

-- The run meets the premises but for the second LOCK, which is denied. A server that grants it meets them all, and so breaks the promise.
pub record IsOneWriter : Type 0 where
  pub front : List RanOp
  pub first : RanOp
  pub ops : ops_of outset locks ≡ front ++ first ∷ []
  pub known : IsKnownAt usual earlier front given
  pub tells : Tells told first
  pub until : List RanOp
  pub second : RanOp
  pub between : AreInTime told 90 102 locked waits (λ last t. (ops_of t clashes ≡ until ++ second ∷ []) × (taken t clashes ≤ last + 90) × AreSpared told until)
  pub later : IsKnownAt usual (earlier ++ locks ∷ waits) until given
  pub denied : second.status ≡ Denied
  pub granted : LocksFor (granting second) 4 (wish 2 0)
  pub over : Overlaps told 4 (wish 2 0)
