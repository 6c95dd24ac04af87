-- One owner each, worked by hand behind the run of `LockKeptWorked` (RFC 8881 sections 8.2.5 and 18.10).
use Rattle.std.specs.Prelude.{◌≡◌, List, [], ◌∷◌, ◌++◌}
use Rattle.nfs_xdr.specs.declared.status.Status.TheVariants.{Denied}
use Rattle.nfs_compound.specs.declared.op.Op.{Op}
use Rattle.nfs_results.specs.Results.{done_head}
use Rattle.nfs_exec.specs.Runs.{LockHeld.LocksFor, Ops.RanOp}
use Rattle.nfs_promises.specs.{Runs.{Requests.{handle, stateid, in_session, locking}, LockOwners.AreOne, Points.ops_of}, Network.Endpoint.Arrival}
use Rattle.nfs_promises.specs.Locks.LockKeptWorked.{came, outset, locks, locked, wish, stateid_of_lock}
use Rattle.nfs_compound.specs.declared.op_num.OpNum.TheVariants as Num

-- Worked behind the run of `LockKeptWorked`: the client that locked the byte for the owner `l` asks for it for another owner, `m`, under the same open
abbrev pub asks_for_another : Arrival
asks_for_another = came 103 4 (in_session 1 2 (Op.PutFh (handle 2) ∷ locking (0x6d ∷ []) (stateid 1 1) 0 1 ∷ []))

-- it answers NFS4_OK, and the stateid of the lock state that `l` has
abbrev pub shared : RanOp → RanOp
shared d = record d { result = done_head Num.Lock ++ stateid_of_lock 2 }

-- The run meets the premises, and its second LOCK is denied. The promise refuses a server that lets both owners have one lock state.
pub record OneOwnerEach : Type 0 where
  pub front : List RanOp
  pub lock : RanOp
  pub ops : ops_of outset locks ≡ front ++ lock ∷ []
  pub told : LocksFor lock 2 (wish 1 0)
  pub put : RanOp
  pub asked : RanOp
  pub asks : ops_of locked asks_for_another ≡ put ∷ asked ∷ []
  pub denied : asked.status ≡ Denied
  pub refused : AreOne lock (shared asked) → ⊥
