-- The owner of a lock state, worked by hand over the run of `LockKeptWorked` (RFC 8881 sections 8.2.5 and 18.10).
use Rattle.std.specs.Prelude.{[], ◌∷◌}
use Rattle.nfs_exec.specs.Runs.Ops.{RanOp}
use Rattle.nfs_promises.specs.{Runs.Points.ops_of, Locks.{LockKeptWorked.{outset, locks, last_of}, LockOwned.IsOwned}}

-- Worked over the run of `LockKeptWorked`: A's LOCK is of the lock owner `l`. The promise refuses a server that gives the lock state to another owner of A, `m`.
pub record OwnersApart : Type 0 where
  pub its : (d : RanOp) → IsOwned (last_of d (ops_of outset locks)) 2 (0x6c ∷ [])
  pub another : (d : RanOp) → IsOwned (last_of d (ops_of outset locks)) 2 (0x6d ∷ []) → ⊥
