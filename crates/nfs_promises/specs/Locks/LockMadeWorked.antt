-- The open that a lock is under, worked by hand over the run of `LockKeptWorked` (RFC 8881 sections 8.2.5 and 18.10).
use Rattle.nfs_xdr.specs.Tables.{In}
use Rattle.nfs_exec.specs.Runs.Ops.{RanOp}
use Rattle.nfs_promises.specs.{Locks.{LockKeptWorked.{outset, locks, last_of}, LockMade.MakesUnder}, Runs.Points.ops_of}

-- Worked over the run of `LockKeptWorked`: the client opens the file, by open 1, and locks it under the current stateid, which is that open's. The promise refuses a server that
-- puts the lock state under another open: no operation of the compound named one.
pub record MadeUnderItsOwn : Type 0 where
  pub its : (d : RanOp) → MakesUnder 2 1 (last_of d (ops_of outset locks))
  pub another : (maker : RanOp) → In maker (ops_of outset locks) → MakesUnder 2 3 maker → ⊥
