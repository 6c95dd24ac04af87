use Rattle.nfs_promises.proofs.Locks.LockKept.{each_is_told}
use Rattle.nfs_promises.proofs.laws.locks.each_lock_is_told.Goals as goal

pub returns : goal.returns
returns c = each_is_told
