use Rattle.nfs_promises.proofs.Locks.LockKept.{lock_kept}
use Rattle.nfs_promises.proofs.laws.locks.lock_kept.Goals as goal

pub returns : goal.returns
returns c = lock_kept
