use Rattle.nfs_promises.proofs.Locks.LockMade.{each_was_made}
use Rattle.nfs_promises.proofs.laws.locks.each_lock_was_made.Goals as goal

pub returns : goal.returns
returns c = each_was_made
