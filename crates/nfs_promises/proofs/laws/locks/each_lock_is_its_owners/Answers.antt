use Rattle.nfs_promises.proofs.Locks.LockOwned.{each_is_owned}
use Rattle.nfs_promises.proofs.laws.locks.each_lock_is_its_owners.Goals as goal

pub returns : goal.returns
returns c = each_is_owned
