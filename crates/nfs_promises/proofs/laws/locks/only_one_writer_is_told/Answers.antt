use Rattle.nfs_promises.proofs.Locks.LockKept.{only_one}
use Rattle.nfs_promises.proofs.laws.locks.only_one_writer_is_told.Goals as goal

pub returns : goal.returns
returns c = only_one
