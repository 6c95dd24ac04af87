use Rattle.nfs_promises.proofs.Locks.OneWriterByHandle.{only_one_by_handle}
use Rattle.nfs_promises.proofs.laws.locks.only_one_writer_by_handle.Goals as goal

pub returns : goal.returns
returns c = only_one_by_handle
