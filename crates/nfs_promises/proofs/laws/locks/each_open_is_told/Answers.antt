use Rattle.nfs_promises.proofs.Locks.OpenKept.{each_open_is_told}
use Rattle.nfs_promises.proofs.laws.locks.each_open_is_told.Goals as goal

pub returns : goal.returns
returns c = each_open_is_told
