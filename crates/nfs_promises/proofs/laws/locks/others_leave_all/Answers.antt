use Rattle.nfs_promises.proofs.Locks.Others.{others_leave_all}
use Rattle.nfs_promises.proofs.laws.locks.others_leave_all.Goals as goal

pub returns : goal.returns
returns c = others_leave_all
