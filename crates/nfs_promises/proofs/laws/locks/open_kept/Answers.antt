use Rattle.nfs_promises.proofs.Locks.OpenKept.{open_kept}
use Rattle.nfs_promises.proofs.laws.locks.open_kept.Goals as goal

pub returns : goal.returns
returns c = open_kept
