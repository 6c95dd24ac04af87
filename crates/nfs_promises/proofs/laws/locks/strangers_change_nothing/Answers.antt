use Rattle.nfs_promises.proofs.Locks.Others.{strangers_change_nothing}
use Rattle.nfs_promises.proofs.laws.locks.strangers_change_nothing.Goals as goal

pub returns : goal.returns
returns c = strangers_change_nothing
