use Rattle.nfs_promises.proofs.Bytes.ChangeSeen.{changes_are_new}
use Rattle.nfs_promises.proofs.laws.bytes.changes_are_new.Goals as goal

pub returns : goal.returns
returns c = changes_are_new
