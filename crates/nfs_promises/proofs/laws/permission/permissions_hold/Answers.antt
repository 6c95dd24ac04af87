use Rattle.nfs_promises.proofs.Permission.Permitted.{permissions_hold}
use Rattle.nfs_promises.proofs.laws.permission.permissions_hold.Goals as goal

pub returns : goal.returns
returns c = permissions_hold
