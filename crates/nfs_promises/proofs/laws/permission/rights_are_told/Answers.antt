use Rattle.nfs_promises.proofs.Permission.RightsTold.{rights_are_told, root_is_told}
use Rattle.nfs_promises.proofs.laws.permission.rights_are_told.Goals as goal

pub returns : goal.returns
returns c = record { made = rights_are_told; root = root_is_told }
