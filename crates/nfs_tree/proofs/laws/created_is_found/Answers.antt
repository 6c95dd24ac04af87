use Rattle.nfs_tree.proofs.Found.{created_is_found}
use Rattle.nfs_tree.proofs.laws.created_is_found.Goals as goal

pub returns : goal.returns
returns c = created_is_found
