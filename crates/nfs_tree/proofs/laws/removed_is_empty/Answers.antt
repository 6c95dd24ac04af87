use Rattle.nfs_tree.proofs.Found.{removed_is_empty}
use Rattle.nfs_tree.proofs.laws.removed_is_empty.Goals as goal

pub returns : goal.returns
returns c = removed_is_empty
