use Rattle.nfs_tree.proofs.Found.{new_is_unused}
use Rattle.nfs_tree.proofs.laws.new_is_unused.Goals as goal

pub returns : goal.returns
returns c = new_is_unused
