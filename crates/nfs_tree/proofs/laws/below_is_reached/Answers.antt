use Rattle.nfs_tree.proofs.Below.{below_is_reached}
use Rattle.nfs_tree.proofs.laws.below_is_reached.Goals as goal

pub returns : goal.returns
returns c = below_is_reached
