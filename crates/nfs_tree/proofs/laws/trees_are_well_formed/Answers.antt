use Rattle.nfs_tree.proofs.Walked.{well_formed}
use Rattle.nfs_tree.proofs.laws.trees_are_well_formed.Goals as goal

pub returns : goal.returns
returns c = well_formed
