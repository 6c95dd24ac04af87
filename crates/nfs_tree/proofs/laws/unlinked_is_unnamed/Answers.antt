use Rattle.nfs_tree.proofs.Found.{unlinked_is_unnamed}
use Rattle.nfs_tree.proofs.laws.unlinked_is_unnamed.Goals as goal

pub returns : goal.returns
returns c = unlinked_is_unnamed
