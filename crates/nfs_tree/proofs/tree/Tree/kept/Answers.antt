use Rattle.std.proofs.Common.{subst}
use Rattle.nfs_tree.specs.TreeInvariants.{IsTree}
use Rattle.nfs_tree.proofs.tree.Tree.kept.Goals as goal

pub returns : goal.returns
returns c = subst IsTree c.self.view_is c.self.invariant
