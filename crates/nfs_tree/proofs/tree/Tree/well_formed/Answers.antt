use Rattle.std.proofs.Common.{subst}
use Rattle.nfs_tree.specs.TreeInvariants.{IsTree}
use Rattle.nfs_tree.proofs.Walked.{well_formed}
use Rattle.nfs_tree.proofs.tree.Tree.well_formed.Goals as goal

pub returns : goal.returns
returns c = well_formed c.args.self.now (subst IsTree c.self.view_is c.self.invariant)
