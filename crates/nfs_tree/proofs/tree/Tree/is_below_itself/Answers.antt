use Rattle.std.proofs.Common.{sym}
use Rattle.nfs_tree.specs.Calls.{move_of}
use Rattle.nfs_tree.proofs.Within.{stays_above}
use Rattle.nfs_tree.proofs.tree.Tree.is_below_itself.Goals as goal

pub returns-then-m : goal.returns-then-m
returns-then-m c = sym (stays_above c.args.self.now (move_of c.args.m.now) c.kept.ensures c.if-m.true)
