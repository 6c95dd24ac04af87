use Rattle.std.proofs.Common.{sym}
use Rattle.nfs_tree.specs.Indexed.{placed}
use Rattle.nfs_tree.proofs.Climb.{one_parent}
use Rattle.nfs_tree.proofs.rows.Rows.above.Goals as goal

pub returns-in-Some : goal.returns-in-Some
returns-in-Some c =
    let of = c.in-Some.ensures.row in
    let is = rw c.self.view_is at of.1 in
    sym (one_parent c.args.self.now c.args.row.now.directory (placed of.0 c.in-Some.above.now) is c.in-Some.ensures.object c.requires)
