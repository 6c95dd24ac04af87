use Rattle.nfs_tree.specs.ByName.{cookies}
use Rattle.nfs_tree.proofs.rows.Rows.list.Goals as goal

pub new-requires : goal.new-requires
new-requires c = record { at = cookies c.self.inside.tables.names; named = c.self.invariant.named; listed = c.self.invariant.listed }
