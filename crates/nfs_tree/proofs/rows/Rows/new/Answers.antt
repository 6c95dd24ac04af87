use Rattle.nfs_tree.proofs.Mapped.{mapped_none}
use Rattle.nfs_tree.proofs.rows.Rows.new.Goals as goal

pub invariant_of-result : goal.invariant_of-result
invariant_of-result c = mapped_none _ _ _ _ _ c.new.ensures c.new-2.ensures c.new-3.ensures.empty c.new-4.ensures.empty c.new-5.ensures
