use Rattle.std.proofs.Common.{subst}
use Rattle.nfs_xdr.specs.Tables.{In}
use Rattle.nfs_xdr.proofs.Lists.{in_filter}
use Rattle.nfs_tree.proofs.shelf.Shelf.rising.Goals as goal

pub invariant_of-result : goal.invariant_of-result
invariant_of-result g c =
    (c.self.invariant, λ e there. (in_filter _ c.self.inside.keys.entries e (subst (In e) (c.range.ensures.between tt) there)).0)
