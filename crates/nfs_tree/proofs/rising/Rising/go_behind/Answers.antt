use Rattle.std.proofs.Common.{subst}
use Rattle.nfs_xdr.specs.Tables.{In}
use Rattle.nfs_xdr.proofs.Lists.{in_filter}
use Rattle.nfs_tree.proofs.rising.Rising.go_behind.Goals as goal

pub invariant_of-self : goal.invariant_of-self
invariant_of-self g c =
    (c.self.invariant.0, λ e there. (in_filter _ c.self.inside.keys.now.entries e (subst (In e) (c.range-self-inside.ensures.between tt) there)).0)
