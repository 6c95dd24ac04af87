use Rattle.std.proofs.Common.{ap, refl}
use Rattle.slab.specs.Slab.{Slab}
use Rattle.nfs_tree.proofs.Shelves.{shelf_same}
use Rattle.nfs_tree.proofs.shelf.Shelf.reserve.Goals as goal

pub invariant_of-self : goal.invariant_of-self
invariant_of-self g c =
    shelf_same g.K.Kept.made g.K.Kept.number c.self.inside.slab c.reserve.new.self _ _ (ap (λ (s : Slab g.row.K.Denot). s.slots) c.reserve.ensures.rest_kept) refl c.self.invariant
