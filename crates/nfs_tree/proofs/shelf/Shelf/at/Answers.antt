use Rattle.slab.specs.Slab.{get}
use Rattle.nfs_tree.proofs.Shelves.{is_shelved, if_lent}
use Rattle.nfs_tree.proofs.shelf.Shelf.at.Goals as goal

pub returns : goal.returns
returns g c =
    rw (← c.self.view_is) (if_lent c.get.result (get c.self.inside.slab c.args.key) _ c.get.ensures
    (λ k here. is_shelved g.K.Kept.made g.K.Kept.number c.self.inside.slab c.self.inside.keys.entries c.args.key k c.self.invariant here))
