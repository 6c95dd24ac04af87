use Rattle.std.proofs.Common.{sym, ◌∙◌}
use Rattle.nfs_tree.proofs.Shelves.{shelf_length}
use Rattle.nfs_tree.proofs.shelf.Shelf.len.Goals as goal

pub returns : goal.returns
returns g c = rw (← c.self.view_is) (c.len.ensures.len ∙ sym (shelf_length g.K.Kept.made g.K.Kept.number c.self.inside.slab c.self.inside.keys.entries c.self.invariant))
