use Rattle.std.proofs.Common.{Some, None, ◌∙◌, ap}
use Rattle.std.specs.Prelude.{option_map}
use Rattle.nfs_tree.proofs.Shelves.{find_by}
use Rattle.nfs_tree.proofs.shelf.Shelf.get_at.Goals as goal

pub returns-in-None : goal.returns-in-None
returns-in-None g c =
    rw (← c.self.view_is) (find_by g.K.Kept.made g.K.Kept.number c.self.inside.slab c.self.inside.keys.entries c.args.number None c.self.invariant c.in-None.ensures.value)

pub returns-in-None-get : goal.returns-in-None-get
returns-in-None-get g c =
    rw (← c.self.view_is) (ap (option_map (g.K.Kept.made c.args.number)) c.in-None-get.ensures
    ∙ find_by g.K.Kept.made g.K.Kept.number c.self.inside.slab c.self.inside.keys.entries c.args.number (Some c.in-Some.key.now) c.self.invariant c.in-Some.ensures.value)

pub returns-in-Some-get : goal.returns-in-Some-get
returns-in-Some-get g c =
    rw (← c.self.view_is) (ap (option_map (g.K.Kept.made c.args.number)) c.in-Some-get.ensures
    ∙ find_by g.K.Kept.made g.K.Kept.number c.self.inside.slab c.self.inside.keys.entries c.args.number (Some c.in-Some.key.now) c.self.invariant c.in-Some.ensures.value)
