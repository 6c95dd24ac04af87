use Rattle.std.proofs.Common.{Some, None, ◌∙◌, ap}
use Rattle.std.specs.Prelude.{option_map}
use Rattle.nfs_tree.proofs.Shelves.{find_by}
use Rattle.nfs_tree.proofs.rising.Rising.sought.Goals as goal

pub returns-in-None : goal.returns-in-None
returns-in-None g c =
    rw (← c.self.view_is) (find_by g.K.Kept.made g.K.Kept.number c.self.inside.slab.now c.self.inside.keys.now.entries c.args.number None c.self.invariant.0 c.in-None.ensures.value)

pub returns-in-Some : goal.returns-in-Some
returns-in-Some g c =
    rw (← c.self.view_is) (ap (option_map (g.K.Kept.made c.args.number)) c.get-in-Some.ensures
    ∙ find_by g.K.Kept.made g.K.Kept.number c.self.inside.slab.now c.self.inside.keys.now.entries c.args.number (Some c.in-Some.key.now) c.self.invariant.0 c.in-Some.ensures.value)
