use Rattle.std.proofs.Common.{Some, None, ◌∙◌, ap, sym}
use Rattle.std.specs.Prelude.{option_map}
use Rattle.nfs_tree.proofs.Shelves.{find_by, shelf_without, without_none, Lost}
use Rattle.nfs_tree.proofs.shelf.Shelf.remove.Given.{Over}
use Rattle.nfs_tree.proofs.shelf.Shelf.remove.Goals as goal

lost : (g : Over) (c : goal.After-take_at g) → Lost g.K.Kept.made g.K.Kept.number c.self.inside.slab c.take_at.new.slab c.self.inside.keys.entries c.remove.new.self.entries c.args.number
lost g c = shelf_without g.K.Kept.made g.K.Kept.number c.self.inside.slab c.take_at.new.slab c.self.inside.keys.entries c.remove.new.self.entries
    c.args.number c.in-Some.key c.self.invariant (sym c.in-Some.ensures.value) c.take_at.ensures.updates c.in-Some.ensures.entries

pub invariant_of-self : goal.invariant_of-self
invariant_of-self g c = (lost g c).is

pub returns-in-Some-clause-items : goal.returns-in-Some-clause-items
returns-in-Some-clause-items g c = rw (← c.self.view_is) (lost g c).view

pub returns-in-None-clause-items : goal.returns-in-None-clause-items
returns-in-None-clause-items g c =
    rw (← c.self.view_is, c.in-None.ensures.unchanged)
    (sym (without_none g.K.Kept.made g.K.Kept.number c.self.inside.slab c.self.inside.keys.entries c.args.number c.self.invariant c.in-None.ensures.value))

pub returns-in-None-clause-taken : goal.returns-in-None-clause-taken
returns-in-None-clause-taken g c =
    rw (← c.self.view_is) (find_by g.K.Kept.made g.K.Kept.number c.self.inside.slab c.self.inside.keys.entries c.args.number None c.self.invariant c.in-None.ensures.value)

pub returns-in-Some-clause-taken : goal.returns-in-Some-clause-taken
returns-in-Some-clause-taken g c =
    rw (← c.self.view_is) (ap (option_map (g.K.Kept.made c.args.number)) c.take_at.ensures.taken
    ∙ find_by g.K.Kept.made g.K.Kept.number c.self.inside.slab c.self.inside.keys.entries c.args.number (Some c.in-Some.key) c.self.invariant c.in-Some.ensures.value)
