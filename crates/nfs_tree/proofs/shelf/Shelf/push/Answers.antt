use Rattle.std.proofs.Common.{◌≡◌, ◌∙◌, ap, sym, refl, subst, List, [], ◌∷◌, ◌++◌}
use Rattle.std.specs.{Ordering.nat_cmp, BTreeMap.insert_entry}
use Rattle.slab.specs.Slab.{Slab, get}
use Rattle.nfs_xdr.specs.Tables.{IsRising}
use Rattle.nfs_tree.specs.Indexed.{stored, Shelved}
use Rattle.nfs_tree.proofs.Shelves.{shelf_same, shelf_new, view_same, Made}
use Rattle.nfs_tree.proofs.shelf.Shelf.push.Given.{Over}
use Rattle.nfs_tree.proofs.shelf.Shelf.push.Goals as goal

pub invariant_of-self : goal.invariant_of-self
invariant_of-self g c =
    shelf_same g.K.Kept.made g.K.Kept.number c.self.inside.slab c.reserve.new.self _ _ (ap (λ (s : Slab g.row.K.Denot). s.slots) c.reserve.ensures.rest_kept) refl c.self.invariant

pub invariant_of-self-in_err-key : goal.invariant_of-self-in_err-key
invariant_of-self-in_err-key g c =
    shelf_same g.K.Kept.made g.K.Kept.number c.self.inside.slab c.reserve.new.self _ _ (ap (λ (s : Slab g.row.K.Denot). s.slots) c.reserve.ensures.rest_kept) refl c.self.invariant

pub invariant_of-self-in_err-insert : goal.invariant_of-self-in_err-insert
invariant_of-self-in_err-insert g c =
    shelf_same g.K.Kept.made g.K.Kept.number c.self.inside.slab c.reserve.new.self _ _ (ap (λ (s : Slab g.row.K.Denot). s.slots) c.reserve.ensures.rest_kept) c.in_err-insert.ensures.err c.self.invariant

seen : (g : Over) (c : goal.After-insert_reserved g) → stored g.K.Kept.made (get c.reserve.new.self) c.self.inside.keys.entries ≡ c.args.self.now.items
seen g c = view_same g.K.Kept.made g.K.Kept.number c.self.inside.slab c.reserve.new.self c.self.inside.keys.entries (ap (λ (s : Slab g.row.K.Denot). s.slots) c.reserve.ensures.rest_kept)
    ∙ ap (λ (x : Shelved g.row.T.Denot). x.items) c.self.view_is

made : (g : Over) (c : goal.After-insert_reserved g)
    → Made g.K.Kept.made g.K.Kept.number c.reserve.new.self c.insert_reserved.new.self c.self.inside.keys.entries c.insert.new.self.entries (g.K.Kept.made c.args.number c.args.value)
made g c =
    let slots = ap (λ (s : Slab g.row.K.Denot). s.slots) c.reserve.ensures.rest_kept in
    let es = c.self.inside.keys.entries in
    let is = shelf_same g.K.Kept.made g.K.Kept.number c.self.inside.slab c.reserve.new.self es es slots refl c.self.invariant in
    let up = subst (λ xs. IsRising g.K.Kept.number 0 xs c.args.number) (sym (seen g c)) c.requires in
    let key : c.in_ok-key.key ≡ c.insert_reserved.result = c.in_ok-key.ensures.same ∙ c.vacant_key.ensures.value ∙ sym c.insert_reserved.ensures.key in
    let entries : c.insert.new.self.entries ≡ insert_entry nat_cmp es c.args.number c.insert_reserved.result =
    c.in_ok-insert.ensures.entries ∙ ap (insert_entry nat_cmp es c.args.number) key in
    shelf_new g.K.Kept.made g.K.Kept.number c.reserve.new.self c.insert_reserved.new.self es c.insert.new.self.entries c.args.number c.insert_reserved.result c.args.value
    (g.K.Kept.numbers c.args.number c.args.value) is up c.insert_reserved.ensures.was_vacant c.insert_reserved.ensures.updates entries

pub invariant_of-self-2 : goal.invariant_of-self-2
invariant_of-self-2 g c = (made g c).is

pub returns-clause-ok : goal.returns-clause-ok
returns-clause-ok g c = (made g c).view ∙ ap (λ (xs : List g.row.T.Denot). xs ++ g.K.Kept.made c.args.number c.args.value ∷ []) (seen g c)
