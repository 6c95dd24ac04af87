use borrow.Follows.Closed.{read_of}
use Rattle.std.proofs.Common.{◌≡◌, List, Some, None, option_map, sym, ap, ◌∙◌, inr}
use Rattle.std.specs.Option.{ghost_name_of}
use Rattle.slab.specs.Slab.{get, with_value}
use Rattle.nfs_xdr.specs.Tables.{In, with_record}
use Rattle.nfs_tree.specs.Indexed.{stored, Shelved}
use Rattle.nfs_tree.proofs.Shelves.{find_by, shelf_put, shelf_one, if_lent_mut}
use Rattle.nfs_tree.proofs.shelf.Shelf.get_mut.Given.{Over}
use Rattle.nfs_tree.proofs.shelf.Shelf.get_mut.Goals as goal

pub invariant_of-self-lent : goal.invariant_of-self-lent
invariant_of-self-lent g c = λ _. (
  λ w. (shelf_put g.K.Kept.made g.K.Kept.number c.self.inside.slab c.self.inside.keys.entries c.args.number c.in-Some.key w
      (g.K.Kept.numbers c.args.number w) c.self.invariant (sym c.key_of.ensures ∙ c.in-Some.is)).is,
  c.self.invariant,
)

pub returns-in-None : goal.returns-in-None
returns-in-None g c = (
  ap inr c.self.view_is,
  record {
    writes_back = tt;
    value = rw (← c.self.view_is) (find_by g.K.Kept.made g.K.Kept.number c.self.inside.slab c.self.inside.keys.entries c.args.number None c.self.invariant (sym c.in-None.is ∙ c.key_of.ensures));
    one = tt;
  },
)

shown : (g : Over) (c : goal.After-self-in-Some-2-1 g) (w : g.row.K.Denot)
    → ◌≡◌ {A = Shelved g.row.T.Denot} (record { items = stored g.K.Kept.made (get (with_value c.self.inside.slab c.in-Some.key w)) c.self.inside.keys.entries; room = c.self.inside.slab.capacity })
    (record { items = with_record g.K.Kept.number (stored g.K.Kept.made (get c.self.inside.slab) c.self.inside.keys.entries) c.args.number (λ _. g.K.Kept.made c.args.number w); room = c.self.inside.slab.capacity })
shown g c w = ap (λ (xs : List g.row.T.Denot). record { items = xs; room = c.self.inside.slab.capacity })
    (shelf_put g.K.Kept.made g.K.Kept.number c.self.inside.slab c.self.inside.keys.entries c.args.number c.in-Some.key w
    (g.K.Kept.numbers c.args.number w) c.self.invariant (sym c.key_of.ensures ∙ c.in-Some.is)).view

pub returns-in-Some : goal.returns-in-Some
returns-in-Some g c =
    let made = g.K.Kept.made in
    let number = g.K.Kept.number in
    let n = c.args.number in
    let slab = c.self.inside.slab in
    let es = c.self.inside.keys.entries in
    let found = find_by made number slab es n (Some c.in-Some.key) c.self.invariant (sym c.in-Some.is ∙ c.key_of.ensures) in
    rw (← c.self.view_is) (
      λ t. read_of (ghost_name_of c.get_mut.result) (λ (w : g.row.K.Denot). shown g c w t) (record { items = stored made (get slab) es; room = slab.capacity }),
      record {
        writes_back = tt;
        value = ap (option_map (made n)) c.get_mut.ensures.value ∙ found;
        one = if_lent_mut c.get_mut.result (get slab c.in-Some.key) (λ (k : g.row.K.Denot). (x : g.row.T.Denot) → In x (stored made (get slab) es) → number x ≡ n → x ≡ made n k)
            c.get_mut.ensures.value (λ k is x there same. shelf_one made number slab es n (made n k) x c.self.invariant (sym found ∙ ap (option_map (made n)) is) there same);
      },
    )
