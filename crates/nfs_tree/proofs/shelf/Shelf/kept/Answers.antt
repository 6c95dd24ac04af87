use Rattle.std.proofs.Common.{arith}
use Rattle.nfs_tree.proofs.{Shelves.shelf_length, StoredLemmas.rising_stored}
use Rattle.nfs_tree.proofs.shelf.Shelf.kept.Goals as goal

pub returns-clause-rising : goal.returns-clause-rising
returns-clause-rising g c = (
  c.self.invariant.high,
  rw (← c.self.view_is)
      (rising_stored g.K.Kept.made g.K.Kept.number _ 0 c.self.invariant.high c.self.inside.keys.entries c.self.invariant.stored c.self.invariant.rising),
)

pub returns-clause-few : goal.returns-clause-few
returns-clause-few g c =
    let long = shelf_length g.K.Kept.made g.K.Kept.number c.self.inside.slab c.self.inside.keys.entries c.self.invariant in
    let few = c.len.ensures.small in
    let is = c.len.ensures.len in
    rw (← c.self.view_is) (omega arith)
