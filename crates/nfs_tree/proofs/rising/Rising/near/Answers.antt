use Rattle.std.proofs.Common.{rules, ◌≡◌, List, Some, sym, ap, subst, ◌∙◌}
use Rattle.std.specs.Prelude.{option_map, IfSome}
use Rattle.slab.specs.Slab.{get}
use Rattle.nfs_xdr.specs.Tables.{record_at}
use Rattle.nfs_tree.proofs.Shelves.{find_pair, if_lent}
use Rattle.nfs_tree.proofs.rising.Rising.near.Goals.{in-Some, in-None}
use Rattle.nfs_tree.proofs.rising.Rising.near.Goals as goal

pub invariant_of-self : goal.invariant_of-self
invariant_of-self g c = (c.self.invariant.0, λ e there. c.self.invariant.1 e (c.hit.ensures.rest e there))

pub returns-clause-found : goal.returns-clause-found
returns-clause-found g c =
    let made = g.K.Kept.made in
    let number = g.K.Kept.number in
    let n = c.args.number in
    let slab = c.self.inside.slab.now in
    elim c.match-hit.branch [
      | in-Some w ↦ (
          let there = c.self.invariant.1 (n, w.in-Some.key) w.in-Some.ensures.hit in
          let found = find_pair made number slab c.self.inside.keys.now.entries n w.in-Some.key c.self.invariant.0 there
          ∙ ap (λ (xs : List g.row.T.Denot). record_at number xs n) c.self.view_is in
          subst (λ r. IfSome r (λ k. Some (made n k.now) ≡ record_at number c.args.self.now n)) (sym w.result-is)
          (if_lent w.get.result (get slab w.in-Some.key) (λ (k : g.row.K.Denot). Some (made n k) ≡ record_at number c.args.self.now n) w.get.ensures
          (λ k is. sym (ap (option_map (made n)) is) ∙ found)))
      | in-None w ↦ search (rules, w.result-is)
    ]
