use Rattle.std.proofs.Common.{ℕ, List, Option, Some, refl, subst}
use Rattle.std.specs.{Prelude.IsSome, Ordering.nat_cmp, Cmp.Lexicographic.slice_cmp, BTreeMap.UpdatesBy}
use Rattle.nfs_clients.specs.declared.owners.Ids.{Ids}
use Rattle.nfs_clients.proofs.OwnerLemmas.{anew}
use Rattle.nfs_clients.proofs.owners.Owners.put.Goals as goal

pub returns-in-Some-clause-ok : goal.returns-in-Some-clause-ok
returns-in-Some-clause-ok c = anew (λ k. k.items) c.args.self.now.ids (c.get_mut.follows.lender c.args.ids) c.args.owner.now (Some c.args.ids) c.args.ids
    ((c.get_mut.follows.holds c.args.ids).3 (subst (λ (o : Option Ids). IsSome o) c.in-Some.ensures.value refl)) refl

pub returns-clause-ok : goal.returns-clause-ok
returns-clause-ok c = rw (← c.get_mut.follows.holds-at-none) (anew (λ k. k.items) c.get_mut.follows.lender-at-none c.insert.new.self c.args.owner.now (Some c.args.ids) c.args.ids
    (subst (λ (q : List ℕ). UpdatesBy (λ x y. slice_cmp nat_cmp x.items y.items) (λ k. slice_cmp nat_cmp q k.items) c.get_mut.follows.lender-at-none c.insert.new.self (Some c.args.ids))
    c.in_ok-key.ensures.items c.in_ok-insert.ensures.updates) refl)
