use Rattle.std.proofs.Common.{Option, None, Some, refl, sym, subst}
use Rattle.std.specs.Prelude.{IsSome}
use Rattle.nfs_clients.specs.declared.owners.Ids.{Ids}
use Rattle.nfs_clients.proofs.OwnerLemmas.{anew}
use Rattle.nfs_clients.proofs.owners.Owners.set.Goals as goal

pub returns-then-is_none : goal.returns-then-is_none
returns-then-is_none c = anew (λ k. k.items) c.args.self.now.ids c.remove.new.self c.args.owner.now None c.args.ids c.remove.ensures.updates (sym (c.is_none.ensures c.if-is_none.true))

pub returns-in-Some : goal.returns-in-Some
returns-in-Some c = anew (λ k. k.items) c.args.self.now.ids (c.get_mut.follows.lender c.args.ids) c.args.owner.now (Some c.args.ids) c.args.ids
    ((c.get_mut.follows.holds c.args.ids).3 (subst (λ (o : Option Ids). IsSome o) c.in-Some.ensures.value refl)) refl
