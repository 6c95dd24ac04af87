use Rattle.std.proofs.Common.{true, refl, sym}
use Rattle.nfs_clients.proofs.FiledLemmas.{write_filed, unwritten}
use Rattle.nfs_clients.proofs.records.Records.reclaim.Goals as goal

pub invariant_of-self : goal.invariant_of-self
invariant_of-self c = (write_filed (λ x. record x { reclaimed = true }) (λ x. refl) c.self.inside.by_id.entries (c.get_mut.follows.lender c.reclaim.new.self).entries c.args.id
    c.in-Some.client.now c.reclaim.new.self c.self.invariant (sym c.in-Some.ensures.value) c.reclaim.ensures (c.get_mut.follows.holds c.reclaim.new.self).0).is

pub returns-in-Some : goal.returns-in-Some
returns-in-Some c = rw (← c.self.view_is) (write_filed (λ x. record x { reclaimed = true }) (λ x. refl) c.self.inside.by_id.entries (c.get_mut.follows.lender c.reclaim.new.self).entries c.args.id
    c.in-Some.client.now c.reclaim.new.self c.self.invariant (sym c.in-Some.ensures.value) c.reclaim.ensures (c.get_mut.follows.holds c.reclaim.new.self).0).view

pub returns : goal.returns
returns c = rw (← c.self.view_is, c.get_mut.follows.holds-at-none) (unwritten (λ x. record x { reclaimed = true }) c.self.inside.by_id.entries c.args.id c.self.invariant (sym c.in_default.ensures.value))
