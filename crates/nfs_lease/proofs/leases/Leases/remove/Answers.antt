use Rattle.std.proofs.Common.{◌∙◌, ap}
use Rattle.nfs_lease.specs.Renewals.{leases_of, without_lease}
use Rattle.nfs_lease.proofs.Queue.{queue_removed, maps_removed, count_removed}
use Rattle.nfs_lease.proofs.leases.Leases.remove.Goals as goal

pub invariant_of-self : goal.invariant_of-self
invariant_of-self c = rw c.pop.ensures.entries (queue_removed c.args.client _ c.self.invariant.0, c.self.invariant.1)

pub returns-clause-lease : goal.returns-clause-lease
returns-clause-lease c = rw c.pop.ensures.entries
    (maps_removed c.args.client c.self.inside.renewals.entries c.self.invariant.0
    ∙ ap (λ k. without_lease (leases_of k) c.args.client) c.self.view_is)

pub returns-clause-standing : goal.returns-clause-standing
returns-clause-standing c = rw (c.pop.ensures.entries, ← c.self.view_is) (count_removed c.args.client c.self.inside.renewals.entries)
