use Rattle.std.proofs.Common.{◌∙◌, ap, sym, subst}
use Rattle.nfs_lease.specs.{Renewals.{leases_of, with_renewal}, Queue.IsLatest}
use Rattle.nfs_lease.proofs.Queue.{renews, rests}
use Rattle.nfs_lease.proofs.leases.Leases.renew.Goals as goal
use Rattle.nfs_lease.proofs.leases.Leases.renew.Goals.{in-Some, in_default}

pub invariant_of-self : goal.invariant_of-self
invariant_of-self c = elim c.match-get_mut.branch [
  | in-Some w ↦ rw w.self-inside-is (
    (renews c.args.client c.args.now c.self.inside.renewals.entries
        c.self.invariant.0 (subst (λ k. IsLatest (leases_of k) c.args.now) (sym c.self.view_is) c.requires)).queue,
    c.self.invariant.1,
  )
  | in_default w ↦ rw w.self-inside-is c.self.invariant
]

pub returns : goal.returns
returns c = elim c.match-get_mut.branch [
  | in-Some w ↦ rw w.self-inside-is ((renews c.args.client c.args.now c.self.inside.renewals.entries
      c.self.invariant.0 (subst (λ k. IsLatest (leases_of k) c.args.now) (sym c.self.view_is) c.requires)).map
      ∙ ap (λ k. with_renewal (leases_of k) c.args.client c.args.now) c.self.view_is)
  | in_default w ↦ rw w.self-inside-is
      (rests c.args.client c.args.now c.self.inside.renewals.entries (sym w.in_default.ensures.value)
      ∙ ap (λ k. with_renewal (leases_of k) c.args.client c.args.now) c.self.view_is)
]
