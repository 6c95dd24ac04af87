use Rattle.std.proofs.Common.{◌∙◌, ap, sym, subst, arith}
use Rattle.std.specs.Prelude.{length, ◌<◌}
use Rattle.nfs_lease.specs.{Renewals.{leases_of, with_lease}, Queue.IsLatest}
use Rattle.nfs_lease.proofs.Queue.{put_front, queue_front, maps_front}
use Rattle.nfs_lease.proofs.leases.Leases.add.Goals as goal

pub invariant_of-self-2 : goal.invariant_of-self-2
invariant_of-self-2 c =
    let fits = c.len-count.ensures.fits in let len = c.len-count.ensures.len in let cap = c.self.invariant.1 in
    let few : length c.self.inside.renewals.entries < c.self.inside.renewals.cap = omega arith in
    rw (c.in_ok-put.ensures.entries, put_front c.args.client c.args.now c.self.inside.renewals.cap c.self.inside.renewals.entries few) (
      queue_front c.args.client c.args.now c.self.inside.renewals.entries c.self.invariant.0
          (subst (λ k. IsLatest (leases_of k) c.args.now) (sym c.self.view_is) c.requires),
      c.self.invariant.1,
    )

pub returns-clause-ok : goal.returns-clause-ok
returns-clause-ok c =
    let fits = c.len-count.ensures.fits in let len = c.len-count.ensures.len in let cap = c.self.invariant.1 in
    let few : length c.self.inside.renewals.entries < c.self.inside.renewals.cap = omega arith in
    rw (c.in_ok-put.ensures.entries, put_front c.args.client c.args.now c.self.inside.renewals.cap c.self.inside.renewals.entries few)
    (maps_front c.args.client c.args.now c.self.inside.renewals.entries c.self.invariant.0
    ∙ ap (λ k. with_lease (leases_of k) c.args.client c.args.now) c.self.view_is)
