use Rattle.std.proofs.Common.{◌≡◌, ℕ, true, None, sym, ap, subst, ◌∙◌}
use Rattle.nfs_lease.specs.{Renewals.{leases_of, has_run_out}, Queue.{standing, IsNextOut}}
use Rattle.nfs_exec.specs.{Step.Expiry.expired, Step.Machine.machine_of}
use Rattle.nfs_exec.proofs.Step.Expiring.{expired_without, expired_none, fewer}
use Rattle.nfs_exec.proofs.tables.Tables.expire.Goals as goal

pub loop-client-smaller : goal.loop-client-smaller
loop-client-smaller c =
    let out = subst (λ (lease : ℕ). has_run_out lease (leases_of c.loop-client.self.leases) c.args.now c.in-Some.client ≡ true) c.from.ensures c.in-Some.ensures in
    fewer c.loop-client.self.store.lease (leases_of c.loop-client.self.leases) c.args.now c.in-Some.client
    (standing c.loop-client.self.leases) (standing c.drop_client.new.self.leases) out c.drop_client.ensures.standing

pub loop-client-preserved : goal.loop-client-preserved
loop-client-preserved c =
    let out = subst (λ (lease : ℕ). has_run_out lease (leases_of c.loop-client.self.leases) c.args.now c.in-Some.client ≡ true) c.from.ensures c.in-Some.ensures in
    record {
      same = ap (expired c.args.now) c.drop_client.ensures.machine
          ∙ expired_without (machine_of c.loop-client.self) c.args.now c.in-Some.client out ∙ c.loop-client.invariant.same;
      store = c.drop_client.ensures.store;
    }

pub returns-clause-machine : goal.returns-clause-machine
returns-clause-machine c =
    let none = subst (λ (lease : ℕ). IsNextOut lease (leases_of c.loop-client.self.leases) c.args.now None) c.from.ensures c.in_default.ensures in
    sym (expired_none (machine_of c.loop-client.self) c.args.now c.loop-client.invariant.store c.kept.ensures none)
    ∙ c.loop-client.invariant.same
