use Rattle.std.proofs.Common.{sym, subst}
use Rattle.nfs_xdr.specs.Caller.{caller}
use Rattle.nfs_lease.specs.Queue.{IsLatest}
use Rattle.nfs_exec.specs.{Step.Machine.{Machine, IsMachine, machine_of}, declared.tables.Tables.Tables}
use Rattle.nfs_exec.proofs.{Step.Invariant.of_compound, Step.LeaseMoments.latest_compound}
use Rattle.nfs_exec.proofs.world.World.compound.Goals as goal

pub invariant_of-self : goal.invariant_of-self
invariant_of-self c = record {
  machine =
      subst IsMachine (sym c.compound.ensures.answer.1.machine)
      (of_compound (machine_of c.self.inside.tables) c.args.args.now
      (caller c.args.who.now) c.args.size c.args.now c.compound.ensures.answer.0 c.self.invariant.machine);
  store = c.compound.ensures.store;
}

pub returns-clause-latest : goal.returns-clause-latest
returns-clause-latest c =
    subst (λ (m : Machine). IsLatest m.leases c.args.now) (sym c.compound.ensures.answer.1.machine)
    (latest_compound (machine_of c.self.inside.tables) c.args.args.now (caller c.args.who.now) c.args.size c.args.now c.compound.ensures.answer.0
    (subst (λ (t : Tables). IsLatest (machine_of t).leases c.args.now) (sym c.self.view_is) c.requires.latest))
