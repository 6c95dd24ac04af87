use Rattle.std.proofs.Common.{sym, subst}
use Rattle.nfs_exec.specs.Step.Machine.{IsMachine, machine_of}
use Rattle.nfs_exec.proofs.Step.Invariant.{of_expired}
use Rattle.nfs_exec.proofs.world.World.expire.Goals as goal

pub invariant_of-self : goal.invariant_of-self
invariant_of-self c = record {
  machine = subst IsMachine (sym c.expire.ensures.machine) (of_expired (machine_of c.self.inside.tables) c.args.now c.self.invariant.machine);
  store = c.expire.ensures.store;
}
