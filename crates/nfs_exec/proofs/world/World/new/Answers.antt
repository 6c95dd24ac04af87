use Rattle.std.proofs.Common.{sym, subst}
use Rattle.nfs_exec.specs.Step.Machine.{IsMachine}
use Rattle.nfs_exec.proofs.Step.Invariant.{of_start}
use Rattle.nfs_exec.proofs.world.World.new.Goals as goal

pub invariant_of-result : goal.invariant_of-result
invariant_of-result c = record {
  machine = subst IsMachine (sym c.in_ok-tables.ensures.machine) (of_start c.args.start search);
  store = c.in_ok-tables.ensures.store;
}
