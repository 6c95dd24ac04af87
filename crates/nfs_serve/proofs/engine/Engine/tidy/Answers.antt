use Rattle.std.proofs.Common.{sym, subst}
use Rattle.nfs_lease.specs.Queue.{IsLatest}
use Rattle.nfs_exec.specs.Step.Machine.{Machine}
use Rattle.nfs_serve.proofs.engine.Engine.tidy.Goals as goal

pub invariant_of-self : goal.invariant_of-self
invariant_of-self c = (
  c.self.invariant.0,
  c.self.invariant.1,
  subst (λ (m : Machine). IsLatest m.leases c.self.inside.moment) (sym c.tidy.ensures) c.self.invariant.2,
  c.self.invariant.3,
)
