use Rattle.std.proofs.Common.{arith, sym, subst}
use Rattle.nfs_lease.specs.Queue.{IsLatest}
use Rattle.nfs_exec.specs.Step.Machine.{Machine, machine_of}
use Rattle.nfs_serve.proofs.Stepping.{latest_expired}
use Rattle.nfs_serve.proofs.engine.Engine.pass.Goals as goal

pub invariant_of-self : goal.invariant_of-self
invariant_of-self c = (
  c.self.invariant.0,
  c.self.invariant.1,
  subst (λ (m : Machine). IsLatest m.leases c.max-self-inside.result) (sym c.tidy.ensures)
      (latest_expired (machine_of c.self.inside.world) (machine_of c.expire.new.self) c.self.inside.moment c.max-self-inside.result c.expire.ensures
      (rw c.max-self-inside.ensures (omega arith)) c.self.invariant.2),
  rw c.max-self-inside.ensures (let before = c.self.invariant.3 in let now = c.requires in omega (arith, before, now)),
)
