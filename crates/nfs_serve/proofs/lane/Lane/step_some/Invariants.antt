-- Parts were stepped, one at least.
use Rattle.std.proofs.Common.{length}
use Rattle.nfs_serve.specs.Lane.{stand, StepsSome}
use Rattle.nfs_serve.proofs.lane.Lane.step_some.Given as goal

abbrev pub invariant-loop-self : goal.invariant-loop-self
invariant-loop-self g l = StepsSome l.port (stand l.fn.engine.kept l.fn.self (g.P.Ports.log l.fn.ports) (g.C.Clock.told l.fn.clock))
    (stand l.engine.kept l.self (g.P.Ports.log l.ports) (g.C.Clock.told l.clock)) l.fn.left l.left

abbrev pub decreases-loop-self : goal.decreases-loop-self
decreases-loop-self g l = length l.self.unread
