-- What was done so far were sweeps.
use Rattle.std.proofs.Common.{◌≤◌, length}
use Rattle.nfs_serve.specs.{Server.state_of, Hub.ServesRounds, Lane.desks_of, Sweep.Quiet}
use Rattle.nfs_serve.proofs.hub.serve_lanes.Given as goal

abbrev pub invariant-loop : goal.invariant-loop
invariant-loop g l =
    ServesRounds l.most (state_of l.fn.engine.kept) (state_of l.engine.kept) (desks_of l.lanes.items) l.counter (g.P.Ports.log l.fn.ports) (g.P.Ports.log l.ports)
    (g.C.Clock.told l.fn.clock) (g.C.Clock.told l.clock)
    × (length l.lanes.items ≤ l.most) × Quiet l.quiet l.lanes.items
