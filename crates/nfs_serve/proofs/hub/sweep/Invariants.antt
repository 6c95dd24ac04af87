-- The ports so far were visited or passed over.
use Rattle.std.proofs.Common.{◌≡◌, ◌≤◌, ◌-◌, length}
use Rattle.nfs_serve.specs.{Server.state_of, Hub.at, Lane.desks_of, Sweep.{SweepsBelow, Quiet}}
use Rattle.nfs_serve.proofs.hub.sweep.Given as goal

abbrev pub invariant-loop-port : goal.invariant-loop-port
invariant-loop-port g l = record {
  kept : length l.lanes ≡ length l.fn.lanes;
  within : l.port ≤ length l.lanes;
  quiet : Quiet l.quiet l.lanes;
  sweeps : SweepsBelow l.port (state_of l.fn.engine.kept) (at (desks_of l.fn.lanes)) (state_of l.engine.kept) (at (desks_of l.lanes))
      (g.P.Ports.log l.fn.ports) (g.P.Ports.log l.ports) (g.C.Clock.told l.fn.clock) (g.C.Clock.told l.clock);
}

abbrev pub decreases-loop-port : goal.decreases-loop-port
decreases-loop-port g l = length l.lanes - l.port
