use Rattle.std.proofs.Common.{◌≡◌, ◌≤◌, length, arith, subst, refl, ◌∙◌, rules}
use Rattle.nfs_serve.specs.{Server.state_of, Hub.at, Lane.desks_of, Sweep.SweepsBelow}
use Rattle.nfs_serve.proofs.Sweeps.{sweep_start}
use Rattle.nfs_serve.proofs.hub.sweep.Goals as goal

pub loop-port-init : goal.loop-port-init
loop-port-init g c = record {
  kept = refl;
  within = omega arith;
  quiet = c.requires.quiet;
  sweeps = sweep_start (state_of c.args.engine.now.kept) (at (desks_of c.args.lanes.now)) _ _;
}

pub loop-port-preserved : goal.loop-port-preserved
loop-port-preserved g c =
    let before = c.loop-port.invariant in
    let same = c.visit_next-port.ensures.length in record {
      kept = same ∙ before.kept;
      within = omega (arith, c.visit_next-port.ensures.order.1, same);
      quiet = c.visit_next-port.ensures.quiet;
      sweeps = c.visit_next-port.ensures.sweeps _ _ _ _ before.sweeps;
    }

pub returns-clause-sweeps : goal.returns-clause-sweeps
returns-clause-sweeps g c =
    let before = c.loop-port.invariant in
    let past : length c.loop-port.lanes ≤ c.loop-port.port = search rules in
    let all : c.loop-port.port ≡ length c.args.lanes.now = omega (arith, before.within, before.kept, past) in
    subst (λ n. SweepsBelow n (state_of c.args.engine.now.kept) (at (desks_of c.args.lanes.now)) (state_of c.loop-port.engine.kept) (at (desks_of c.loop-port.lanes))
    (g.P.Ports.log c.args.ports.now) (g.P.Ports.log c.loop-port.ports) (g.C.Clock.told c.args.clock.now) (g.C.Clock.told c.loop-port.clock)) all before.sweeps
