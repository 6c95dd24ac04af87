use Rattle.std.proofs.{Common.{◌≡◌, true, false, ap, subst, length, rules}, lemmas.List.{get_or_past, length-map}}
use Rattle.nfs_serve.specs.{Server.state_of, Desk.closed, Hub.at, Lane.desks_of, Sweep.{Begins, SweepsBelow}}
use Rattle.nfs_serve.proofs.Sweeps.{swept}
use Rattle.nfs_serve.proofs.hub.serve_once.Goals as goal

pub returns-clause-serves : goal.returns-clause-serves
returns-clause-serves g c =
    let begun : c.begin_sweep.result ≡ true = search rules in
    let old = desks_of c.args.lanes.now in
    let mid = desks_of c.begin_sweep.new.lanes in
    let made = length c.args.lanes.now in
    swept made _ _ (at old) (at mid) _ _ _ _ _ _ _ c.requires.ports (λ p above. get_or_past old p closed (rw length-map above))
    (subst (λ b. Begins made b (at old) (at mid) (g.P.Ports.log c.args.ports.now) (g.P.Ports.log c.begin_sweep.new.ports)) begun c.begin_sweep.ensures.begins)
    (c.begin_sweep.ensures.told begun)
    (subst (λ s. SweepsBelow made s (at mid) (state_of c.sweep.new.engine.kept) (at (desks_of c.sweep.new.lanes))
    (g.P.Ports.log c.begin_sweep.new.ports) (g.P.Ports.log c.sweep.new.ports) (g.C.Clock.told c.begin_sweep.new.clock) (g.C.Clock.told c.sweep.new.clock))
    c.tidy-left.ensures.state
    (subst (λ n. SweepsBelow n (state_of c.tidy-left.new.self.kept) (at mid) (state_of c.sweep.new.engine.kept) (at (desks_of c.sweep.new.lanes))
    (g.P.Ports.log c.begin_sweep.new.ports) (g.P.Ports.log c.sweep.new.ports) (g.C.Clock.told c.begin_sweep.new.clock) (g.C.Clock.told c.sweep.new.clock))
    c.begin_sweep.ensures.length c.sweep.ensures.sweeps))

pub returns-then-not-begin_sweep-clause-serves : goal.returns-then-not-begin_sweep-clause-serves
returns-then-not-begin_sweep-clause-serves g c =
    let none : c.begin_sweep.result ≡ false = search rules in
    let (lanes, told) = c.begin_sweep.ensures.over none in (
      c.tidy-left.ensures.state,
      (λ p. ap (λ l. at (desks_of l) p) lanes),
      subst (λ b. Begins (length c.args.lanes.now) b (at (desks_of c.args.lanes.now)) (at (desks_of c.begin_sweep.new.lanes)) (g.P.Ports.log c.args.ports.now) (g.P.Ports.log c.begin_sweep.new.ports)) none c.begin_sweep.ensures.begins,
      told,
    )
