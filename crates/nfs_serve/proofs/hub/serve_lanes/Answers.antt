use Rattle.std.proofs.Common.{arith, ◌≡◌, ◌≤◌, ◌^◌, ◌-◌, true, false, inl, inr, refl, ap, ◌∙◌, subst, length, drop, rules}
use Rattle.nfs_serve.specs.{Server.state_of, Hub.{at}, Lane.desks_of, Sweep.ServesOnce}
use Rattle.nfs_serve.proofs.{Rounds.{start, grown, more, given_back}, Sweeps.of_more}
use Rattle.nfs_serve.proofs.hub.serve_lanes.Goals as goal

pub loop-init : goal.loop-init
loop-init g c = (start c.args.most (state_of c.args.engine.now.kept) c.args.lanes.now.items _ _ c.requires.closed, c.requires.ports, λ e. cc)

pub loop-preserved : goal.loop-preserved
loop-preserved g c =
    let (before, len, quiet) = c.loop.invariant in
    let begun : c.serve_once.result ≡ true = search rules in
    let same : c.deref_mut.result.now ≡ c.grow.new.lanes.items = search rules in
    let made = length c.deref_mut.result.now in
    let few : made ≤ c.args.most = omega (arith, ap length same, c.grow.ensures.length) in
    let old = desks_of c.deref_mut.result.now in
    let new_lanes = c.serve_once.new.lanes in
    let new = desks_of new_lanes in
    let w = subst (λ b. ServesOnce b made (state_of c.loop.engine.kept) (at old) (state_of c.serve_once.new.engine.kept) (at new)
    (g.P.Ports.log c.loop.ports) (g.P.Ports.log c.serve_once.new.ports) (g.C.Clock.told c.loop.clock) (g.C.Clock.told c.serve_once.new.clock)) begun c.serve_once.ensures.serves in
    let size : length new_lanes ≡ c.grow.new.lanes.len = search rules in
    let behind = drop (length new_lanes) c.grow.new.lanes.items in (
      rw (given_back c.grow.new.lanes.len new_lanes behind size)
          (more c.args.most _ _ _ old (desks_of new_lanes) _ _ _ _ _ _ _ w.sweep (grown c.args.most _ _ _ old _ _ _ _ _ before (λ p. ap (λ l. at (desks_of l) p) same ∙ c.grow.ensures.alike p))
          (of_more made c.args.most _ _ _ _ _ few w.sweeps) w.logs w.clock),
      rw (given_back c.grow.new.lanes.len new_lanes behind size) (omega (arith, c.serve_once.ensures.length, few)),
      rw (given_back c.grow.new.lanes.len new_lanes behind size) c.serve_once.ensures.quiet,
    )

pub returns-then-not-serve_once-clause-serves : goal.returns-then-not-serve_once-clause-serves
returns-then-not-serve_once-clause-serves g c =
    let (before, len, quiet) = c.loop.invariant in
    let none : c.serve_once.result ≡ false = search rules in
    let same : c.deref_mut.result.now ≡ c.grow.new.lanes.items = search rules in
    let old = desks_of c.deref_mut.result.now in
    let new_lanes = c.serve_once.new.lanes in
    let (state, still, logs, told) = subst (λ b. ServesOnce b (length c.deref_mut.result.now) (state_of c.loop.engine.kept) (at old) (state_of c.serve_once.new.engine.kept) (at (desks_of new_lanes))
    (g.P.Ports.log c.loop.ports) (g.P.Ports.log c.serve_once.new.ports) (g.C.Clock.told c.loop.clock) (g.C.Clock.told c.serve_once.new.clock)) none c.serve_once.ensures.serves in
    let size : length new_lanes ≡ c.grow.new.lanes.len = search rules in
    let behind = drop (length new_lanes) c.grow.new.lanes.items in (
      c.loop.counter,
      _,
      rw (given_back c.grow.new.lanes.len new_lanes behind size) (rw (state, told)
          (grown c.args.most _ _ _ (desks_of new_lanes) _ _ _ _ _ before (λ p. still p ∙ ap (λ l. at (desks_of l) p) same ∙ c.grow.ensures.alike p))),
      inl logs,
    )

pub returns-clause-serves : goal.returns-clause-serves
returns-clause-serves g c =
    let (before, len, quiet) = c.loop.invariant in
    let all : c.loop.counter ≡ 2 ^ 64 - 1 = omega (arith, c.loop.auto.counter-end, c.loop-test.false) in
    (c.loop.counter, _, before, inr (all, refl))
