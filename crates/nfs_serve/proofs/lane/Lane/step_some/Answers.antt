use Rattle.std.proofs.{Common.{◌≡◌, ◌++◌, [], ◌∷◌, refl, sym, ap, ◌∙◌, arith, rules, subst}, lemmas.List.nil_from_length}
use Rattle.nfs_serve.specs.{Server.state_of, Desk.Stepped, Lane.{stand, is_first, Advances}}
use Rattle.nfs_serve.proofs.{Advancing.{stepped, goes_on, none_read}, Spending.{spends_on, spends_step}}
use Rattle.nfs_serve.proofs.lane.Lane.step_some.Goals as goal

pub loop-self-init : goal.loop-self-init
loop-self-init g c =
    let one = c.step_one.ensures in
    let none : c.args.self.now.owed.bytes ≡ [] = nil_from_length _ c.requires.empty in
    let empty = ap (λ b. b.bytes) c.clear.ensures ∙ sym none in
    let lane = c.args.self.now in
    let acts = Stepped one.moment one.part c.step_one.new.left.late (is_first lane.heard one.out) ∷ [] in record {
      acts = acts;
      advances = subst (λ o. Advances c.args.port acts (record {
        state = state_of c.args.engine.now.kept;
        desk = record { live = lane.live; gone = lane.gone; heard = lane.heard; stream = lane.connection; unread = lane.unread; owed = o };
        log = g.P.Ports.log c.args.ports.now;
        told = g.C.Clock.told c.args.clock.now;
      }) (stand c.step_one.new.engine.kept c.step_one.new.self (g.P.Ports.log c.step_one.new.ports) (g.C.Clock.told c.step_one.new.clock)))
          empty (stepped _ _ _ _ _ one);
      no_reads = refl;
      spends = spends_step one.moment one.part (is_first lane.heard one.out) c.args.left.now c.step_one.new.left one.one one.bytes c.requires.left;
      live = one.live;
      shorter = one.shorter;
      bytes = one.bytes;
    }

pub loop-self-preserved : goal.loop-self-preserved
loop-self-preserved g c =
    let before = c.loop-self.invariant in
    let one = c.step_one-in-loop-self.ensures in
    let left = c.is_spent.ensures.left (search rules) in
    let acts = Stepped one.moment one.part c.step_one-in-loop-self.new.left.late (is_first c.loop-self.self.heard one.out) ∷ [] in record {
      acts = before.acts ++ acts;
      advances = goes_on before.advances acts _ _ _ _ (stepped _ _ _ _ _ one);
      no_reads = none_read before.acts acts before.no_reads refl;
      spends = spends_on before.acts acts _ _ _ before.spends
          (spends_step one.moment one.part (is_first c.loop-self.self.heard one.out) c.loop-self.left c.step_one-in-loop-self.new.left one.one one.bytes left);
      live = one.live ∙ before.live;
      shorter = omega (arith, one.shorter, before.shorter);
      bytes = one.bytes ∙ before.bytes;
    }
