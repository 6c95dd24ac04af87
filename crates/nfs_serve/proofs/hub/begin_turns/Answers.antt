use Rattle.std.proofs.Common.{[], ◌∷◌, replicate, subst}
use Rattle.std.proofs.lemmas.List.{replicate-append-replicate}
use Rattle.nfs_serve.specs.Told.{Turn, Logs}
use Rattle.nfs_serve.proofs.Advancing.{Logs-nil, Logs-trans}
use Rattle.nfs_serve.proofs.hub.begin_turns.Goals as goal

pub loop-init : goal.loop-init
loop-init g c = Logs-nil _

pub loop-preserved : goal.loop-preserved
loop-preserved g c = subst (Logs (g.C.Clock.told c.args.clock.now) (g.C.Clock.told c.begin_turn.new.self)) (replicate-append-replicate c.loop.counter 1 Turn)
    (Logs-trans _ _ _ (replicate c.loop.counter Turn) (Turn ∷ []) c.loop.invariant c.begin_turn.ensures)
