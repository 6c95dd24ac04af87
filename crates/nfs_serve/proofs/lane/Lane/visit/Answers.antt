use Rattle.std.proofs.Common.{subst}
use Rattle.nfs_serve.specs.Lane.{TakesTurn, stand}
use Rattle.nfs_serve.proofs.lane.Lane.visit.Goals as goal

pub returns : goal.returns
returns g c =
    let after = c.turn.new in (
      _,
      c.begin_turn.ensures,
      subst (λ shown. TakesTurn c.args.port (stand c.args.engine.now.kept c.args.self.now shown (g.C.Clock.told c.begin_turn.new.self))
          (stand after.engine.kept after.self (g.P.Ports.log after.ports) (g.C.Clock.told after.clock))) c.begin_turn-before.ensures c.turn.ensures,
    )
