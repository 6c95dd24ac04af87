use Rattle.std.proofs.Common.{sym, ◌∙◌}
use Rattle.nfs_sockets.specs.Looking.{turn_at}
use Rattle.nfs_sockets.proofs.Firsts.{none_more}
use Rattle.nfs_sockets.proofs.sockets.Sockets.first_in_turn.Goals as goal

pub loop-port-preserved : goal.loop-port-preserved
loop-port-preserved g c =
    let self = c.args.self.now in
    none_more (turn_at self.connections self.places.guests self.turns self.looking.looks) c.args.from c.loop-port.port c.loop-port.invariant
    (sym c.has_turn.ensures ∙ c.if-has_turn.false)
