-- None of the ports so far.
use Rattle.nfs_sockets.specs.Looking.{turn_at, NoneBefore}
use Rattle.nfs_sockets.proofs.sockets.Sockets.first_in_turn.Given as goal

abbrev pub invariant-loop-port : goal.invariant-loop-port
invariant-loop-port g l = NoneBefore (turn_at l.self.connections l.self.places.guests l.self.turns l.self.looking.looks) l.from l.port
