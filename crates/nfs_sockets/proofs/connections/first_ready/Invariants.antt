-- None of the ports so far is ready.
use Rattle.nfs_sockets.specs.Looking.{ready_at, NoneBefore}
use Rattle.nfs_sockets.proofs.connections.first_ready.Given as goal

abbrev pub invariant-loop-port : goal.invariant-loop-port
invariant-loop-port l = NoneBefore (ready_at l.connections) l.from l.port
