-- The ports so far have asked.
use Rattle.std.proofs.Common.{◌≡◌}
use Rattle.nfs_sockets.specs.Looking.{asked_below}
use Rattle.nfs_sockets.proofs.sockets.ask_all.Given as goal

abbrev pub invariant-loop-port : goal.invariant-loop-port
invariant-loop-port l = l.turns ≡ asked_below l.port l.connections l.places.guests l.sweep l.fn.turns
