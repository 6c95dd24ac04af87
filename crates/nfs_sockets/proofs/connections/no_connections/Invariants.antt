-- So many ports are there so far.
use Rattle.std.proofs.Common.{◌≡◌, length}
use Rattle.nfs_sockets.proofs.connections.no_connections.Given as goal

abbrev pub invariant-loop : goal.invariant-loop
invariant-loop l = length l.connections.items ≡ l.counter
