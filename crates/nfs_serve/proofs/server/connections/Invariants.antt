use Rattle.std.proofs.Common.{◌≡◌, replicate}
use Rattle.nfs_serve.specs.Server.{fresh}
use Rattle.nfs_serve.proofs.server.connections.Given as goal

abbrev pub invariant-loop : goal.invariant-loop
invariant-loop l = l.connections.items ≡ replicate l.counter fresh
