-- On none of the ports so far.
use Rattle.std.proofs.Common.{◌≤◌, ◌<◌, ℕ}
use Rattle.nfs_serve.specs.{Desk.HasMore, Hub.at, Lane.desks_of}
use Rattle.nfs_serve.proofs.hub.next_more.Given as goal

abbrev pub invariant-loop-port : goal.invariant-loop-port
invariant-loop-port l = (port : ℕ) → l.fn.from ≤ port → port < l.port → HasMore (at (desks_of l.lanes) port) → ⊥
