-- The connections so far are closed.
use Rattle.std.proofs.Common.{◌≡◌, ◌<◌, ℕ, length}
use Rattle.nfs_serve.specs.{Desk.closed, Hub.at, Lane.desks_of}
use Rattle.nfs_serve.proofs.hub.reset_all.Given as goal

abbrev pub invariant-loop-port : goal.invariant-loop-port
invariant-loop-port l = record {
  kept : length l.lanes ≡ length l.fn.lanes;
  closed : (c : ℕ) → c < l.port → at (desks_of l.lanes) c ≡ closed;
}
