-- The connections so far are closed.
use Rattle.std.proofs.Common.{◌≡◌, ◌<◌, ℕ, length}
use Rattle.nfs_serve.specs.Server.{fresh, held_on}
use Rattle.nfs_serve.proofs.running.close_all.Given as goal

abbrev pub invariant-loop-conn : goal.invariant-loop-conn
invariant-loop-conn l = record {
  kept : length l.connections ≡ length l.fn.connections;
  closed : (c : ℕ) → c < l.conn → held_on l.connections c ≡ fresh;
}
