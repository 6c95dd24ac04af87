use Rattle.std.proofs.Common.{◌≡◌, ◌+◌}
use Rattle.nfs_pages.proofs.pool.drop_some.Given as goal

abbrev pub invariant-loop-done : goal.invariant-loop-done
invariant-loop-done l = l.initial.pool ≡ l.pool + l.done
