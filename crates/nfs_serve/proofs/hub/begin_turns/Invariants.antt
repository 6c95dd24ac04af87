-- So many turns were told so far.
use Rattle.std.proofs.Common.{replicate}
use Rattle.nfs_serve.specs.Told.{Turn, Logs}
use Rattle.nfs_serve.proofs.hub.begin_turns.Given as goal

abbrev pub invariant-loop : goal.invariant-loop
invariant-loop g l = Logs (g.C.Clock.told l.fn.clock) (g.C.Clock.told l.clock) (replicate l.counter Turn)
