-- The run so far is a run of whole entries, and neither end has failed.
use Rattle.std.proofs.Common.{◌≡◌, false, length}
use Rattle.nfs_serve.specs.Server.{state_of}
use Rattle.nfs_serve.proofs.Runs.{Going}
use Rattle.nfs_serve.proofs.running.run.Given as goal

abbrev pub invariant-loop-done : goal.invariant-loop-done
invariant-loop-done g l =
    Going (state_of l.fn.engine.kept) (state_of l.engine.kept) l.connections l.done
    (g.R.Source.left l.fn.r) (g.R.Source.left l.r) (g.W.Sink.held l.fn.w) (g.W.Sink.held l.w)
    × (length l.connections ≡ 16) × (length l.buf ≡ 65536) × (g.R.Source.has_failed l.r ≡ false)
    × (g.R.Source.has_ended l.r ≡ false) × (g.W.Sink.has_failed l.w ≡ false)
