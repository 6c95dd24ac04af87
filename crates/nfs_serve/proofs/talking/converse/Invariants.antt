-- The talk so far is a run of pieces, the stream is not too long, and neither end has failed.
use Rattle.std.proofs.Common.{◌≡◌, false, length}
use Rattle.nfs_rpc.specs.RecordMarking.{is_too_long}
use Rattle.nfs_serve.specs.Server.{state_of}
use Rattle.nfs_serve.proofs.Speaking.{Speaking}
use Rattle.nfs_serve.proofs.talking.converse.Given as goal

abbrev pub invariant-loop : goal.invariant-loop
invariant-loop g l =
    Speaking (state_of l.fn.engine.kept) (state_of l.engine.kept) l.connection l.counter (g.R.Source.left l.fn.r)
    (g.R.Source.left l.r) (g.W.Sink.held l.fn.w) (g.W.Sink.held l.w) (g.C.Clock.told l.fn.clock) (g.C.Clock.told l.clock)
    × (is_too_long l.connection ≡ false) × (length l.buf ≡ 65536) × (g.R.Source.has_failed l.r ≡ false)
    × (g.R.Source.has_ended l.r ≡ false) × (g.W.Sink.has_failed l.w ≡ false)
