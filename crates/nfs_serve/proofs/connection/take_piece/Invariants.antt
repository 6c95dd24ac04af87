-- The piece was taken as far as the rest.
use Rattle.std.proofs.Common.{◌≡◌, false, length}
use Rattle.nfs_rpc.specs.{Feeding.waits, RecordMarking.is_too_long}
use Rattle.nfs_serve.specs.Server.{state_of}
use Rattle.nfs_serve.proofs.Pieces.{Taking}
use Rattle.nfs_serve.proofs.connection.take_piece.Given as goal

abbrev pub invariant-loop-rest : goal.invariant-loop-rest
invariant-loop-rest g l =
    Taking (state_of l.fn.engine.kept) (state_of l.engine.kept) l.fn.records l.records l.entry.conn l.entry.moment l.form l.entry.piece.now l.rest
    (g.W.Sink.held l.fn.out) (g.W.Sink.held l.out)
    × (waits l.records ≡ false) × (is_too_long l.records ≡ false) × (g.W.Sink.has_failed l.out ≡ false)

abbrev pub decreases-loop-rest : goal.decreases-loop-rest
decreases-loop-rest g l = length l.rest
