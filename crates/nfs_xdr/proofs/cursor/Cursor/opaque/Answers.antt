use Rattle.std.proofs.Common.{arith}
use Rattle.nfs_xdr.specs.Codec as codec
use Rattle.nfs_xdr.proofs.CodecLaws.{is_opaque, reads_from_gives}
use Rattle.nfs_xdr.proofs.cursor.Cursor.opaque.Goals as goal

pub returns-clause-spelled : goal.returns-clause-spelled
returns-clause-spelled c = reads_from_gives (codec.opaque c.args.limit) (λ x. x.now) c.take_opaque.result _ _
    (is_opaque c.args.limit (omega arith)) c.take_opaque.ensures.bytes c.take_opaque.ensures.exact
