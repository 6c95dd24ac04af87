use Rattle.nfs_xdr.specs.Codec as codec
use Rattle.nfs_xdr.proofs.{CodecLaws.reads_from_gives, WordLaws.is_signed}
use Rattle.nfs_xdr.proofs.cursor.Cursor.i64.Goals as goal

pub returns-clause-spelled : goal.returns-clause-spelled
returns-clause-spelled c = reads_from_gives codec.signed (λ z. z) c.take_i64.result _ _ is_signed c.take_i64.ensures.bytes c.take_i64.ensures.exact
