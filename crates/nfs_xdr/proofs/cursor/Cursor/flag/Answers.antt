use Rattle.nfs_xdr.specs.Codec as codec
use Rattle.nfs_xdr.proofs.CodecLaws.{is_flag, reads_from_gives}
use Rattle.nfs_xdr.proofs.cursor.Cursor.flag.Goals as goal

pub returns-clause-spelled : goal.returns-clause-spelled
returns-clause-spelled c = reads_from_gives codec.flag (λ b. b) c.take_flag.result _ _ is_flag c.take_flag.ensures.bytes c.take_flag.ensures.exact
