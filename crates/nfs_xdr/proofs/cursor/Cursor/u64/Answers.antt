use Rattle.nfs_xdr.specs.Codec as codec
use Rattle.nfs_xdr.proofs.CodecLaws.{is_hyper, reads_from_gives}
use Rattle.nfs_xdr.proofs.cursor.Cursor.u64.Goals as goal

pub returns-clause-spelled : goal.returns-clause-spelled
returns-clause-spelled c = reads_from_gives codec.hyper (λ n. n) c.take_u64.result _ _ is_hyper c.take_u64.ensures.bytes c.take_u64.ensures.exact
