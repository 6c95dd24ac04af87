use Rattle.nfs_xdr.proofs.CodecLaws.{reads_pieces}
use Rattle.nfs_xdr.proofs.cursor.Cursor.pieces.Goals as goal

pub returns-clause-spelled : goal.returns-clause-spelled
returns-clause-spelled g c = reads_pieces _ (λ x. x.now) c.take_pieces.result _ _ c.requires.words c.take_pieces.ensures.bytes c.take_pieces.ensures.exact
