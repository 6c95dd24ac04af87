use Rattle.nfs_xdr.specs.Combinators as codec
use Rattle.nfs_xdr.proofs.CodecLaws.{is_fixed, reads_from_gives}
use Rattle.nfs_xdr.proofs.cursor.Cursor.fixed.Goals as goal

pub returns-clause-spelled : goal.returns-clause-spelled
returns-clause-spelled g c =
    reads_from_gives (codec.fixed _) (λ x. x) c.take_fixed.result _ _ (is_fixed _) c.take_fixed.ensures.bytes c.take_fixed.ensures.exact
