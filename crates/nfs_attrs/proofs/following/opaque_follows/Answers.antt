use Rattle.std.proofs.{Common.{length, arith, ◌∙◌, sym}, lemmas.Slice.Eq.bytes_eq-Decides}
use Rattle.nfs_xdr.specs.Codec.{opaque}
use Rattle.nfs_xdr.proofs.CodecLaws.{is_opaque}
use Rattle.nfs_attrs.proofs.Fronts.{follows_if}
use Rattle.nfs_attrs.proofs.following.opaque_follows.Goals as goal

pub returns : goal.returns
returns c =
    let found = c.in-Ok.found.now in
    let value = c.args.value.now in
    let decides = bytes_eq-Decides found value in
    follows_if (opaque (length value)) (is_opaque (length value) c.requires.small) found value c.eq.result c.args.cursor.now _ (λ e. decides.0 (sym
    c.eq.ensures ∙ e)) (λ e same. absurd (cc (e, c.eq.ensures, decides.1 same))) c.in-Ok.ensures.spelled.0 c.in-Ok.ensures.spelled.1
    (omega arith, c.requires.bytes)
