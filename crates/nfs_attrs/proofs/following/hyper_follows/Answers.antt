use Rattle.nfs_xdr.specs.Codec.{hyper}
use Rattle.nfs_xdr.proofs.CodecLaws.{is_hyper}
use Rattle.std.proofs.lemmas.Bool.{eqb-true, eqb-false}
use Rattle.nfs_attrs.proofs.Fronts.{follows_if}
use Rattle.nfs_attrs.proofs.following.hyper_follows.Goals as goal

pub returns : goal.returns
returns c = follows_if hyper is_hyper c.in-Ok.found c.args.value _ c.args.cursor.now _ (eqb-true _ _) (eqb-false _ _) c.in-Ok.ensures.spelled.0
    c.in-Ok.ensures.spelled.1 c.ranges.value.fits
