use Rattle.std.proofs.Common.{◌≡◌, ◌++◌, rules}
use Rattle.nfs_xdr.specs.Codec.{signed}
use Rattle.nfs_attrs.proofs.Fronts.{follows_then}
use Rattle.nfs_attrs.proofs.following.time_follows.Goals as goal

pub returns-then-signed_follows : goal.returns-then-signed_follows
returns-then-signed_follows c =
    let first : c.args.cursor.now ≡ signed.spell c.args.value.seconds ++ c.signed_follows.new.cursor = search rules in
    follows_then c.number_follows.result _ _ _ _ _ first c.number_follows.ensures
