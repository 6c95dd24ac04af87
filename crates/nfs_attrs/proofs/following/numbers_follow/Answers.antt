use Rattle.nfs_xdr.specs.Spelling.{number}
use Rattle.nfs_attrs.proofs.Fronts.{lacks_whole}
use Rattle.nfs_attrs.proofs.following.numbers_follow.Goals as goal

pub returns-then-not-number_follows : goal.returns-then-not-number_follows
returns-then-not-number_follows c = lacks_whole number c.args.values.now c.loop-value.value-index 0 c.args.cursor.now c.loop-value.cursor
    c.loop-value-test.true c.loop-value.invariant c.if-not-number_follows.ensures
