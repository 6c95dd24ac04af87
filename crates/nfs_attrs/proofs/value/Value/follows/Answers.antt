use Rattle.nfs_attrs.proofs.Fronts.{follows_then}
use Rattle.nfs_attrs.proofs.value.Value.follows.Goals as goal

pub returns-then-hyper_follows : goal.returns-then-hyper_follows
returns-then-hyper_follows c = rw c.in-FsId.is (follows_then c.hyper_follows-then-hyper_follows.result _ _ _ _ _ c.if-hyper_follows.ensures
    c.hyper_follows-then-hyper_follows.ensures)
