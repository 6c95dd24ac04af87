use Rattle.nfs_pace.proofs.Often.{is_there}
use Rattle.nfs_pace.proofs.crowds.place_of.Goals as goal

pub returns : goal.returns
returns c =
    let low = c.below.ensures in
    is_there c.args.sorted.now c.args.number c.below.result c.requires.order c.requires.there low.bound low.less low.others
