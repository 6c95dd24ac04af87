use Rattle.nfs_ranges.proofs.KeptLemmas.{is_absent}
use Rattle.nfs_ranges.proofs.owners.is_absent.Goals as goal

pub returns : goal.returns
returns c = is_absent c.args.number c.place_of-place.result c.args.owners.now c.stands_at.result c.requires c.place_of-place.ensures.place c.stands_at.ensures.own
