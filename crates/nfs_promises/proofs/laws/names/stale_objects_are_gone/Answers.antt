use Rattle.nfs_promises.proofs.Names.StaleTruly.{stale_is_true}
use Rattle.nfs_promises.proofs.laws.names.stale_objects_are_gone.Goals as goal

pub returns : goal.returns
returns c = stale_is_true
