use Rattle.nfs_promises.proofs.Names.NameStays.{gone_stays}
use Rattle.nfs_promises.proofs.laws.names.gone_names_stay_gone.Goals as goal

pub returns : goal.returns
returns c = gone_stays
