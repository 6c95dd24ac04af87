use Rattle.nfs_promises.proofs.Names.NameStays.{name_stays}
use Rattle.nfs_promises.proofs.laws.names.names_stay.Goals as goal

pub returns : goal.returns
returns c = name_stays
