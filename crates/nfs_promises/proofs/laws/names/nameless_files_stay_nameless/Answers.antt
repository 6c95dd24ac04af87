use Rattle.nfs_promises.proofs.Names.NamelessStays.{nameless_stays}
use Rattle.nfs_promises.proofs.laws.names.nameless_files_stay_nameless.Goals as goal

pub returns : goal.returns
returns c = nameless_stays
