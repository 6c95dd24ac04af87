use Rattle.nfs_promises.proofs.Names.FileStays.{files_stay}
use Rattle.nfs_promises.proofs.laws.names.open_files_stay.Goals as goal

pub returns : goal.returns
returns c = files_stay
