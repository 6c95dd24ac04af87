use Rattle.nfs_promises.proofs.Names.OpenReads.{opens_can_read}
use Rattle.nfs_promises.proofs.laws.names.open_files_can_be_read.Goals as goal

pub returns : goal.returns
returns c = opens_can_read
