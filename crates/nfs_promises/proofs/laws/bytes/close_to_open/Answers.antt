use Rattle.nfs_promises.proofs.Bytes.CloseToOpen.{close_to_open}
use Rattle.nfs_promises.proofs.laws.bytes.close_to_open.Goals as goal

pub returns : goal.returns
returns c = close_to_open
