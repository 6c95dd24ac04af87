use Rattle.nfs_promises.proofs.Bytes.ChangeTells.{reads_are_alike}
use Rattle.nfs_promises.proofs.laws.bytes.reads_are_alike.Goals as goal

pub returns : goal.returns
returns c = reads_are_alike
