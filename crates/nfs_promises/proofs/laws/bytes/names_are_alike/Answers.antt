use Rattle.nfs_promises.proofs.Bytes.ChangeNames.{names_are_alike}
use Rattle.nfs_promises.proofs.laws.bytes.names_are_alike.Goals as goal

pub returns : goal.returns
returns c = names_are_alike
