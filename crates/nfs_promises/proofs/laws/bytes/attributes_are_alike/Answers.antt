use Rattle.nfs_promises.proofs.Bytes.EntriesAlike.{attributes_are_alike}
use Rattle.nfs_promises.proofs.laws.bytes.attributes_are_alike.Goals as goal

pub returns : goal.returns
returns c = attributes_are_alike
