use Rattle.nfs_promises.proofs.Bytes.EntriesAlike.{entries_are_alike}
use Rattle.nfs_promises.proofs.laws.bytes.entries_are_alike.Goals as goal

pub returns : goal.returns
returns c = entries_are_alike
