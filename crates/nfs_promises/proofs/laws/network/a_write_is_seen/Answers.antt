use Rattle.nfs_promises.proofs.Network.SeenWrite.{is_seen}
use Rattle.nfs_promises.proofs.laws.network.a_write_is_seen.Goals as goal

pub returns : goal.returns
returns c = is_seen
