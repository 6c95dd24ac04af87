use Rattle.nfs_promises.proofs.Network.LostReply.{is_over_a_wire}
use Rattle.nfs_promises.proofs.laws.network.exchange_over_a_wire.Goals as goal

pub returns : goal.returns
returns c = is_over_a_wire
