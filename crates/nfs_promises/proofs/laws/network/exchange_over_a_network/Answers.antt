use Rattle.nfs_promises.proofs.Network.LostReply.{is_accepted}
use Rattle.nfs_promises.proofs.laws.network.exchange_over_a_network.Goals as goal

pub returns : goal.returns
returns c = is_accepted
