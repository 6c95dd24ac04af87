use Rattle.nfs_promises.proofs.Network.GivenUp.{is_given_up}
use Rattle.nfs_promises.proofs.laws.network.a_slot_is_given_up.Goals as goal

pub returns : goal.returns
returns c = is_given_up
