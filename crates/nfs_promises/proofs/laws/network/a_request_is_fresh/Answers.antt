use Rattle.nfs_promises.proofs.Network.AnsweredAgainWorked.{is_fresh_there}
use Rattle.nfs_promises.proofs.laws.network.a_request_is_fresh.Goals as goal

pub returns : goal.returns
returns c = is_fresh_there
