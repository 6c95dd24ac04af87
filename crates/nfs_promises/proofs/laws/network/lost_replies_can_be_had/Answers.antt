use Rattle.nfs_promises.proofs.Network.AnsweredAgain.{answered_again}
use Rattle.nfs_promises.proofs.laws.network.lost_replies_can_be_had.Goals as goal

pub returns : goal.returns
returns c = λ reader start. answered_again reader start
