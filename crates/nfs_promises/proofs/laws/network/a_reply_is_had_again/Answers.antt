use Rattle.nfs_promises.proofs.Network.AnsweredAgainWorked.{is_had_again, is_under_its_xid}
use Rattle.nfs_promises.proofs.laws.network.a_reply_is_had_again.Goals as goal

pub returns : goal.returns
returns c = record { again = is_had_again; under = is_under_its_xid }
