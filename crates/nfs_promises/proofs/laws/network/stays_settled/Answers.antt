use Rattle.nfs_promises.proofs.Network.{ExecutingAlone.stays_settled, ExpiryAtMoments.keeps_time}
use Rattle.nfs_promises.specs.Network.ThisServer.{server}
use Rattle.nfs_promises.proofs.laws.network.stays_settled.Goals as goal

pub returns : goal.returns
returns c = λ reader start. stays_settled (server reader.find start) (keeps_time reader.find start)
