use Rattle.nfs_promises.proofs.Network.{ExecutingAlone.executing_alone, ExpiryAtMoments.keeps_time}
use Rattle.nfs_promises.specs.Network.ThisServer.{server}
use Rattle.nfs_promises.proofs.laws.network.executing_alone.Goals as goal

pub returns : goal.returns
returns c = λ reader start. executing_alone (server reader.find start) (keeps_time reader.find start)
