use Rattle.nfs_promises.proofs.Network.{XidsSuffice.exactly_once, ServerKeepsSlots.keeps_slots}
use Rattle.nfs_promises.specs.Network.ThisServer.{server}
use Rattle.nfs_promises.proofs.laws.network.exactly_once.Goals as goal

pub returns : goal.returns
returns c = λ reader start. exactly_once (server reader.find start) (keeps_slots reader start)
