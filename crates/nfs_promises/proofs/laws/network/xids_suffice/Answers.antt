use Rattle.nfs_promises.proofs.Network.{XidsSuffice.happens, ServerKeepsSlots.keeps_slots}
use Rattle.nfs_promises.specs.Network.ThisServer.{server}
use Rattle.nfs_promises.proofs.laws.network.xids_suffice.Goals as goal

pub returns : goal.returns
returns c = λ reader start. happens (server reader.find start) (keeps_slots reader start)
