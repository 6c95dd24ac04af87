use Rattle.nfs_promises.proofs.Network.{ByNumber.exactly_once_by_number, ServerKeepsSlots.keeps_slots}
use Rattle.nfs_promises.specs.Network.ThisServer.{server}
use Rattle.nfs_promises.proofs.laws.network.exactly_once_by_number.Goals as goal

pub returns : goal.returns
returns c = λ reader start. exactly_once_by_number (server reader.find start) (keeps_slots reader start)
