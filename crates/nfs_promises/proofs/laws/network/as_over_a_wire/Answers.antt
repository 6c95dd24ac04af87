use Rattle.nfs_promises.proofs.Network.{PerfectWire.as_over_a_wire, ServerKeepsSlots.keeps_slots, ExpiryAtMoments.keeps_time}
use Rattle.nfs_promises.specs.Network.ThisServer.{server}
use Rattle.nfs_promises.proofs.laws.network.as_over_a_wire.Goals as goal

pub returns : goal.returns
returns c = λ reader start. as_over_a_wire (server reader.find start) (keeps_slots reader start) (keeps_time reader.find start)
