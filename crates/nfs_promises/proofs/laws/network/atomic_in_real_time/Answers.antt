use Rattle.nfs_promises.proofs.Network.{RealTime.atomic, ServerKeepsSlots.keeps_slots, ExpiryAtMoments.keeps_time}
use Rattle.nfs_promises.specs.Network.ThisServer.{server}
use Rattle.nfs_promises.proofs.laws.network.atomic_in_real_time.Goals as goal

pub returns : goal.returns
returns c = λ reader start. atomic (server reader.find start) (keeps_slots reader start) (keeps_time reader.find start)
