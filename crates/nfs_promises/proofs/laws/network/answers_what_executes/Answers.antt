use Rattle.nfs_promises.proofs.Network.ServerKeepsSlots.{answers_well}
use Rattle.nfs_promises.proofs.laws.network.answers_what_executes.Goals as goal

pub returns : goal.returns
returns c = λ reader start s bytes now choice h fits reads executes. answers_well reader s bytes now choice h fits reads executes
