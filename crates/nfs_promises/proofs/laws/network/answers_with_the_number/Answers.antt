use Rattle.nfs_promises.proofs.Network.ServerKeepsSlots.{answers_numbered}
use Rattle.nfs_promises.proofs.laws.network.answers_with_the_number.Goals as goal

pub returns : goal.returns
returns c = λ reader start s bytes now choice h fits reads executes. answers_numbered reader s bytes now choice h fits reads executes
