use Rattle.nfs_promises.proofs.Network.{ReplyReading.{sequenced, slot_number}, ThisServer.{finding, sequenced_is, sequenced_again, bears_is, bears_again}}
use Rattle.nfs_promises.proofs.laws.network.replies_can_be_read.Goals as goal

pub returns : goal.returns
returns c = record {
  answers = finding;
  sequences = (sequenced, λ result bytes. (sequenced_is result bytes, sequenced_again result));
  numbers = (slot_number, λ result n bytes. (bears_is result n bytes, bears_again result n));
}
