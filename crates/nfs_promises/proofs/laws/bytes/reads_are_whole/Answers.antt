use Rattle.nfs_promises.proofs.Bytes.FileRead.{reads_are_whole}
use Rattle.nfs_promises.proofs.laws.bytes.reads_are_whole.Goals as goal

pub returns : goal.returns
returns c = reads_are_whole
