use Rattle.nfs_promises.proofs.Bytes.HandleBytes.{bytes_follow}
use Rattle.nfs_promises.proofs.laws.bytes.written_handles_are_read.Goals as goal

pub returns : goal.returns
returns c = bytes_follow
