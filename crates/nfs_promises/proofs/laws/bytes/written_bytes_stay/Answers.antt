use Rattle.nfs_promises.proofs.Bytes.WrittenStays.{bytes_stay}
use Rattle.nfs_promises.proofs.laws.bytes.written_bytes_stay.Goals as goal

pub returns : goal.returns
returns c = bytes_stay
