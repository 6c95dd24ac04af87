use Rattle.nfs_promises.proofs.Bytes.ChangeTells.{change_tells}
use Rattle.nfs_promises.proofs.laws.bytes.change_tells.Goals as goal

pub returns : goal.returns
returns c = change_tells
