use Rattle.nfs_clients.proofs.Once.{in_order}
use Rattle.nfs_clients.proofs.laws.tables_are_in_order.Goals as goal

pub returns : goal.returns
returns c = in_order
