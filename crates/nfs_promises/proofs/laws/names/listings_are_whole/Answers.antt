use Rattle.nfs_promises.proofs.Names.ListsAll.{rows_are_listed, names_are_listed}
use Rattle.nfs_promises.proofs.laws.names.listings_are_whole.Goals as goal

pub returns : goal.returns
returns c = record { rows = rows_are_listed; names = names_are_listed }
