use Rattle.nfs_promises.proofs.Names.ListsAll.{pages_are_parts, gone_is_unlisted}
use Rattle.nfs_promises.proofs.laws.names.nothing_else_is_listed.Goals as goal

pub returns : goal.returns
returns c = record { parts = pages_are_parts; gone = gone_is_unlisted }
