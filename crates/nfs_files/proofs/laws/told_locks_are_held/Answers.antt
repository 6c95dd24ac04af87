use Rattle.nfs_files.proofs.ToldGrants.{told_held}
use Rattle.nfs_files.proofs.laws.told_locks_are_held.Goals as goal

pub returns : goal.returns
returns c = told_held
