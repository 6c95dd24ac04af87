use Rattle.nfs_files.proofs.ToldOpens.{opens_refused}
use Rattle.nfs_files.proofs.laws.forbidden_opens_are_refused.Goals as goal

pub returns : goal.returns
returns c = opens_refused
