use Rattle.nfs_files.proofs.ToldOpens.{told_opens}
use Rattle.nfs_files.proofs.laws.told_opens_stand.Goals as goal

pub returns : goal.returns
returns c = told_opens
