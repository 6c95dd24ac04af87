use Rattle.nfs_pace.proofs.Sums as sums
use Rattle.nfs_pace.proofs.laws.keeps_who_renews.Goals as goal

pub returns : goal.returns
returns c = sums.keeps_who_renews
