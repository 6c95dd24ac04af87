use Rattle.nfs_ranges.proofs.OwnerLemmas.{canonical}
use Rattle.nfs_ranges.proofs.laws.canonical.Goals as goal

pub returns : goal.returns
returns c = canonical
