use Rattle.nfs_ranges.proofs.HolderLemmas.{set_keeps}
use Rattle.nfs_ranges.proofs.laws.set_keeps.Goals as goal

pub returns : goal.returns
returns c = set_keeps
