use Rattle.nfs_exec.proofs.Step.LeaseMoments.{finds_nothing}
use Rattle.nfs_exec.proofs.laws.expiry_finds_nothing.Goals as goal

pub returns : goal.returns
returns c = finds_nothing
