use Rattle.nfs_exec.proofs.Step.Repeating.{expires}
use Rattle.nfs_exec.proofs.laws.expires_once.Goals as goal

pub returns : goal.returns
returns c = expires
