use Rattle.nfs_promises.proofs.Runs.Points.{no_clash}
use Rattle.nfs_promises.proofs.laws.locks.no_clash.Goals as goal

pub returns : goal.returns
returns c = no_clash
