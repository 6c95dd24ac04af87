use Rattle.nfs_exec.proofs.Runs.OpsRun.{are_run}
use Rattle.nfs_exec.proofs.laws.ops_are_run.Goals as goal

pub returns : goal.returns
returns c = are_run
