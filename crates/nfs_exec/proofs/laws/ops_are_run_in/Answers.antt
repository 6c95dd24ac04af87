use Rattle.nfs_exec.proofs.Runs.OpsRun.{are_run_in}
use Rattle.nfs_exec.proofs.laws.ops_are_run_in.Goals as goal

pub returns : goal.returns
returns c = are_run_in
