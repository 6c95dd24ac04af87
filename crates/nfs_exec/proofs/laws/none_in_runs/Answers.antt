use Rattle.nfs_exec.proofs.Runs.KeptByRuns.{none_in_runs}
use Rattle.nfs_exec.proofs.laws.none_in_runs.Goals as goal

pub returns : goal.returns
returns c = none_in_runs
