use Rattle.nfs_exec.proofs.Runs.SlotNumbersAlong.{never_runs_again}
use Rattle.nfs_exec.proofs.laws.never_runs_again.Goals as goal

pub returns : goal.returns
returns c = never_runs_again
