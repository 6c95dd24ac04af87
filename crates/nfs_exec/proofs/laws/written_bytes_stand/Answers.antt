use Rattle.nfs_exec.proofs.Runs.WrittenRun.{stands_in_runs}
use Rattle.nfs_exec.proofs.laws.written_bytes_stand.Goals as goal

pub returns : goal.returns
returns c = stands_in_runs
