use Rattle.nfs_exec.proofs.Runs.OneSession.{gives_one_in_runs}
use Rattle.nfs_exec.proofs.laws.one_session_is_made.Goals as goal

pub returns : goal.returns
returns c = gives_one_in_runs
