use Rattle.nfs_promises.proofs.Permission.NoSetUid.{none_runs_as_owner}
use Rattle.nfs_promises.proofs.laws.permission.written_programs_run_as_their_users.Goals as goal

pub returns : goal.returns
returns c = none_runs_as_owner
