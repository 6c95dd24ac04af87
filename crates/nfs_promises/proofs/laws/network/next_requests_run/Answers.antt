use Rattle.nfs_promises.proofs.Network.FreshRuns.{next_runs}
use Rattle.nfs_promises.proofs.laws.network.next_requests_run.Goals as goal

pub returns : goal.returns
returns c = λ reader start. next_runs reader start
