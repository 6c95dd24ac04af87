use Rattle.nfs_promises.proofs.Network.FreshRuns.{fresh_runs}
use Rattle.nfs_promises.proofs.laws.network.fresh_requests_run.Goals as goal

pub returns : goal.returns
returns c = λ reader start. fresh_runs reader start
