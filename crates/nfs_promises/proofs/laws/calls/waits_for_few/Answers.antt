use Rattle.nfs_promises.proofs.Calls.WaitsForFew.{waits_for_few}
use Rattle.nfs_promises.proofs.laws.calls.waits_for_few.Goals as goal

pub returns : goal.returns
returns c = waits_for_few
