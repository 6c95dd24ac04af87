use Rattle.nfs_promises.proofs.Calls.SessionsOnce.{each_makes_one}
use Rattle.nfs_promises.proofs.laws.calls.each_makes_one_session.Goals as goal

pub returns : goal.returns
returns c = each_makes_one
