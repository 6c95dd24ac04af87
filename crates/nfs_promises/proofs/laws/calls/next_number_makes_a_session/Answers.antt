use Rattle.nfs_promises.proofs.Calls.SessionsOnce.{next_makes_one}
use Rattle.nfs_promises.proofs.laws.calls.next_number_makes_a_session.Goals as goal

pub returns : goal.returns
returns c = next_makes_one
