use Rattle.nfs_promises.proofs.Calls.SessionsOnce.{repeats_make_none}
use Rattle.nfs_promises.proofs.laws.calls.repeats_make_no_session.Goals as goal

pub returns : goal.returns
returns c = repeats_make_none
