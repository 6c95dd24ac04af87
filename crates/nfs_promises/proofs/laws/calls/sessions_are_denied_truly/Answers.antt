use Rattle.nfs_promises.proofs.Calls.{NeverExpired.none_is_expired, SessionsDenied.bad_session_is_true}
use Rattle.nfs_promises.proofs.laws.calls.sessions_are_denied_truly.Goals as goal

pub returns : goal.returns
returns c = record { bad = bad_session_is_true; expired = none_is_expired }
