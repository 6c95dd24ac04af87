use Rattle.nfs_sessions.proofs.Places.{session_there, no_session}
use Rattle.nfs_sessions.proofs.sessions.Sessions.session.Goals as goal

pub returns-in_err-place-clause-found : goal.returns-in_err-place-clause-found
returns-in_err-place-clause-found c = rw c.from_residual.ensures (no_session c.args.self.now c.args.id.now c.in_err-place.ensures.at)

pub returns-clause-found : goal.returns-clause-found
returns-clause-found c = session_there _ _ c.args.id.now _ _ c.self.view_is c.in_ok-place.ensures.at c.index.ensures

pub returns-in_err-place-clause-rising : goal.returns-in_err-place-clause-rising
returns-in_err-place-clause-rising c = c.find.ensures.rising

pub returns-clause-rising : goal.returns-clause-rising
returns-clause-rising c = c.find.ensures.rising
