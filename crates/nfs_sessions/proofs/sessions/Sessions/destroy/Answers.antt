use Rattle.std.proofs.Common.{ap}
use Rattle.std.specs.Prelude.{is_some}
use Rattle.nfs_sessions.proofs.Places.{session_there, no_session, destroyed_view, destroyed_table, undestroyed}
use Rattle.nfs_sessions.proofs.sessions.Sessions.destroy.Goals as goal

pub invariant_of-self : goal.invariant_of-self
invariant_of-self c = destroyed_table _ _ c.args.id.now _ _ _ c.self.view_is c.self.invariant c.in-Some.ensures.at c.remove.ensures.value c.remove.ensures.items

pub returns-in-Some-clause-stood : goal.returns-in-Some-clause-stood
returns-in-Some-clause-stood c = ap is_some (session_there _ _ c.args.id.now _ _ c.self.view_is c.in-Some.ensures.at c.remove.ensures.value)

pub returns-in-Some-clause-gone : goal.returns-in-Some-clause-gone
returns-in-Some-clause-gone c =
    destroyed_view _ _ c.args.id.now _ _ _ c.self.view_is c.self.invariant c.in-Some.ensures.at c.remove.ensures.value c.remove.ensures.items

pub returns-in-None-clause-stood : goal.returns-in-None-clause-stood
returns-in-None-clause-stood c = ap is_some (no_session c.args.self.now c.args.id.now c.in-None.ensures.at)

pub returns-in-None-clause-gone : goal.returns-in-None-clause-gone
returns-in-None-clause-gone c = undestroyed c.args.self.now c.args.id.now c.in-None.ensures.at
