use Rattle.std.proofs.{Common.{◌≡◌, ◌+◌, sym, arith, subst}, lemmas.Grind.common_steps}
use Rattle.nfs_sessions.specs.{Sessions.with_session, SessionTables.IsSessions}
use Rattle.nfs_sessions.proofs.TableLemmas.{sessions_with}
use Rattle.nfs_sessions.proofs.sessions.Sessions.insert.Goals as goal

pub invariant_of-self-2 : goal.invariant_of-self-2
invariant_of-self-2 c =
    let t = c.args.self.now in
    let is : IsSessions t = subst IsSessions c.self.view_is c.self.invariant in
    let same : record { sessions = c.push.new.self.items; last = c.self.inside.last + 1; most = c.self.inside.most } ≡ with_session t c.args.client c.args.wish.now.fore =
    grind (arith, common_steps, c.self.view_is) in
    subst IsSessions (sym same) (sessions_with t c.args.client c.args.wish.now is)
