use Rattle.std.proofs.Common.{ap, sym, ◌∙◌}
use Rattle.nfs_lease.specs.Renewals.{Book, leases_of, without_lease}
use Rattle.nfs_sessions.specs.Sessions.{SessionTable, without_client}
use Rattle.nfs_names.specs.State.{State, state_of}
use Rattle.nfs_exec.specs.{Step.View.without_left, Step.Machine.machine_of}
use Rattle.nfs_exec.proofs.tables.Tables.leave.Goals as goal

pub returns-in-Some : goal.returns-in-Some
returns-in-Some c =
    let m = machine_of c.args.self.now in
    let gone = c.in-Some.client in
    let store = state_of c.drop_client-in-Some.new.self in
    ap (λ (t : SessionTable). record m { sessions = t; leases = leases_of c.remove.new.self; store = store }) c.drop_client.ensures
    ∙ ap (λ (b : Book). record m { sessions = without_client m.sessions gone; leases = b; store = store }) c.remove.ensures.lease
    ∙ ap (λ (s : State). record m { sessions = without_client m.sessions gone; leases = without_lease m.leases gone; store = s })
    c.drop_client-in-Some.ensures.state
    ∙ ap (without_left m) (sym c.in-Some.is)
