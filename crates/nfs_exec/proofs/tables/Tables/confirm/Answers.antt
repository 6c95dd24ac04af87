use Rattle.std.proofs.Common.{ℕ, Option, sym, ◌∙◌, ap, subst}
use Rattle.nfs_clients.specs.{Roster.Roster, CreateSession.{with_confirmed, with_kept}, declared.created.CreateResult.TheVariants.Done}
use Rattle.nfs_lease.specs.{Renewals.{Book, leases_of, with_renewal}, Queue.IsLatest}
use Rattle.nfs_exec.specs.{Step.Machine.{Machine, machine_of}, Step.View.without_left}
use Rattle.nfs_exec.proofs.Step.LeaseMoments.{latest_left}
use Rattle.nfs_exec.proofs.tables.Tables.confirm.Goals as goal

pub renew-requires : goal.renew-requires
renew-requires c = subst (λ (k : Machine). IsLatest k.leases c.args.now) (sym c.leave.ensures)
    (latest_left (leases_of c.args.self.now.leases) c.args.leaving c.args.now c.requires.latest)

-- with the lease renewed
abbrev renewed : (client now : ℕ) → Machine → Machine
renewed client now m = record m { leases = with_renewal m.leases client now }

pub returns : goal.returns
returns c =
    let m = machine_of c.args.self.now in
    let clients = c.keep_created.ensures ∙ ap (λ (r : Roster). with_kept r c.args.client (Done c.args.body)) c.confirm.ensures in
    ap (λ (b : Book). record (machine_of c.leave.new.self) { leases = b }) c.renew.ensures
    ∙ ap (renewed c.args.client c.args.now) c.leave.ensures
    ∙ ap (λ (r : Roster). renewed c.args.client c.args.now (without_left (record m { clients = r }) c.args.leaving)) clients
    ∙ ap (λ (gone : Option ℕ). renewed c.args.client c.args.now (without_left (record m { clients = with_kept (with_confirmed m.clients c.args.client) c.args.client (Done c.args.body) }) gone))
    c.requires.leaving
