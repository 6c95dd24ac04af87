use Rattle.std.proofs.{Common.{sym, arith}, lemmas.Bool.lt-ltb}
use Rattle.std.specs.Prelude.{◌-◌}
use Rattle.nfs_lease.proofs.Queue.{none_out, some_out, not_out}
use Rattle.nfs_lease.proofs.leases.Leases.next_out.Goals as goal

pub returns-in_err-client : goal.returns-in_err-client
returns-in_err-client c =
    rw (← c.self.view_is, c.from_residual.ensures)
    (none_out c.args.lease c.self.inside.renewals.entries c.args.now (sym c.in_err-client.ensures))

pub returns-then-saturating_sub-lease : goal.returns-then-saturating_sub-lease
returns-then-saturating_sub-lease c =
    rw (← c.self.view_is)
    (some_out c.args.lease c.self.inside.renewals.entries
    c.args.now c.in_ok-client.client.now c.in_ok-client.moment.now c.self.invariant.0
    (sym c.in_ok-client.ensures) (lt-ltb c.args.lease (c.args.now - c.in_ok-client.moment.now) (omega arith)))

pub returns-else-saturating_sub-lease : goal.returns-else-saturating_sub-lease
returns-else-saturating_sub-lease c =
    rw (← c.self.view_is)
    (not_out c.args.lease c.self.inside.renewals.entries
    c.args.now c.in_ok-client.client.now c.in_ok-client.moment.now c.self.invariant.0
    (sym c.in_ok-client.ensures) (omega arith))
