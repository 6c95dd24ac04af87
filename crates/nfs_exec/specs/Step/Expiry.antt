-- Expiry (RFC 8881 section 8.3): the clients whose lease has run out at a moment go, with their sessions, leases, opens and
-- locks, and with each object that then has neither a row nor an open.
use Rattle.std.specs.Prelude.{ℕ, not, filter, None, if◌then◌else◌}
use Rattle.nfs_lease.specs.Renewals.{has_run_out}
use Rattle.nfs_names.specs.Ending.{staying}
use Rattle.nfs_exec.specs.Step.Machine.{Machine}

abbrev pub expired : ℕ → Machine → Machine
expired now m = record {
  clients = record m.clients { records = filter (λ c. not (has_run_out m.store.lease m.leases now c.id)) m.clients.records };
  sessions = record m.sessions { sessions = filter (λ s. not (has_run_out m.store.lease m.leases now s.client)) m.sessions.sessions };
  leases = λ client. if has_run_out m.store.lease m.leases now client then None else m.leases client;
  store = staying (λ client. not (has_run_out m.store.lease m.leases now client)) m.store;
  owner = m.owner;
}
