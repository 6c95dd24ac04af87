-- DESTROY_SESSION (RFC 8881 section 18.37) and DESTROY_CLIENTID (section 18.50).
use Rattle.std.specs.{Prelude.{ℕ, ◌==◌, ◌||◌, not, List, [], ◌∷◌, Option, is_some, if◌then◌else◌}, List.list_any, Option.option_map_or}
use Rattle.nfs_xdr.specs.{Checks.first_fault, declared.status.Status.Status}
use Rattle.nfs_xdr.specs.declared.status.Status.TheVariants.{BadSession, StaleClientId, ClientIdBusy}
use Rattle.nfs_compound.specs.declared.op_num.OpNum.TheVariants as Num
use Rattle.nfs_compound.specs.OpNum.{op_number}
use Rattle.nfs_results.specs.declared.res.Res.TheVariants as Res
use Rattle.nfs_sessions.specs.{Id.id_of, Sessions.session_at}
use Rattle.nfs_sessions.specs.Sessions as sessions
use Rattle.nfs_clients.specs.Roster.{client_at, without}
use Rattle.nfs_lease.specs.Renewals.{without_lease}
use Rattle.nfs_names.specs.Ending.{has_open}
use Rattle.nfs_exec.specs.Step.Machine.{Machine, MachineOutcome, with_result, with_refusal}

-- a session goes with its slots
abbrev pub destroy_session : Machine → List ℕ → MachineOutcome
destroy_session m sessionid =
    if is_some (session_at m.sessions (id_of sessionid))
    then with_result (record m { sessions = sessions.destroyed m.sessions (id_of sessionid) }) Res.DestroySession
    else with_refusal m (op_number Num.DestroySession) BadSession

-- why a client cannot go: there is none, or it has a session or an open
abbrev pub client_fault : Machine → ℕ → Option Status
client_fault m client = first_fault (
    (not (is_some (client_at m.clients client)), StaleClientId)
    ∷ (list_any (λ s. s.client == client) m.sessions.sessions || has_open m.store client, ClientIdBusy)
    ∷ [])

-- a client goes with its lease
abbrev pub destroy_client : Machine → ℕ → MachineOutcome
destroy_client m client = option_map_or (with_refusal m (op_number Num.DestroyClientId)) (client_fault m client)
    (with_result (record m { clients = without m.clients client; leases = without_lease m.leases client }) Res.DestroyClientId)
