-- What a client has: its record, its sessions, its lease, its opens, its lock states and the bytes that these hold (RFC 8881 sections 2.4, 2.10, 8.2, 8.3,
-- 9.1 and 9.7); and which requests name it.
use Rattle.std.specs.{Prelude.{◌≡◌, ℕ, ◌==◌, ◌||◌, Bool, false, List, ◌∷◌, filter, bytes_eq}, Option.option_map_or}
use Rattle.nfs_compound.specs.{declared.op.Item.Item, declared.op.Item.TheVariants.Operation}
use Rattle.nfs_compound.specs.declared.op.Op.TheVariants as Op
use Rattle.nfs_clients.specs.Roster.{Roster, client_at}
use Rattle.nfs_sessions.specs.{Id.id_of, Sessions.{Session, SessionTable}}
use Rattle.nfs_files.specs.Own.{HasAsBefore}
use Rattle.nfs_exec.specs.{Step.Machine.Machine, Step.Laws.{MachineEvent, Expires, Asks}}

abbrev pub sessions_of : ℕ → SessionTable → List Session
sessions_of client t = filter (λ s. s.client == client) t.sessions

-- the client has what it had: its record, its sessions with their slots and the replies that they keep, its lease, and what it has open and locked
pub record IsAsBefore (client : ℕ) (before behind : Machine) : Type 0 where
  pub known : client_at behind.clients client ≡ client_at before.clients client
  pub sessions : sessions_of client behind.sessions ≡ sessions_of client before.sessions
  pub lease : behind.leases client ≡ before.leases client
  pub own : HasAsBefore client before.store.opens behind.store.opens

-- the client's record bears this owner
abbrev pub has_owner : Roster → ℕ → List ℕ → Bool
has_owner t client owner = option_map_or (λ c. bytes_eq c.owner owner) (client_at t client) false

-- The first item names the client: by a session, its owner, or an id; CREATE_SESSION does by that of another record of its owner too.
abbrev pub is_named_in : ℕ → Roster → List Item → Bool
is_named_in client t (Operation (Op.Sequence s) ∷ more) = (id_of s.sessionid).client == client
is_named_in client t (Operation (Op.ExchangeId e) ∷ more) = has_owner t client e.ownerid
is_named_in client t (Operation (Op.CreateSession c) ∷ more) =
    (c.clientid == client) || option_map_or (λ r. has_owner t client r.owner) (client_at t c.clientid) false
is_named_in client t (Operation (Op.DestroySession sessionid) ∷ more) = (id_of sessionid).client == client
is_named_in client t (Operation (Op.DestroyClientId id) ∷ more) = id == client
is_named_in client t items = false

abbrev pub is_named_by : ℕ → Machine → MachineEvent → Bool
is_named_by client m (Expires now) = false
is_named_by client m (Asks r who size now choice) = is_named_in client m.clients r.left
