-- What stands between two records: the meanings of the server's tables, and by what it names itself; and what one operation comes to.
use Rattle.std.specs.{Prelude.{◌≡◌, ℕ, Bool, true, false, ◌&&◌, List, Result, Ok, Err, is_some, if◌then◌else◌}, Option.option_map_or}
use Rattle.nfs_xdr.specs.{declared.status.Status.Status, declared.status.Status.TheVariants.Delay, Tables.In}
use Rattle.nfs_results.specs.{declared.res.Res.Res, Results.{status_of_result, spell_result, refusal}}
use Rattle.nfs_opens.specs.{declared.records.OpenState.OpenState, Table.{clashes_with, as_asked}, TableInvariants.IsTable}
use Rattle.nfs_ranges.specs.Holders.{HasNoClash}
use Rattle.nfs_names.specs.{declared.start.Start.Start, Outcome.is_ok, Ending.has_open, State.{State, new_store, moment, state_of}}
use Rattle.nfs_lease.specs.Renewals.{Book, no_leases, leases_of}
use Rattle.nfs_clients.specs.Roster.{Roster, IsRoster, no_clients, client_at}
use Rattle.nfs_sessions.specs.Sessions.{Session, SessionTable, no_sessions}
use Rattle.nfs_exec.specs.declared.tables.Tables.{Tables}

pub record Machine : Type 0 where
  pub clients : Roster
  pub sessions : SessionTable
  pub leases : Book
  pub store : State
  pub owner : List ℕ

-- the machine of a new server, whose leases last so many seconds, and whose root has a mode and the first moment as its times
abbrev pub starts : (start : Start) → Machine
starts start = record {
  clients = no_clients start.instance start.crowd.clients;
  sessions = no_sessions start.crowd.sessions;
  leases = no_leases;
  store = new_store start (moment 0);
  owner = start.owner;
}

-- What one operation comes to: its status, its result as it is spelled, and the machine behind it.
pub record MachineOutcome : Type 0 where
  pub status : Status
  pub result : List ℕ
  pub machine : Machine

-- the outcome with this result, and this machine behind it
abbrev pub with_result : Machine → Res → MachineOutcome
with_result m r = record { status = status_of_result r; result = spell_result r; machine = m }

-- the refusal of an operation, which changes nothing
abbrev pub with_refusal : Machine → ℕ → Status → MachineOutcome
with_refusal m operation status = with_result m (refusal operation status)

-- what steps come to, or else what their refusal comes to
abbrev pub or_refused : {A F : Type 0} → (F → A) → Result A F → A
or_refused refuse (Err fault) = refuse fault
or_refused refuse (Ok a) = a

-- What an operation that may want memory comes to: where memory was refused it answers NFS4ERR_DELAY in place of
-- NFS4_OK and changes nothing; a refusal of its own comes before that.
abbrev pub or_with_delay : Bool → Machine → ℕ → MachineOutcome → MachineOutcome
or_with_delay refused m operation o = if refused && is_ok o.status then with_refusal m operation Delay else o

abbrev pub is_confirmed : Roster → ℕ → Bool
is_confirmed t client = option_map_or (λ c. c.confirmed) (client_at t client) false

-- What holds of every machine that records reach.
pub record IsMachine (m : Machine) : Type 0 where
  -- client ids rise, and no owner has two records of one kind
  pub clients : IsRoster m.clients
  -- a client record has a lease, and nothing else has one
  pub leased : (client : ℕ) → is_some (m.leases client) ≡ is_some (client_at m.clients client)
  -- the client of each session is there and confirmed
  pub confirmed : (s : Session) → In s m.sessions.sessions → is_confirmed m.clients s.client ≡ true
  -- who has an open is there and confirmed
  pub opened : (client : ℕ) → has_open m.store client ≡ true → is_confirmed m.clients client ≡ true
  -- the table of opens is one
  pub table : IsTable m.store.opens

-- the machine that the tables are
abbrev pub machine_of : Tables → Machine
machine_of t = record { clients = t.clients; sessions = t.sessions; leases = leases_of t.leases; store = state_of t.store; owner = t.owner }

-- what a world is kept as; other crates see it through `machine_of` alone
abbrev pub KeptTables : Type 0
KeptTables = Tables

-- No byte of a file has a writer beside another holder, and no two opens of different owners clash (RFC 8881 sections 9.1 and 9.7).
pub record HasNoClashes (m : Machine) : Type 0 where
  pub bytes : (file : ℕ) → HasNoClash (m.store.opens.held file)
  pub shares : (a b : OpenState) → In a m.store.opens.opens → In b m.store.opens.opens → clashes_with (as_asked a) b ≡ false
