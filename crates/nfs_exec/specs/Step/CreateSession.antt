-- CREATE_SESSION (RFC 8881 section 18.36): a client makes a session, under a number. What the number came to is kept with the client, and answered again for
-- that number.
use Rattle.std.specs.Prelude.{ℕ, ◌+◌, ◌==◌, nat_le, not, Bool, List, [], ◌∷◌, ◌++◌, count_by, Option, Some, None, Result, Ok, Err, ok_or, if◌then◌else◌}
use Rattle.std.specs.Option.{option_map_or}
use Rattle.nfs_xdr.specs.{declared.status.Status.Status, Caller.Caller}
use Rattle.nfs_xdr.specs.declared.status.Status.TheVariants.{Nfs4Ok, StaleClientId, SeqMisordered, ClidInUse, TooSmall, NoSpc, ServerFault}
use Rattle.nfs_xdr.specs.Numbers.{next_number}
use Rattle.nfs_compound.specs.declared.op_num.OpNum.TheVariants as Num
use Rattle.nfs_compound.specs.{OpNum.op_number, declared.session_args.CreateSession.CreateSession}
use Rattle.nfs_results.specs.{declared.res.CreateSessionOk.CreateSessionOk, Parts.parts, Results.done_head}
use Rattle.nfs_results.specs.declared.res.Res.TheVariants as Res
use Rattle.nfs_clients.specs.{declared.created.CreateResult.CreateResult, declared.created.CreateResult.TheVariants.{Done, Refused}}
use Rattle.nfs_clients.specs.{Roster.{ClientRecord, client_at, with_changed}, CreateSession.{leaving, with_confirmed}}
use Rattle.nfs_sessions.specs.{declared.id.SessionId.SessionId, Channel.{granted, is_too_small}, Id.id_bytes}
use Rattle.nfs_sessions.specs.Sessions.{last_counter, outlasts, with_session, without_client}
use Rattle.nfs_opens.specs.Steps.{require, in_order, ◌>>=◌, ◌>>◌}
use Rattle.nfs_lease.specs.Renewals.{with_renewal, without_lease}
use Rattle.nfs_names.specs.Ending.{staying}
use Rattle.nfs_exec.specs.Step.Machine.{Machine, MachineOutcome, with_refusal, or_refused, or_with_delay}

-- the answer: no flag is granted, and the back channel's attributes are those asked for
abbrev pub session_made : CreateSession → SessionId → CreateSessionOk
session_made c id = record {
  sessionid = id_bytes id;
  sequence = c.sequence;
  flags = 0;
  fore_chan_attrs = granted c.fore_chan_attrs;
  back_chan_attrs = c.back_chan_attrs;
}

-- what stands behind the status
abbrev pub made_body : CreateSession → SessionId → List ℕ
made_body c id = (parts (Res.CreateSession (session_made c id))).behind

-- the number is used up: what it came to is kept, and the next one is expected
abbrev pub keeping : CreateResult → ClientRecord → ClientRecord
keeping result client = record client { number = next_number client.number; kept = Some result }

-- The record is confirmed, with what its number came to, and its lease renewed; the owner's other confirmed record goes with
-- its sessions, its lease, its opens and its locks.
abbrev pub confirmed : Machine → (now client : ℕ) → (body : List ℕ) → Machine
confirmed m now client body =
    let gone = leaving m.clients client in
    record {
      clients = with_changed (with_confirmed m.clients client) client (keeping (Done body));
      sessions = option_map_or (without_client m.sessions) gone m.sessions;
      leases = with_renewal (option_map_or (without_lease m.leases) gone m.leases) client now;
      store = option_map_or (λ other. staying (λ c. not (c == other)) m.store) gone m.store;
      owner = m.owner;
    }

-- a result that was kept is answered again
abbrev pub kept_again : Machine → Option CreateResult → Result MachineOutcome Status
kept_again m (Some (Done body)) = Ok (record { status = Nfs4Ok; result = done_head Num.CreateSession ++ body; machine = m })
kept_again m (Some (Refused status)) = Err status
kept_again m None = Err SeqMisordered

-- the session is made
abbrev pub made : Machine → (now : ℕ) → CreateSession → MachineOutcome
made m now c =
    let body = made_body c (record { client = c.clientid; counter = m.sessions.last + 1 }) in
    record {
      status = Nfs4Ok;
      result = done_head Num.CreateSession ++ body;
      machine = confirmed (record m { sessions = with_session m.sessions c.clientid c.fore_chan_attrs }) now c.clientid body;
    }

-- a refusal of what is asked for uses the number up too
abbrev pub kept_refusal : Machine → CreateSession → Status → MachineOutcome
kept_refusal m c status =
    with_refusal (record m { clients = with_changed m.clients c.clientid (keeping (Refused status)) }) (op_number Num.CreateSession) status

-- A result that is answered again wants no memory. What is asked for is the channel, a place among the sessions that stay, and a counter.
abbrev pub create_session : Machine → Caller → (now : ℕ) → (refused : Bool) → CreateSession → MachineOutcome
create_session m who now refused c = or_refused (with_refusal m (op_number Num.CreateSession)) (do
  client ← ok_or (client_at m.clients c.clientid) StaleClientId
  if next_number c.sequence == client.number then kept_again m client.kept else do
    require (c.sequence == client.number) SeqMisordered
    require (client.uid == who.uid) ClidInUse
    Ok (or_with_delay refused m (op_number Num.CreateSession) (or_refused (kept_refusal m c) (do
      in_order ((is_too_small c.fore_chan_attrs, TooSmall)
          ∷ (nat_le m.sessions.most (count_by (outlasts (leaving m.clients c.clientid)) m.sessions.sessions), NoSpc)
          ∷ (m.sessions.last == last_counter, ServerFault)
          ∷ [])
      Ok (made m now c)))))
