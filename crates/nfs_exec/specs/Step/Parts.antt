-- SEQUENCE, CREATE_SESSION and EXCHANGE_ID in the parts that their code takes, which only contracts inside the crate cite: the tables of clients and of
-- sessions judge, and what they answer is told.
use Rattle.std.specs.{Prelude.{ℕ, ◌==◌, ◌++◌, not, Bool, false, List, Option, Result, Ok, Err, ok_or, if◌then◌else◌}, Option.option_map_or}
use Rattle.nfs_xdr.specs.{Checks.{first_fault, judged}, Caller.Caller, declared.status.Status.Status}
use Rattle.nfs_xdr.specs.declared.status.Status.TheVariants.{Nfs4Ok, StaleClientId, SeqMisordered, ClidInUse, BadSession}
use Rattle.nfs_compound.specs.{declared.channel_attrs.ChannelAttrs.ChannelAttrs, declared.session_args.Sequence.Sequence, declared.session_args.CreateSession.CreateSession, Request.Request}
use Rattle.nfs_compound.specs.{declared.session_args.ExchangeId.ExchangeId, OpNum.op_number}
use Rattle.nfs_compound.specs.declared.op_num.OpNum.TheVariants as Num
use Rattle.nfs_results.specs.{declared.res.ExchangeIdOk.ExchangeIdOk, declared.res.Res.Res, Results.done_head}
use Rattle.nfs_slots.specs.{Slot.judge, declared.slot.Verdict.Verdict}
use Rattle.nfs_clients.specs.{declared.created.CreateResult.CreateResult, declared.created.CreateResult.TheVariants.{Done, Refused}}
use Rattle.nfs_clients.specs.{declared.exchange_id.Exchanged.Exchanged, declared.exchange_id.ClientFault.ClientFault, Roster.confirmed_of}
use Rattle.nfs_clients.specs.CreateSession.{Verdict as ByNumber, Stale, Again, Misordered, InUse, Runs, create_verdict, with_kept, leaving}
use Rattle.nfs_clients.specs.ExchangeId.{Ask, Did, asks, exchange, client_fault_status}
use Rattle.nfs_sessions.specs.{declared.channel.Wish.Wish, declared.id.SessionId.SessionId, declared.sessions.SessionFault.SessionFault}
use Rattle.nfs_sessions.specs.Sessions.{Session, SessionTable, Created, create}
use Rattle.nfs_sessions.specs.Sessions as sessions
use Rattle.nfs_opens.specs.Steps.{in_order, ◌>>=◌, ◌>>◌}
use Rattle.nfs_names.specs.{State.State, Ending.{has_open, staying}}
use Rattle.nfs_lease.specs.Renewals.{Book, with_lease, without_lease}
use Rattle.nfs_exec.specs.{Step.Machine.{Machine, MachineOutcome, with_result, with_refusal, or_refused, or_with_delay}, Step.ExchangeId.granted}
use Rattle.nfs_exec.specs.Step.CreateSession.{made_body, confirmed}
use Rattle.nfs_exec.specs.Step.Sequence.{Sequenced, Refuses, compared, slot_checks, fresh_checks, by_slot}

-- SEQUENCE

abbrev pub slot_fault : Sequence → ChannelAttrs → Option Status
slot_fault s c = first_fault (slot_checks s c)

abbrev pub fresh_fault : Request → (size : ℕ) → ChannelAttrs → Option Status
fresh_fault r size c = first_fault (fresh_checks r size c)

-- it is refused with a fault, if it has one, or goes on
abbrev pub past : Option Status → Result Sequenced Status → Sequenced
past fault next = or_refused Refuses (judged fault >> next)

-- where the slot has judged
abbrev pub slot_says : Request → (size : ℕ) → Sequence → Session → Verdict → Sequenced
slot_says r size s session v = or_refused Refuses (by_slot r size s session v)

-- by the session that was found
abbrev pub by_session : Request → Caller → (size : ℕ) → Sequence → Option Session → Sequenced
by_session r who size s found = or_refused Refuses (do
  session ← ok_or found BadSession
  in_order (slot_checks s session.channel)
  by_slot r size s session (judge session.slots s.slotid s.sequenceid who.uid (compared r)))

-- CREATE_SESSION

abbrev pub wish_of : Machine → CreateSession → Wish
wish_of m c = record { fore = c.fore_chan_attrs; back = c.back_chan_attrs; leaving = leaving m.clients c.clientid }

-- the tables without what a client has whose record leaves, if one does
abbrev pub without_any_sessions : SessionTable → Option ℕ → SessionTable
without_any_sessions t gone = option_map_or (sessions.without_client t) gone t

abbrev pub without_any_lease : Book → Option ℕ → Book
without_any_lease b gone = option_map_or (without_lease b) gone b

abbrev pub without_any_opens : State → Option ℕ → State
without_any_opens s gone = option_map_or (λ other. staying (λ c. not (c == other)) s) gone s

abbrev pub by_created : Machine → (now : ℕ) → CreateSession → SessionTable → Result SessionId SessionFault → MachineOutcome
by_created m now c after (Ok id) = record {
  status = Nfs4Ok;
  result = done_head Num.CreateSession ++ made_body c id;
  machine = confirmed (record m { sessions = after }) now c.clientid (made_body c id);
}
by_created m now c after (Err fault) =
    let status = sessions.session_fault_status fault in
    with_refusal (record m { clients = with_kept m.clients c.clientid (Refused status) }) (op_number Num.CreateSession) status

abbrev pub creates : Machine → (now : ℕ) → CreateSession → Created → MachineOutcome
creates m now c did = by_created m now c did.after did.answer

-- what was kept, answered again
abbrev pub repeated : Machine → CreateResult → MachineOutcome
repeated m (Done body) = record { status = Nfs4Ok; result = done_head Num.CreateSession ++ body; machine = m }
repeated m (Refused status) = with_refusal m (op_number Num.CreateSession) status

-- by what the table of clients says of the number
abbrev pub by_number : Machine → (now : ℕ) → (refused : Bool) → CreateSession → ByNumber → MachineOutcome
by_number m now refused c Stale = with_refusal m (op_number Num.CreateSession) StaleClientId
by_number m now refused c (Again result) = repeated m result
by_number m now refused c Misordered = with_refusal m (op_number Num.CreateSession) SeqMisordered
by_number m now refused c InUse = with_refusal m (op_number Num.CreateSession) ClidInUse
by_number m now refused c Runs = or_with_delay refused m (op_number Num.CreateSession) (creates m now c (create m.sessions c.clientid (wish_of m c)))

abbrev pub created_by : Machine → Caller → (now : ℕ) → (refused : Bool) → CreateSession → MachineOutcome
created_by m who now refused c = by_number m now refused c (create_verdict m.clients c.clientid c.sequence who.uid)

-- EXCHANGE_ID

abbrev pub granted_of : (name : List ℕ) → Exchanged → ExchangeIdOk
granted_of name x = granted name x.id x.number x.confirmed

abbrev pub answered : (name : List ℕ) → Result Exchanged ClientFault → Res
answered name (Ok x) = Res.ExchangeId (granted_of name x)
answered name (Err fault) = Res.Refused (op_number Num.ExchangeId) (client_fault_status fault)

abbrev pub leases_behind : Book → (now : ℕ) → Result Exchanged ClientFault → Book
leases_behind b now (Err fault) = b
leases_behind b now (Ok x) = if x.added then without_any_lease (with_lease b x.id now) x.replaced else b

-- an open stands of the client that the owner's confirmed record is
abbrev pub owner_has_open : Machine → (owner : List ℕ) → Bool
owner_has_open m owner = option_map_or (λ c. has_open m.store c.id) (confirmed_of m.clients owner) false

-- what the caller asks of the table; who made the client is not looked at
abbrev pub ask_of : Machine → Caller → ExchangeId → Ask
ask_of m who e = asks e.ownerid e.verifier e.flags who.uid (owner_has_open m e.ownerid)

-- what the table did, told
abbrev pub did_exchange : Machine → (now : ℕ) → Did → MachineOutcome
did_exchange m now did = with_result (record m { clients = did.after; leases = leases_behind m.leases now did.answer }) (answered m.owner did.answer)

abbrev pub exchanged_by : Machine → Caller → (now : ℕ) → ExchangeId → MachineOutcome
exchanged_by m who now e = did_exchange m now (exchange m.clients (ask_of m who e))
