-- EXCHANGE_ID (RFC 8881 section 18.35; which of its cases there are is this server's profile): a record that stands is answered, or a new one is added.
use Rattle.std.specs.Prelude.{ℕ, ◌==◌, not, bit_and, bytes_eq, List, Bool, true, false, Option, Some, None, Result, Ok, option_map, if◌then◌else◌}
use Rattle.std.specs.Option.{option_map_or}
use Rattle.nfs_xdr.specs.{Caller.Caller, declared.status.Status.Status}
use Rattle.nfs_xdr.specs.declared.status.Status.TheVariants.{Inval, NoEnt, NotSame, Perm, ClidInUse, ServerFault}
use Rattle.nfs_compound.specs.declared.op_num.OpNum.TheVariants as Num
use Rattle.nfs_compound.specs.{OpNum.op_number, declared.session_args.ExchangeId.ExchangeId}
use Rattle.nfs_results.specs.{declared.res.ExchangeIdOk.ExchangeIdOk, declared.res.Res.Res}
use Rattle.nfs_clients.specs.{Roster.{ClientRecord, next_id, confirmed_of, unconfirmed_of}, ExchangeId.{has_room, with_new}}
use Rattle.nfs_opens.specs.Steps.{require, ◌>>=◌, ◌>>◌}
use Rattle.nfs_names.specs.Ending.{has_open}
use Rattle.nfs_lease.specs.Renewals.{with_lease, without_lease}
use Rattle.nfs_exec.specs.Step.Machine.{Machine, MachineOutcome, with_result, with_refusal, or_refused}

-- EXCHGID4_FLAG_UPD_CONFIRMED_REC_A
abbrev pub is_update : ExchangeId → Bool
is_update e = not (bit_and e.flags 0x4000_0000 == 0)

-- The record that the call leaves, by the owner's confirmed one; none where a new one is to be added. An update bears the verifier of the record, and comes
-- from its user. A client that has started again, and another user where no open of the client stands, get a new one.
abbrev pub standing : Machine → Caller → ExchangeId → Option ClientRecord → Result (Option ClientRecord) Status
standing m who e None = do
  require (not (is_update e)) NoEnt
  Ok None
standing m who e (Some c) =
    if is_update e then (do
      require (bytes_eq c.verifier e.verifier) NotSame
      require (c.uid == who.uid) Perm
      Ok (Some c))
    else if c.uid == who.uid then Ok (if bytes_eq c.verifier e.verifier then Some c else None)
    else do
      require (not (has_open m.store c.id)) ClidInUse
      Ok None

-- The answer, with no state protection and no implementation named: EXCHGID4_FLAG_USE_NON_PNFS, and EXCHGID4_FLAG_CONFIRMED_R where the record is confirmed.
-- The server names itself and its scope by one text.
abbrev pub granted : (name : List ℕ) → (client number : ℕ) → (confirmed : Bool) → ExchangeIdOk
granted name client number confirmed = record {
  clientid = client;
  sequenceid = number;
  flags = if confirmed then 0x8001_0000 else 0x0001_0000;
  minor_id = 0;
  major_id = name;
  server_scope = name;
}

-- A new record begins its lease. The owner's unconfirmed one, which it replaces, loses its own.
abbrev pub exchanged : Machine → Caller → (now : ℕ) → ExchangeId → Option ClientRecord → Result MachineOutcome Status
exchanged m who now e (Some c) = Ok (with_result m (Res.ExchangeId (granted m.owner c.id c.number true)))
exchanged m who now e None = do
  require (has_room m.clients e.ownerid) ServerFault
  let begun = with_lease m.leases (next_id m.clients) now in Ok (with_result (record m {
    clients = with_new m.clients e.ownerid e.verifier who.uid;
    leases = option_map_or (without_lease begun) (option_map (λ c. c.id) (unconfirmed_of m.clients e.ownerid)) begun;
  }) (Res.ExchangeId (granted m.owner (next_id m.clients) 1 false)))

-- no call may carry EXCHGID4_FLAG_CONFIRMED_R
abbrev pub exchange_id : Machine → Caller → (now : ℕ) → ExchangeId → MachineOutcome
exchange_id m who now e = or_refused (with_refusal m (op_number Num.ExchangeId)) (do
  require (bit_and e.flags 0x8000_0000 == 0) Inval
  found ← standing m who e (confirmed_of m.clients e.ownerid)
  exchanged m who now e found)
