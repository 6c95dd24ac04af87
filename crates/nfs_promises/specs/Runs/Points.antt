-- The points of a run over any list of records that come to a server: behind each record, and before each operation of its
-- compound. At none of them has a byte a writer beside another holder, and no two opens of different owners clash (RFC 8881
-- sections 9.1 and 9.7).
use Rattle.std.specs.{Prelude.{ℕ, max, List, [], ◌∷◌, length, Option, None, option_map}, Option.option_map_or}
use Rattle.nfs_xdr.specs.Tables.{In}
use Rattle.nfs_rpc.specs.CallHead.{Called, Accepted, Refused, call_of}
use Rattle.nfs_names.specs.{declared.start.Start.Start}
use Rattle.nfs_exec.specs.{Step.Machine.{Machine, HasNoClashes}, Step.Expiry.expired, Step.Laws.{MachineEvent, Asks}, Runs.Ops.{RanOp, ops_by}}
use Rattle.nfs_promises.specs.Network.Endpoint.{Arrival}
use Rattle.nfs_serve.specs.{Step.{ServerState, new_state, step, asked_of}}

-- the state behind a record, and behind a list of them: `ran` of Endpoint, for this server (`EachFormRunsRecords`)
abbrev pub state_after : ServerState → Arrival → ServerState
state_after s c = (step s c.bytes c.now c.choice).state

abbrev pub state_after_all : ServerState → List Arrival → ServerState
state_after_all s [] = s
state_after_all s (c ∷ more) = state_after_all (state_after s c) more

-- the state that records reach from the start of a server on, whose leases last so many seconds
abbrev pub reached : (start : Start) → List Arrival → ServerState
reached start records = state_after_all (new_state start) records

-- the moment that it is taken at
abbrev pub taken : ServerState → Arrival → ℕ
taken s c = max s.moment c.now

-- the machine in which it is run: what has run out is gone
abbrev pub before : ServerState → Arrival → Machine
before s c = expired (taken s c) s.machine

-- what it asks for, if it is a compound
abbrev pub asks : ℕ → ℕ → Option ℕ → Called → Option MachineEvent
asks size now choice (Refused refusal) = None
asks size now choice (Accepted call) = option_map (λ r. Asks r call.who size now choice) (asked_of call call.procedure)

abbrev pub asked_by : ServerState → Arrival → Option MachineEvent
asked_by s c = asks (length c.bytes) (taken s c) c.choice (call_of c.bytes)

-- the operations that it runs behind its SEQUENCE
abbrev pub ops_of : ServerState → Arrival → List RanOp
ops_of s c = option_map_or (ops_by (before s c)) (asked_by s c) []

pub record IsWithoutClash (s : ServerState) (c : Arrival) : Type 0 where
  pub here : HasNoClashes s.machine
  pub within : (d : RanOp) → In d (ops_of s c) → HasNoClashes d.before

-- No clash at any point of any run.
abbrev pub NoClash : Type 0
NoClash = (start : Start) (records : List Arrival) (c : Arrival) → IsWithoutClash (reached start records) c
