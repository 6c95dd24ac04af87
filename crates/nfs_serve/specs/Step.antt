-- The step of one record: its moment is taken, what has run out goes, and its call is answered (RFC 5531 section 9,
-- RFC 8881 section 16).
use Rattle.std.specs.Prelude.{ℕ, max, List, ◌++◌, length, Option, Some, None}
use Rattle.nfs_rpc.specs.{declared.refusal.Refusal.Refusal, declared.refusal.Refusal.TheVariants.{Silent, Accept}}
use Rattle.nfs_rpc.specs.{declared.refusal.AcceptStat.TheVariants.GarbageArgs, declared.call.Procedure.Procedure}
use Rattle.nfs_rpc.specs.{CallHead.{Call, Called, Accepted, Refused, call_of}, Reply.{spell_head, spell_refusal}}
use Rattle.nfs_compound.specs.{Request.Request, ReadRequest.request_at}
use Rattle.nfs_names.specs.{declared.start.Start.Start}
use Rattle.nfs_exec.specs.{Step.Machine.{Machine, starts}, Step.Compound.{Answered, compound}, Step.Expiry.expired}

-- what lasts from one record to the next: the tables, and the moment that was taken last, in seconds
pub record ServerState : Type 0 where
  pub machine : Machine
  pub moment : ℕ

-- a new server
abbrev pub new_state : (start : Start) → ServerState
new_state start = record { machine = starts start; moment = 0 }

-- the reply, where there is one, and the state that the record leaves
pub record Stepped : Type 0 where
  pub reply : Option (List ℕ)
  pub state : ServerState

abbrev pub refused : ServerState → Refusal → Stepped
refused s Silent = record { reply = None; state = s }
refused s refusal = record { reply = Some (spell_refusal refusal); state = s }

-- the head of an accepted reply, and the result
abbrev pub answered : ServerState → ℕ → Answered → Stepped
answered s xid a = record { reply = Some (spell_head xid ++ a.text); state = record { machine = a.machine; moment = s.moment } }

-- the request of a call, where it is of COMPOUND and its arguments can be read
abbrev pub asked_of : Call → Procedure → Option Request
asked_of call Procedure.Null = None
asked_of call Procedure.Compound = request_at call.args

-- arguments that are no request are garbage, and nothing is run
abbrev pub with_arguments : ServerState → Call → ℕ → Option ℕ → Option Request → Stepped
with_arguments s call size choice None = refused s (Accept call.xid GarbageArgs)
with_arguments s call size choice (Some request) = answered s call.xid (compound s.machine request call.who size s.moment choice)

-- in a record of so many bytes
abbrev pub by_procedure : ServerState → Call → ℕ → Option ℕ → Procedure → Stepped
by_procedure s call size choice Procedure.Null = record { reply = Some (spell_head call.xid); state = s }
by_procedure s call size choice Procedure.Compound = with_arguments s call size choice (request_at call.args)

abbrev pub reply_to : ServerState → ℕ → Option ℕ → Called → Stepped
reply_to s size choice (Refused refusal) = refused s refusal
reply_to s size choice (Accepted call) = by_procedure s call size choice call.procedure

-- A record at a moment. The later of its moment and the one taken last is taken. `choice` is the place in its compound
-- at which memory is refused, if any.
unfoldable pub step : ServerState → List ℕ → ℕ → Option ℕ → Stepped
step s call now choice =
    let moment = max s.moment now in
    reply_to (record { machine = expired moment s.machine; moment = moment }) (length call) choice (call_of call)
