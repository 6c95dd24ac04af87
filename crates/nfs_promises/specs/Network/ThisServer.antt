-- This server as a network sees it: which record is a compound on a slot and which executes (RFC 8881 section 2.10.6), and what a reply says
-- (RFC 5531 section 9, RFC 8881 section 16.2).
use Rattle.std.specs.Prelude.{◌≡◌, ◌↔◌, ℕ, max, Bool, false, List, [], length, Option, Some, None, slice_get, option_map, option_and_then}
use Rattle.std.specs.Option.{option_map_or}
use Rattle.nfs_xdr.specs.{Text.{Text, ◌then◌, void, uint32, enum, fixed, opaque, Begins, Leads}, Limits.opaque_limit, declared.status.Status.TheVariants.Nfs4Ok}
use Rattle.nfs_rpc.specs.{CallHead.{Call, Called, Accepted, Refused, call_of}, Wire.opaque_auth}
use Rattle.nfs_compound.specs.{declared.session_args.Sequence.Sequence, OpNum.op_number, Request.Request}
use Rattle.nfs_compound.specs.declared.op_num.OpNum.TheVariants as Num
use Rattle.nfs_results.specs.Wire.{text_of, ends}
use Rattle.nfs_names.specs.{declared.start.Start.Start}
use Rattle.nfs_slots.specs.Slot.{SlotState}
use Rattle.nfs_sessions.specs.{Id.id_of, Sessions.{Session, session_at}}
use Rattle.nfs_exec.specs.Step.Executing as requests
use Rattle.nfs_exec.specs.{Step.Sequence.compared, Step.Expiry.expired}
use Rattle.nfs_promises.specs.Network.Endpoint.{Stepped as Seen, Heading, Answer, SlotNumber, Server}
use Rattle.nfs_serve.specs.{Step.{ServerState, Stepped, new_state, step, asked_of}}

-- the head of a reply that says success: its xid, REPLY 1, MSG_ACCEPTED 0, a verifier AUTH_NONE 0 of no bytes, SUCCESS 0
abbrev pub accepted_reply : ℕ → Text
accepted_reply xid = uint32 xid then enum 1 then enum 0 then opaque_auth (record { flavor = 0; body = [] }) then enum 0

-- the reply is that, and behind it is the result
abbrev pub IsAnswer : List ℕ → Answer → Type 0
IsAnswer reply a = Leads accepted_reply reply (a.xid, a.result)

-- whatever finds the answer in each reply that is the text of one, and none in any other
pub record ReplyReader : Type 0 where
  pub find : List ℕ → Option Answer
  pub exact : (reply : List ℕ) (a : Answer) → find reply ≡ Some a ↔ IsAnswer reply a

-- the front of a compound's result (RFC 8881 section 16.2.2): its status, its tag, how many operations answered, and this of the first of them
abbrev pub front : Text → ℕ × (List ℕ × ℕ) → Text
front first (status, (tag, count)) = uint32 status then opaque opaque_limit tag then uint32 count then first

-- SEQUENCE with NFS4_OK, and this of what is behind that
abbrev pub sequence : Text → Text
sequence behind = text_of (ends (op_number Num.Sequence) Nfs4Ok behind)

-- the first operation that answered is SEQUENCE, with NFS4_OK
abbrev pub IsSequenced : List ℕ → Type 0
IsSequenced result = Begins (front (sequence void)) result

-- and it bears the session, the number and the slot (RFC 8881 section 18.46.2)
abbrev pub Bears : List ℕ → SlotNumber → Type 0
Bears result n = (sessionid : List ℕ) × (n.place.session ≡ id_of sessionid)
    × Begins (front (sequence (fixed 16 sessionid then uint32 n.number then uint32 n.place.slot))) result

-- a compound is what a repeat is compared by
abbrev pub heading_of : Call → Request → Sequence → Heading
heading_of call r s = record {
  xid = call.xid;
  place = record { session = id_of s.sessionid; slot = s.slotid };
  compound = record { number = s.sequenceid; uid = call.who.uid; args = compared r };
  highest = s.highest_slotid;
}

abbrev pub heading_by : Called → Option Heading
heading_by (Refused refusal) = None
heading_by (Accepted call) = option_and_then (λ r. option_map (heading_of call r) (requests.sequence_of r)) (asked_of call call.procedure)

-- what a record says that is a compound on a slot
abbrev pub heading : List ℕ → Option Heading
heading bytes = heading_by (call_of bytes)

-- the later moment is taken, and what has run out by then goes
abbrev pub ticked : ServerState → ℕ → ServerState
ticked s now = let moment = max s.moment now in record { machine = expired moment s.machine; moment = moment }

-- a call executes, in a record of so many bytes, once its moment is taken
abbrev pub executes_by : ServerState → ℕ → Called → Bool
executes_by s size (Refused refusal) = false
executes_by s size (Accepted call) = option_map_or (λ r. requests.executes s.machine r call.who size) (asked_of call call.procedure) false

-- a slot of a session
abbrev pub slot_in : ℕ → Option Session → Option SlotState
slot_in slot None = None
slot_in slot (Some s) = slice_get s.slots slot

-- what a network sees of a step
abbrev pub seen : (find : List ℕ → Option Answer) → Stepped → Seen ServerState
seen find s = record { answer = option_and_then find s.reply; state = s.state }

-- a server whose root has a mode, of an instance, and whose leases last so many seconds, by what is found in its replies
abbrev pub server : (find : List ℕ → Option Answer) (start : Start) → Server
server find start = record {
  State = ServerState;
  new = new_state start;
  heading = heading;
  step = λ s bytes now choice. seen find (step s bytes now choice);
  executes = λ s bytes now. executes_by (ticked s now) (length bytes) (call_of bytes);
  IsSequenced = IsSequenced;
  Bears = Bears;
  slot_at = λ s p. slot_in p.slot (session_at s.machine.sessions p.session);
  moment = λ s. s.moment;
  tick = ticked;
}
