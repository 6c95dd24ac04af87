-- The sessions as a table by id (RFC 8881 sections 2.10, 18.36 and 18.37).
use Rattle.std.specs.Prelude.{ℕ, ◌+◌, ◌==◌, nat_le, Bool, true, not, ◌&&◌, if◌then◌else◌, List, [], ◌∷◌, ◌++◌, Option, Some, None, Result, Ok, Err, filter, map}
use Rattle.std.specs.Prelude.{find, count_by, replicate}
use Rattle.nfs_xdr.specs.{Checks.first_fault, declared.status.Status.Status}
use Rattle.nfs_xdr.specs.declared.status.Status.TheVariants as status
use Rattle.nfs_slots.specs.Slot.{SlotState, unused_slot}
use Rattle.nfs_slots.specs.Slot as slots
use Rattle.nfs_compound.specs.declared.channel_attrs.ChannelAttrs.{ChannelAttrs}
use Rattle.nfs_sessions.specs.{declared.channel.Wish.Wish, declared.id.SessionId.SessionId, declared.sessions.SessionFault.SessionFault}
use Rattle.nfs_sessions.specs.{declared.sessions.SessionFault.TheVariants.{TooSmall, NoSpc, ServerFault, Memory}, Channel.{granted, is_too_small}}

-- a session: its counter, the id of its client, what was granted of its fore channel, and its slots (section 2.10.6.1)
pub record Session : Type 0 where
  pub counter : ℕ
  pub client : ℕ
  pub channel : ChannelAttrs
  pub slots : List SlotState

-- the sessions that stand, the last counter that was given, 0 before the first, and how many stand at once at most
pub record SessionTable : Type 0 where
  pub sessions : List Session
  pub last : ℕ
  pub most : ℕ

-- the table of a new server, in which so many are to stand at once at most
abbrev pub no_sessions : ℕ → SessionTable
no_sessions most = record { sessions = []; last = 0; most = most }

-- as many slots as its channel has, and none took a request
abbrev pub new_session : (counter client : ℕ) → ChannelAttrs → Session
new_session counter client channel = record { counter = counter; client = client; channel = channel; slots = replicate channel.maxrequests unused_slot }

abbrev pub is_session : SessionId → Session → Bool
is_session id s = (s.counter == id.counter) && (s.client == id.client)

abbrev pub session_at : SessionTable → SessionId → Option Session
session_at t id = find (is_session id) t.sessions

-- the last value of the counter
abbrev pub last_counter : ℕ
last_counter = 0xffff_ffff_ffff_ffff

-- the status that a fault is answered with
abbrev pub session_fault_status : SessionFault → Status
session_fault_status TooSmall = status.TooSmall
session_fault_status NoSpc = status.NoSpc
session_fault_status ServerFault = status.ServerFault
session_fault_status Memory = status.Delay

-- whether a session stays where the client record that is leaving goes
abbrev pub outlasts : Option ℕ → Session → Bool
outlasts None s = true
outlasts (Some client) s = not (s.client == client)

abbrev pub create_checks : SessionTable → Wish → List (Bool × SessionFault)
create_checks t wish =
    (is_too_small wish.fore, TooSmall)
    ∷ (nat_le t.most (count_by (outlasts wish.leaving) t.sessions), NoSpc)
    ∷ (t.last == last_counter, ServerFault)
    ∷ []

abbrev pub create_fault : SessionTable → Wish → Option SessionFault
create_fault t wish = first_fault (create_checks t wish)

-- the table with a session of what is granted, under the next counter
abbrev pub with_session : SessionTable → ℕ → (fore : ChannelAttrs) → SessionTable
with_session t client fore = record t {
  sessions = t.sessions ++ new_session (t.last + 1) client (granted fore) ∷ [];
  last = t.last + 1;
}

-- an answer, and the table after it
pub record Created : Type 0 where
  pub answer : Result SessionId SessionFault
  pub after : SessionTable

-- a refusal leaves the table
abbrev pub create_unless : SessionTable → ℕ → Wish → Option SessionFault → Created
create_unless t client wish None = record { answer = Ok (record { client = client; counter = t.last + 1 }); after = with_session t client wish.fore }
create_unless t client wish (Some fault) = record { answer = Err fault; after = t }

abbrev pub create : SessionTable → ℕ → Wish → Created
create t client wish = create_unless t client wish (create_fault t wish)

abbrev pub destroyed : SessionTable → SessionId → SessionTable
destroyed t id = record t { sessions = filter (λ s. not (is_session id s)) t.sessions }

abbrev pub without_client : SessionTable → ℕ → SessionTable
without_client t client = record t { sessions = filter (λ s. not (s.client == client)) t.sessions }

-- a session's slot keeps a reply, without its RPC head
abbrev pub keep : SessionTable → SessionId → ℕ → ℕ → ℕ → List ℕ → List ℕ → SessionTable
keep t id slot number uid args reply =
    record t { sessions = map (λ s. if is_session id s then record s { slots = slots.keep s.slots slot number uid args reply } else s) t.sessions }
