-- What holds of every table of sessions, and of every list of calls on it.
use Rattle.std.specs.Prelude.{◌≡◌, ℕ, ◌+◌, ◌==◌, suc, Bool, ◌&&◌, if◌then◌else◌, List, [], ◌∷◌, ◌++◌, Option, Some, None, option_map, option_to_list, map}
use Rattle.std.specs.Result.{result_ok}
use Rattle.nfs_xdr.specs.Tables.{IsRising}
use Rattle.nfs_slots.specs.Slot.{SlotState}
use Rattle.nfs_sessions.specs.{declared.channel.Wish.Wish, declared.id.SessionId.SessionId, Channel.granted}
use Rattle.nfs_sessions.specs.Sessions.{Session, SessionTable, new_session, session_at, is_session, create, with_session, destroyed, without_client}
use Rattle.nfs_sessions.specs.SessionTables.{IsSessions}

-- the table with other slots of one session, and all else as it was
abbrev pub with_slots : SessionTable → SessionId → (List SlotState → List SlotState) → SessionTable
with_slots t id change = record t { sessions = map (λ s. if is_session id s then record s { slots = change s.slots } else s) t.sessions }

abbrev pub is_id : SessionId → SessionId → Bool
is_id id other = (id.counter == other.counter) && (id.client == other.client)

-- the table is a map from id to session: each change is at the ids that it names, and at no other
pub record IsMap (t : SessionTable) : Type 0 where
  pub created : (client : ℕ) (wish : Wish) (id : SessionId) →
      session_at (with_session t client wish.fore) id
      ≡ (if is_id id (record { client = client; counter = t.last + 1 })
      then Some (new_session (t.last + 1) client (granted wish.fore)) else session_at t id)
  pub destroyed_at : (gone id : SessionId) → session_at (destroyed t gone) id ≡ (if is_id id gone then None else session_at t id)
  pub dropped_at : (client : ℕ) (id : SessionId) → session_at (without_client t client) id ≡ (if id.client == client then None else session_at t id)
  pub changed_at : (at id : SessionId) (change : List SlotState → List SlotState) →
      session_at (with_slots t at change) id
      ≡ (if is_id id at then option_map (λ (s : Session). record s { slots = change s.slots }) (session_at t id) else session_at t id)

abbrev pub SessionsAreAMap : Type 0
SessionsAreAMap = (t : SessionTable) → IsSessions t → IsMap t

-- a call that changes the table
pub data Call : Type 0 where
  Create : (client : ℕ) (wish : Wish) → Call
  Destroy : (id : SessionId) → Call
  DropClient : (client : ℕ) → Call
  Change : (id : SessionId) (change : List SlotState → List SlotState) → Call

abbrev pub after : SessionTable → Call → SessionTable
after t (Create client wish) = (create t client wish).after
after t (Destroy id) = destroyed t id
after t (DropClient client) = without_client t client
after t (Change id change) = with_slots t id change

-- the id that a call gives, if it gives one
abbrev pub given : SessionTable → Call → Option SessionId
given t (Create client wish) = result_ok (create t client wish).answer
given t _ = None

abbrev pub all_after : SessionTable → List Call → SessionTable
all_after t [] = t
all_after t (call ∷ calls) = all_after (after t call) calls

abbrev pub all_given : SessionTable → List Call → List SessionId
all_given t [] = []
all_given t (call ∷ calls) = option_to_list (given t call) ++ all_given (after t call) calls

-- the counters of the ids that are given rise, from above the last that was given before: no id is given twice
abbrev pub IdsRise : Type 0
IdsRise = (t : SessionTable) (calls : List Call) → IsRising (λ id. id.counter) (t.last + 1) (all_given t calls) (suc (all_after t calls).last)
