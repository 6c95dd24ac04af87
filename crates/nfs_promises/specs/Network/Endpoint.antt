-- What a network sees of any server with sessions (RFC 8881 section 2.10.6): records go in at moments, replies come out. Which these are
-- for this server, `ThisServer` says.
use Rattle.std.specs.Prelude.{ℕ, Bool, List, [], ◌∷◌, Option}
use Rattle.nfs_slots.specs.Slot.{SlotState}
use Rattle.nfs_sessions.specs.declared.id.SessionId.{SessionId}

-- a slot of a session
pub record Place : Type 0 where
  pub session : SessionId
  pub slot : ℕ

-- a compound that is sent on a slot: its number there (the sequence id of its SEQUENCE), its user, and its argument bytes, which are all that stands behind
-- the call's head, but for sa_highest_slotid: what differs in that field alone is one compound
pub record Compound : Type 0 where
  pub number : ℕ
  pub uid : ℕ
  pub args : List ℕ

-- What a record says that is a call of COMPOUND, with minor version 1 and beginning with SEQUENCE: under which xid, on which slot, what, and in
-- sa_highest_slotid the highest slot that its caller has in use as it sends.
pub record Heading : Type 0 where
  pub xid : ℕ
  pub place : Place
  pub compound : Compound
  pub highest : ℕ

-- a reply that says success: the xid, and the bytes behind the reply's head
pub record Answer : Type 0 where
  pub xid : ℕ
  pub result : List ℕ

-- what the result of a SEQUENCE bears: the slot that it was on, and its number there
pub record SlotNumber : Type 0 where
  pub place : Place
  pub number : ℕ

-- what a server does with a record
pub record Stepped (State : Type 0) : Type 0 where
  -- None where it sends no reply, or one whose head does not say success
  pub answer : Option Answer
  pub state : State

pub record Server : Type 1 where
  pub State : Type 0
  -- just made
  pub new : State
  -- None for a record that is no compound on a slot
  pub heading : List ℕ → Option Heading
  -- a whole record at a moment, and the place in it at which memory is refused, if any
  pub step : State → List ℕ → ℕ → Option ℕ → Stepped State
  -- the record at a moment executes: its SEQUENCE is new on its slot and not refused, or it is one of the operations that stand alone
  pub executes : State → List ℕ → ℕ → Bool
  -- a result begins with SEQUENCE's, and that is NFS4_OK
  pub IsSequenced : List ℕ → Type 0
  -- and bears this slot and number
  pub Bears : List ℕ → SlotNumber → Type 0
  -- what a slot holds; None where the session or the slot is not there
  pub slot_at : State → Place → Option SlotState
  -- the moment that was taken last
  pub moment : State → ℕ
  -- the later of that moment and another is taken, and what has run out by then goes
  pub tick : State → ℕ → State

-- a record that reaches the server at a moment, and the place in it at which memory is refused, if any
pub record Arrival : Type 0 where
  pub bytes : List ℕ
  pub now : ℕ
  pub choice : Option ℕ

abbrev pub stepped : (s : Server) → s.State → Arrival → Stepped s.State
stepped s m a = s.step m a.bytes a.now a.choice

-- the state that a list of records leaves
abbrev pub ran : (s : Server) → s.State → List Arrival → s.State
ran s m [] = m
ran s m (a ∷ more) = ran s (stepped s m a).state more
