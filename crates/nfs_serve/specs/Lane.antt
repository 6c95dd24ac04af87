-- What a port's fields stand for, and how far its functions bring it; private contracts alone speak of it.
use Rattle.std.specs.Prelude.{◌≡◌, ◌⊎◌, ℕ, ◌+◌, ◌-◌, ◌<◌, List, [], ◌∷◌, ◌++◌, length, map, filter, flat_map, true, false, not, ◌&&◌, ◌||◌, Bool, Option}
use Rattle.nfs_rpc.specs.RecordMarking.{is_too_long}
use Rattle.nfs_serve.specs.{Step.ServerState, Told.{Told, Turn, Moment, Late, Logs}, Sequenced.answers_sequence, Server.{KeptServer, state_of}}
use Rattle.nfs_serve.specs.Desk.{Desk, Act, StepsPart, Goes, MayClose, IsStuck, ReadsOnce, is_of_read, is_step, step_count, taken_by, taken_count, late_by, is_late, EndsTurn}
use Rattle.nfs_serve.specs.{Deeds.{Deed, counted, shown, asked}, declared.lane.Budget.Budget, declared.lane.Lane.Lane, declared.lane.Rest.Rest}
use Rattle.nfs_serve.specs.declared.lane.Rest.TheVariants.{Clear, Stuck, Gone}

abbrev pub desk_of : Lane → Desk
desk_of lane = record {
  live = lane.live;
  gone = lane.gone;
  heard = lane.heard;
  stream = lane.connection;
  unread = lane.unread;
  owed = lane.owed.bytes;
}

abbrev pub desks_of : List Lane → List Desk
desks_of lanes = map desk_of lanes

-- what a port's acts go from and lead to: the server, the port, what the connections have shown and what the clock has told
pub record Stand : Type 0 where
  pub state : ServerState
  pub desk : Desk
  pub log : Option (List Deed)
  pub told : Option (List Told)

abbrev pub stand : KeptServer → Lane → Option (List Deed) → Option (List Told) → Stand
stand kept lane log told = record { state = state_of kept; desk = desk_of lane; log = log; told = told }

-- the acts of one port: what they do, what they show, and what the clock told for them
pub record Advances (port : ℕ) (acts : List Act) (a b : Stand) : Type 0 where
  pub goes : Goes port a.state a.desk acts b.state b.desk
  pub logs : Logs a.log b.log (flat_map (shown port) acts)
  pub clock : Logs a.told b.told (flat_map asked acts)

-- how a flush ends: nothing is owed, the peer took no more, or the connection has failed
abbrev pub FlushesTo : Rest → List Act → Desk → Desk → Type 0
FlushesTo Clear acts d e = e ≡ record d { owed = [] }
FlushesTo Stuck acts d e = IsStuck acts e
FlushesTo Gone acts d e = MayClose e

-- acts that need no clock, leave the state as it is and read nothing
pub record Quiet (port : ℕ) (acts : List Act) (d e : Desk) (l0 l1 : Option (List Deed)) : Type 0 where
  pub goes : (s : ServerState) → Goes port s d acts s e
  pub logs : Logs l0 l1 (flat_map (shown port) acts)
  pub unasked : flat_map asked acts ≡ []
  pub no_reads : filter is_of_read acts ≡ []

-- each part is stepped where the peer may still take some bytes, of so many, and the turn is not late
abbrev pub StepsWithin : ℕ → Bool → List Act → Type 0
StepsWithin left late [] = Unit {0}
StepsWithin left late (a ∷ acts) = (is_step a ≡ true → (0 < left) × (late ≡ false)) × StepsWithin (left - taken_by a) (late || late_by a) acts

-- what acts use up of what may be done in a turn
pub record Spends (acts : List Act) (old new : Budget) : Type 0 where
  pub steps : step_count acts + new.steps ≡ old.steps
  pub bytes : new.bytes ≡ old.bytes - taken_count acts
  pub late : new.late ≡ (old.late || is_late acts)
  pub within : StepsWithin old.bytes old.late acts

abbrev pub Flushes : Rest → ℕ → Desk → Desk → Option (List Deed) → Option (List Deed) → Budget → Budget → Type 0
Flushes rest port d e l0 l1 old new = (acts : List Act) × Quiet port acts d e l0 l1 × FlushesTo rest acts d e × Spends acts old new

-- nothing more may be stepped
abbrev pub IsSpent : Budget → Type 0
IsSpent left = (left.steps ≡ 0) ⊎ (left.bytes ≡ 0) ⊎ (left.late ≡ true)

-- something may
abbrev pub IsLeft : Budget → Type 0
IsLeft left = (0 < left.steps) × (0 < left.bytes) × (left.late ≡ false)

-- all that came was stepped; or as much as may be, and more waits
abbrev pub HasHadEnough : Budget → List ℕ → Type 0
HasHadEnough left unread = (unread ≡ []) ⊎ ((0 < length unread) × IsSpent left)

-- what came to rest, where so much may still be done in its turn
abbrev pub Rests : Rest → List Act → Desk → Budget → Type 0
Rests Clear acts e left = (e.live ≡ true) × (is_too_long e.stream ≡ false) × HasHadEnough left e.unread × (e.owed ≡ [])
Rests Stuck acts e left = IsStuck acts e
Rests Gone acts e left = MayClose e

-- what came was answered so far, and nothing was read
abbrev pub Settles : Rest → ℕ → Stand → Stand → Budget → Budget → Type 0
Settles rest port a b old new = (acts : List Act) × Advances port acts a b × Rests rest acts b.desk new × (filter is_of_read acts ≡ []) × Spends acts old new

-- what may be done in a turn
abbrev pub whole : Budget
whole = record { steps = 16; bytes = 65536; late = false }

-- how a turn ends, or that the connection is to be closed then
abbrev pub EndsOrMayClose : Rest → List Act → Desk → Type 0
EndsOrMayClose Gone acts d = ReadsOnce acts × ((left : Budget) × Spends acts whole left) × MayClose d
EndsOrMayClose rest acts d = EndsTurn acts d

-- a turn, up to the closing of its connection
abbrev pub TakesTurnUpTo : Rest → ℕ → Stand → Stand → Type 0
TakesTurnUpTo rest port a b = (acts : List Act) × Advances port acts a b × EndsOrMayClose rest acts b.desk

abbrev pub TakesTurn : ℕ → Stand → Stand → Type 0
TakesTurn port a b = (acts : List Act) × Advances port acts a b × EndsTurn acts b.desk

-- a session's SEQUENCE was answered in these bytes, for the first time
abbrev pub is_first : Bool → List ℕ → Bool
is_first heard out = not heard && answers_sequence out

-- One part was stepped: what the clock told and the port was told, and what is used up.
pub record StepsOne (port : ℕ) (a b : Stand) (before left : Budget) : Type 0 where
  pub moment : ℕ
  pub part : List ℕ
  pub out : List ℕ
  pub clock : Logs a.told b.told (Moment moment ∷ Late left.late ∷ [])
  pub logs : Logs a.log b.log (counted port (is_first a.desk.heard out))
  pub steps : StepsPart port a.state a.desk moment part b.state b.desk.stream b.desk.unread out
  pub owed : b.desk.owed ≡ a.desk.owed ++ out
  pub heard : b.desk.heard ≡ (a.desk.heard || answers_sequence out)
  pub live : b.desk.live ≡ a.desk.live
  pub gone : b.desk.gone ≡ a.desk.gone
  pub shorter : length b.desk.unread < length a.desk.unread
  pub one : left.steps + 1 ≡ before.steps
  pub bytes : left.bytes ≡ before.bytes

-- some parts were stepped, of what may be done, and nothing was read or written
pub record StepsSome (port : ℕ) (a b : Stand) (before left : Budget) : Type 0 where
  pub acts : List Act
  pub advances : Advances port acts a b
  pub no_reads : filter is_of_read acts ≡ []
  pub spends : Spends acts before left
  pub live : b.desk.live ≡ a.desk.live
  pub shorter : length b.desk.unread < length a.desk.unread
  pub bytes : left.bytes ≡ before.bytes

-- a port has its turn, or is passed over in it; the clock is told that it begins
abbrev pub Visits : ℕ → Stand → Stand → Type 0
Visits port a b = (begun : Option (List Told)) × Logs a.told begun (Turn ∷ []) × TakesTurn port (record a { told = begun }) b
