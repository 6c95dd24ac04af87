-- One of many connections over one server: what came on it and was not stepped, what is owed to its peer, and what may be done with
-- it (RFC 5531 section 11). This server's profile.
use Rattle.std.specs.Prelude.{◌≡◌, ◌⊎◌, ℕ, ◌+◌, ◌*◌, ◌<◌, ◌≤◌, List, [], ◌∷◌, ◌++◌, length, filter, Bool, true, false, not, ◌&&◌, ◌||◌}
use Rattle.nfs_xdr.specs.Limits.{most_record}
use Rattle.nfs_rpc.specs.{RecordMarking.{Gathered, is_too_long}, Stream.End}
use Rattle.nfs_serve.specs.{declared.form.Form.TheVariants.Plain, Script.{last_moment, most_piece}, Step.ServerState, Run.{Brings, Move, events, after, output}}
use Rattle.nfs_serve.specs.{Server.{fresh, Stands}, Sequenced.answers_sequence}

-- how many ports there are at most
abbrev pub most_ports : ℕ
most_ports = 1032

-- the most bytes that one read brings: two records of the greatest length, each with one mark
abbrev pub most_read : ℕ
most_read = 2 * (4 + most_record)

-- a further record is stepped while no more bytes than this are owed
abbrev pub most_owed : ℕ
most_owed = 65536

-- and while fewer parts than this were stepped in a turn
abbrev pub most_steps : ℕ
most_steps = 16

-- and while the peer took fewer bytes than this in it
abbrev pub most_taken : ℕ
most_taken = 65536

-- A port: whether a connection is served there, whether it has ended or failed and is to be closed, whether a session's SEQUENCE was
-- answered on it, what is held of its stream, what came and was not stepped, and what is owed.
pub record Desk : Type 0 where
  pub live : Bool
  pub gone : Bool
  pub heard : Bool
  pub stream : Gathered
  pub unread : List ℕ
  pub owed : List ℕ

abbrev pub idle : Bool → Bool → Desk
idle live gone = record { live = live; gone = gone; heard = false; stream = fresh; unread = []; owed = [] }

abbrev pub closed : Desk
closed = idle false false

abbrev pub opened : Desk
opened = idle true false

abbrev pub leaving : Desk
leaving = idle false true

-- What is done with a connection. Of `Stepped` alone its peer is shown nothing. `Looked` is of no connection: it was looked at which of the first ports
-- are ready, and who begins on one of them. `Unready` is a port's own answer, and `Counted` says to the port
-- that a session's SEQUENCE was answered on its connection for the first time. A part is stepped at a moment; behind it the clock said whether
-- the turn is late, which is that it has lasted long enough; and it may be the first that answered a session's SEQUENCE.
pub data Act : Type 0 where
  Opened : Act
  Over : Act
  Looked : Act
  Unready : Act
  Counted : Act
  Came : (bytes : List ℕ) → Act
  ReadBlocked : Act
  Ended : Act
  Took : (bytes : List ℕ) → Act
  WriteBlocked : Act
  Failed : Act
  Closed : Act
  Stepped : (moment : ℕ) → (part : List ℕ) → (late first : Bool) → Act

-- A part of a stream that ends no more than one record, which was stepped: the state and the output are those of its moves, of which
-- there is one at most. `was` and `is` are held of the stream.
pub record TakesPart (conn : ℕ) (s : ServerState) (was : Gathered) (moment : ℕ) (part : List ℕ) (t : ServerState) (is : Gathered) (out : List ℕ) : Type 0 where
  pub moves : List Move
  pub one : length moves ≤ 1
  pub state : t ≡ after s moves
  pub wrote : out ≡ output Plain s moves
  pub stream : (before : End) → Stands before was → (end : End) × Brings conn moment before part (events moves) end × Stands end is

-- a read is asked for only where nothing is owed and nothing waits to be stepped
pub record IsHungry (d : Desk) : Type 0 where
  pub live : d.live ≡ true
  pub short : is_too_long d.stream ≡ false
  pub unread : d.unread ≡ []
  pub owed : d.owed ≡ []

-- a connection is closed where it has ended or failed, and else where nothing is owed and its stream is too long
abbrev pub MayClose : Desk → Type 0
MayClose d = (d.gone ≡ true) ⊎ ((d.live ≡ true) × (d.owed ≡ []) × (is_too_long d.stream ≡ true))

-- A front of what waits is stepped, where few enough bytes are owed: this part of it, no longer than a piece of a script, to this stream and
-- output.
pub record StepsPart (port : ℕ) (s : ServerState) (d : Desk) (moment : ℕ) (part : List ℕ) (t : ServerState) (is : Gathered) (rest out : List ℕ) : Type 0 where
  pub live : d.live ≡ true
  pub short : is_too_long d.stream ≡ false
  pub room : length d.owed ≤ most_owed
  pub clock : moment ≤ last_moment
  pub some : 0 < length part
  pub few : length part ≤ most_piece
  pub split : d.unread ≡ part ++ rest
  pub takes : TakesPart port s d.stream moment part t is out

-- what came waits to be stepped, and nothing hinders it: no reply is owed
pub record HasMore (d : Desk) : Type 0 where
  pub live : d.live ≡ true
  pub owed : d.owed ≡ []
  pub unread : 0 < length d.unread

-- what an act does to the state of the server and to its connection
abbrev pub Does : ℕ → ServerState → Desk → Act → ServerState → Desk → Type 0
Does port s d (Came bytes) t e = (t ≡ s) × IsHungry d × (0 < length bytes) × (length bytes ≤ most_read) × (e ≡ record d { unread = bytes })
Does port s d Unready t e = (t ≡ s) × (HasMore d → ⊥) × (e ≡ d)
Does port s d ReadBlocked t e = (t ≡ s) × IsHungry d × (e ≡ d)
Does port s d Ended t e = (t ≡ s) × IsHungry d × (e ≡ leaving)
Does port s d (Took bytes) t e = (t ≡ s) × (d.live ≡ true) × (0 < length bytes) × (rest : List ℕ) × (d.owed ≡ bytes ++ rest)
    × (e ≡ record d { owed = rest })
Does port s d WriteBlocked t e = (t ≡ s) × (d.live ≡ true) × (0 < length d.owed) × (e ≡ d)
Does port s d Failed t e = (t ≡ s) × (d.live ≡ true) × (e ≡ leaving)
Does port s d Closed t e = (t ≡ s) × MayClose d × (e ≡ closed)
Does port s d (Stepped moment part late first) t e = (is : Gathered) × (rest : List ℕ) × (out : List ℕ) × StepsPart port s d moment part t is rest out
    × (first ≡ (not d.heard && answers_sequence out))
    × (e ≡ record d { heard = d.heard || answers_sequence out; stream = is; unread = rest; owed = d.owed ++ out })
Does port s d act t e = ⊥

-- the acts, one after the other
abbrev pub Goes : ℕ → ServerState → Desk → List Act → ServerState → Desk → Type 0
Goes port s d [] t e = (t ≡ s) × (e ≡ d)
Goes port s d (a ∷ acts) t e = (u : ServerState) × (c : Desk) × Does port s d a u c × Goes port u c acts t e

-- the peer took no more
abbrev pub IsStuck : List Act → Desk → Type 0
IsStuck acts d = (front : List Act) × (acts ≡ front ++ WriteBlocked ∷ []) × (0 < length d.owed)

abbrev pub IsRead : Act → Type 0
IsRead (Came bytes) = Unit {0}
IsRead ReadBlocked = Unit {0}
IsRead act = ⊥

abbrev pub Reads : List Act → Type 0
Reads acts = (front : List Act) × (read : Act) × (back : List Act) × (acts ≡ front ++ read ∷ back) × IsRead read

-- what a read that did not fail came to; one that failed ends its connection
abbrev pub is_of_read : Act → Bool
is_of_read (Came bytes) = true
is_of_read ReadBlocked = true
is_of_read Ended = true
is_of_read act = false

-- a peer that sends without an end has no more than one read in a turn
abbrev pub ReadsOnce : List Act → Type 0
ReadsOnce acts = length (filter is_of_read acts) ≤ 1

abbrev pub is_step : Act → Bool
is_step (Stepped moment part late first) = true
is_step act = false

-- how many parts are stepped, each of which ends no more than one record
abbrev pub step_count : List Act → ℕ
step_count acts = length (filter is_step acts)

abbrev pub taken_by : Act → ℕ
taken_by (Took bytes) = length bytes
taken_by act = 0

-- how many bytes the peer takes
abbrev pub taken_count : List Act → ℕ
taken_count [] = 0
taken_count (a ∷ acts) = taken_by a + taken_count acts

-- behind which part the clock said that the turn is late
abbrev pub late_by : Act → Bool
late_by (Stepped moment part late first) = late
late_by act = false

abbrev pub is_late : List Act → Bool
is_late [] = false
is_late (a ∷ acts) = late_by a || is_late acts

-- each part is stepped before the peer took so many bytes, and before the turn was late
abbrev pub StepsBefore : ℕ → List Act → Type 0
StepsBefore most acts = (front : List Act) (moment : ℕ) (part : List ℕ) (late first : Bool) (back : List Act)
    → acts ≡ front ++ Stepped moment part late first ∷ back → (taken_count front < most) × (is_late front ≡ false)

-- the port is passed over: it said that it is not ready
abbrev pub IsPassed : List Act → Type 0
IsPassed acts = acts ≡ Unready ∷ []

-- A turn steps 16 parts at most, and each before its peer took 64 KiB in it and before the clock said that the turn is late. It ends only where the
-- port is passed over, where there is no connection, where the peer takes no more of what is owed, where a read was asked for and all that came is
-- answered, or where 16 were stepped, 64 KiB taken or the turn is late, nothing is owed, and more waits.
abbrev pub EndsTurn : List Act → Desk → Type 0
EndsTurn acts d = ReadsOnce acts × (step_count acts ≤ most_steps) × StepsBefore most_taken acts
    × ((d.live ≡ false) ⊎ IsStuck acts d ⊎ ((d.unread ≡ []) × (d.owed ≡ []) × Reads acts)
    ⊎ (HasMore d × ((step_count acts ≡ most_steps) ⊎ (most_taken ≤ taken_count acts) ⊎ (is_late acts ≡ true))) ⊎ IsPassed acts)
