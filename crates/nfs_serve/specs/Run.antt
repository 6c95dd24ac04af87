-- The run of a script. On each connection the pieces since its last close form one stream, read by record marking
-- (RFC 5531 section 11). The records are stepped in the order in which their last bytes came.
use Rattle.std.specs.Prelude.{◌≡◌, ℕ, ◌<◌, true, List, [], ◌∷◌, ◌++◌, length, map, Option, Some, None, if◌then◌else◌, nat_eq}
use Rattle.nfs_xdr.specs.Spelling.{number}
use Rattle.nfs_rpc.specs.{RecordMarking.spell_mark, Stream.{End, Open, TooLong, IsReading}}
use Rattle.nfs_serve.specs.{declared.form.Form.Form, declared.form.Form.TheVariants.{Tagged, Plain}, Script.Entry, Step.{ServerState, step}}

-- for each connection the bytes behind its last whole record since it was last closed, or that its stream is too long and ignored
abbrev pub Streams : Type 0
Streams = ℕ → End

-- this connection has this stream, and every other the one before
abbrev pub with_stream : Streams → ℕ → End → Streams
with_stream streams conn stream = λ c. if nat_eq c conn then stream else streams c

abbrev pub all_closed : Streams
all_closed = λ c. Open []

-- what comes on a connection: a whole record, at the moment of its last byte, or that the stream becomes too long
pub data StreamEvent : Type 0 where
  Arrives : (conn moment : ℕ) → (call : List ℕ) → StreamEvent
  Overflows : (conn : ℕ) → StreamEvent

abbrev pub overflow : ℕ → End → List StreamEvent
overflow conn (Open rest) = []
overflow conn TooLong = Overflows conn ∷ []

-- what a piece brings on a connection, and the stream that it leaves
abbrev pub Brings : ℕ → ℕ → End → List ℕ → List StreamEvent → End → Type 0
Brings conn moment (Open rest) piece events end =
    (calls : List (List ℕ)) × IsReading (rest ++ piece) calls end × (events ≡ map (λ call. Arrives conn moment call) calls ++ overflow conn end)
Brings conn moment TooLong piece events end = (events ≡ []) × (end ≡ TooLong)

-- an entry of no bytes closes its connection
abbrev pub TakesPiece : Streams → ℕ → ℕ → List ℕ → List StreamEvent → Streams → Type 0
TakesPiece old moment conn [] events new = (events ≡ []) × (new ≡ with_stream old conn (Open []))
TakesPiece old moment conn (b ∷ bytes) events new = (end : End) × Brings conn moment (old conn) (b ∷ bytes) events end × (new ≡ with_stream old conn end)

abbrev pub Takes : Streams → Entry → List StreamEvent → Streams → Type 0
Takes old e events new = TakesPiece old e.moment e.conn e.piece events new

-- the entries bring these events, in this order
abbrev pub TakesAll : Streams → List Entry → List StreamEvent → Streams → Type 0
TakesAll old [] events new = (events ≡ []) × (new ≡ old)
TakesAll old (e ∷ entries) events new = (first : List StreamEvent) × (later : List StreamEvent) × (between : Streams)
    × (events ≡ first ++ later) × Takes old e first between × TakesAll between entries later new

-- an event, and the choice of its record: the place at which memory is refused, or none
pub record Move : Type 0 where
  pub event : StreamEvent
  pub choice : Option ℕ

abbrev pub events : List Move → List StreamEvent
events moves = map (λ m. m.event) moves

abbrev pub after_event : ServerState → StreamEvent → Option ℕ → ServerState
after_event s (Arrives conn moment call) choice = (step s call moment choice).state
after_event s (Overflows conn) choice = s

-- the state that the moves leave
abbrev pub after : ServerState → List Move → ServerState
after s [] = s
after s (m ∷ moves) = after (after_event s m.event m.choice) moves

-- a record of one fragment
abbrev pub one_fragment : List ℕ → List ℕ
one_fragment bytes = spell_mark true (length bytes) ++ bytes

abbrev pub spell_reply : Form → ℕ → List ℕ → List ℕ
spell_reply Tagged conn reply = number conn ++ one_fragment reply
spell_reply Plain conn reply = one_fragment reply

-- a stream that became too long is reported once, by a zero mark
abbrev pub spell_overflow : Form → ℕ → List ℕ
spell_overflow Tagged conn = number conn ++ number 0
spell_overflow Plain conn = []

abbrev pub spell_answer : Form → ℕ → Option (List ℕ) → List ℕ
spell_answer form conn None = []
spell_answer form conn (Some reply) = spell_reply form conn reply

abbrev pub output_of : Form → ServerState → StreamEvent → Option ℕ → List ℕ
output_of form s (Arrives conn moment call) choice = spell_answer form conn (step s call moment choice).reply
output_of form s (Overflows conn) choice = spell_overflow form conn

-- what is put out, in the order of the moves
abbrev pub output : Form → ServerState → List Move → List ℕ
output form s [] = []
output form s (m ∷ moves) = output_of form s m.event m.choice ++ output form (after_event s m.event m.choice) moves

-- The entries ran from closed connections: for some choices, what was written and the state left are the run's.
pub record Runs (form : Form) (old new : ServerState) (entries : List Entry) (streams : Streams) (written : List ℕ) : Type 0 where
  pub moves : List Move
  pub reads : TakesAll all_closed entries (events moves) streams
  pub state : new ≡ after old moves
  pub wrote : written ≡ output form old moves

-- These moves ran, and behind them a last one, in whose output the writer failed: a front of that was written and not the
-- whole. The state is the one behind the last move.
pub record Breaks (form : Form) (old new : ServerState) (moves : List Move) (last : Move) (written : List ℕ) : Type 0 where
  pub front : List ℕ
  pub unwritten : List ℕ
  pub state : new ≡ after_event (after old moves) last.event last.choice
  pub wrote : written ≡ output form old moves ++ front
  pub cut : front ++ unwritten ≡ output_of form (after old moves) last.event last.choice
  pub some : 0 < length unwritten

-- The entries ran from closed connections, and of one more entry its own events up to the one in whose output the writer
-- failed. The rest of that entry's piece was dropped. The streams are those before it.
pub record RunsInto (form : Form) (old new : ServerState) (entries : List Entry) (last : Entry) (streams : Streams) (written : List ℕ) : Type 0 where
  pub earlier : List Move
  pub own : List Move
  pub breaking : Move
  pub taken : List ℕ
  pub dropped : List ℕ
  pub end : End
  pub reads : TakesAll all_closed entries (events earlier) streams
  pub split : last.piece ≡ taken ++ dropped
  pub brings : Brings last.conn last.moment (streams last.conn) taken (events (own ++ breaking ∷ [])) end
  pub breaks : Breaks form old new (earlier ++ own) breaking written
