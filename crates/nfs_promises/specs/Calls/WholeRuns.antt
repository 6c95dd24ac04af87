-- Whole runs of many connections over one server: each is the run of a script, and nothing is lost on a connection that is served at its
-- end (RFC 5531 section 11). This server's profile.
use Rattle.std.specs.Prelude.{◌≡◌, ◌≢◌, ◌≤◌, ◌<◌, ℕ, nat_eq, List, [], ◌∷◌, ◌++◌, length, All, flat_map, true, if◌then◌else◌}
use Rattle.nfs_rpc.specs.Stream.{IsReading}
use Rattle.nfs_serve.specs.{declared.form.Form.TheVariants.Plain, Script.{Entry, last_moment, most_piece}, Step.ServerState}
use Rattle.nfs_serve.specs.{Run.{Streams, all_closed, TakesAll, StreamEvent, Arrives, Overflows, Move, events, after, after_event, output_of}, Server.Stands}
use Rattle.nfs_serve.specs.{Desk.{most_ports, Act, Closed, Stepped, Goes}, Hub.{Desks, none_live, Round, Opens, Turns, OthersStay, Turning}}
use Rattle.nfs_promises.specs.Calls.{Streams.call_on, NothingIsLost.{came, taken, part_of}}

-- an entry of no bytes closes its connection
abbrev pub close : ℕ → Entry
close port = record { moment = 0; conn = port; piece = [] }

-- each part that is stepped on a port is an entry at its moment, and each close is one
abbrev pub entries_of : ℕ → Act → List Entry
entries_of port (Stepped moment part late first) = record { moment = moment; conn = port; piece = part } ∷ []
entries_of port Closed = close port ∷ []
entries_of port act = []

-- a connection that begins on a port closes the one before it
abbrev pub entries_in : Round → List Entry
entries_in (Opens port) = close port ∷ []
entries_in (Turns port acts) = flat_map (entries_of port) acts

abbrev pub script : List Round → List Entry
script rounds = flat_map entries_in rounds

-- what is told of an entry fits into a script, whose connections are here the ports
abbrev pub IsEntry : Entry → Type 0
IsEntry e = (e.moment ≤ last_moment) × (e.conn < most_ports) × (length e.piece ≤ most_piece)

-- The rounds are the run of their script: for some choices, the state left is the run's, and what is held of each connection that is
-- served stands for its stream.
pub record RunsScript (old : ServerState) (rounds : List Round) (new : ServerState) (desks : Desks) : Type 0 where
  pub moves : List Move
  pub streams : Streams
  pub fits : All IsEntry (script rounds)
  pub reads : TakesAll all_closed (script rounds) (events moves) streams
  pub state : new ≡ after old moves
  pub stands : (port : ℕ) → (desks port).live ≡ true → Stands (streams port) (desks port).stream

-- every run of many connections is the run of its script
abbrev pub HubRunsScript : Type 0
HubRunsScript = (old new : ServerState) (rounds : List Round) (desks : Desks) → Turning old none_live rounds new desks → RunsScript old rounds new desks

-- the acts on one port
abbrev pub acts_in : ℕ → Round → List Act
acts_in port (Opens other) = []
acts_in port (Turns other acts) = if nat_eq other port then acts else []

abbrev pub acts_on : ℕ → List Round → List Act
acts_on port rounds = flat_map (acts_in port) rounds

abbrev pub port_of : StreamEvent → ℕ
port_of (Arrives conn moment call) = conn
port_of (Overflows conn) = conn

-- what the moves put out on one port, in their order, each in the state that all those before it left, whatever their port
abbrev pub output_on : ℕ → ServerState → List Move → List ℕ
output_on port s [] = []
output_on port s (m ∷ moves) =
    (if nat_eq (port_of m.event) port then output_of Plain s m.event m.choice else []) ++ output_on port (after_event s m.event m.choice) moves

-- A port on which a connection is served at the end of a run, since that connection began: what came on it is what was stepped of it
-- and what waits; the records that arrive on it are those of the stream of what was stepped; and what they put out, each in the state that
-- the whole run has then, is what its peer took and what is owed.
pub record LosesNothing (old : ServerState) (rounds : List Round) (new : ServerState) (desks : Desks) (run : RunsScript old rounds new desks) (port : ℕ) : Type 0 where
  pub before : List Round
  pub since : List Round
  pub split : rounds ≡ before ++ Opens port ∷ since
  pub last : All (λ r. r ≢ Opens port) since
  pub earlier : List Move
  pub later : List Move
  pub between : Streams
  pub order : run.moves ≡ earlier ++ later
  pub reads_before : TakesAll all_closed (script (before ++ Opens port ∷ [])) (events earlier) between
  pub reads_since : TakesAll between (script since) (events later) run.streams
  pub stream : IsReading (flat_map part_of (acts_on port since)) (flat_map (call_on port) (events later)) (run.streams port)
  pub in_order : flat_map came (acts_on port since) ≡ flat_map part_of (acts_on port since) ++ (desks port).unread
  pub out_order : output_on port (after old earlier) later ≡ flat_map taken (acts_on port since) ++ (desks port).owed

-- of one and the same run this holds on every port
abbrev pub NothingIsLostInARun : Type 0
NothingIsLostInARun = (old new : ServerState) (rounds : List Round) (desks : Desks) → Turning old none_live rounds new desks
    → (run : RunsScript old rounds new desks) × ((port : ℕ) → (desks port).live ≡ true → LosesNothing old rounds new desks run port)

-- rounds, and behind them some acts of a turn that has not ended yet
abbrev pub TurningInto : ServerState → Desks → List Round → ℕ → List Act → ServerState → Desks → Type 0
TurningInto s old rounds port acts t new = (u : ServerState) × (between : Desks) × Turning s old rounds u between × (port < most_ports)
    × Goes port u (between port) acts t (new port) × OthersStay between new port

-- and so it does behind each act of a turn: of each connection, up to its end
abbrev pub NothingIsLostInATurn : Type 0
NothingIsLostInATurn = (old new : ServerState) (rounds : List Round) (port : ℕ) (acts : List Act) (desks : Desks)
    → TurningInto old none_live rounds port acts new desks → (run : RunsScript old (rounds ++ Turns port acts ∷ []) new desks)
    × ((c : ℕ) → (desks c).live ≡ true → LosesNothing old (rounds ++ Turns port acts ∷ []) new desks run c)
