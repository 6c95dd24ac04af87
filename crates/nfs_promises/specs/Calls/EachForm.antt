-- A record, a piece, a script, a talk over one connection and many connections at once: each is a run of the records that arrive, in their order
-- (RFC 5531 section 11).
-- So what holds of every list of records holds of the program in each of its forms.
use Rattle.std.specs.{Prelude.{◌≡◌, ◌⊎◌, ℕ, ◌<◌, Bool, List, [], ◌∷◌, ◌++◌, length, map, flat_map, Option, Result}, Io.KnownBytes.{Consumes, Appends}}
use Rattle.nfs_rpc.specs.{RecordMarking.Gathered, Stream.End}
use Rattle.nfs_names.specs.{declared.start.Start.Start}
use Rattle.nfs_serve.specs.{declared.fault.ReplayFault.ReplayFault, declared.form.Form.Form, declared.form.Flow.Flow, declared.form.Outcome.Outcome}
use Rattle.nfs_serve.specs.{declared.moving.WriteFailed.WriteFailed, declared.form.Form.TheVariants.{Tagged, Plain}, declared.talking.Talk.Talk}
use Rattle.nfs_serve.specs.{Script.{Entry, spell_entry}, Step.ServerState}
use Rattle.nfs_serve.specs.Run.{Streams, all_closed, Brings, TakesAll, StreamEvent, Arrives, Overflows, Move, events, output}
use Rattle.nfs_serve.specs.{Server.{ServerModel, state_of, Stands, Steps, FeedsOr}, Replay.Replays, Talk.Talks, Told.{Told, Moment, Logs}, Desk.Desk}
use Rattle.nfs_serve.specs.{Hub.ServesRounds, Deeds.Deed}
use Rattle.nfs_promises.specs.{Calls.WholeRuns.script, Network.{Endpoint.{Answer, Arrival, ran}, ThisServer.server}, Runs.Points.state_after_all}

-- the record that a move steps, if it is one that arrives
abbrev pub record_of : StreamEvent → Option ℕ → List Arrival
record_of (Arrives conn moment call) choice = record { bytes = call; now = moment; choice = choice } ∷ []
record_of (Overflows conn) choice = []

abbrev pub records_of : List Move → List Arrival
records_of moves = flat_map (λ m. record_of m.event m.choice) moves

-- a run of these records, whatever the server was started with, and whatever is found in its replies
abbrev pub LeavesOf : ServerState → ServerState → List Arrival → Type 0
LeavesOf old new records = (find : List ℕ → Option Answer) (start : Start) → new ≡ ran (server find start) old records

-- These entries came on connections that were closed. They bring these moves, and the state that is left is that which the list of the moves'
-- records leaves.
pub record RunsRecords (old new : ServerState) (entries : List Entry) (moves : List Move) : Type 0 where
  pub streams : Streams
  pub brought : TakesAll all_closed entries (events moves) streams
  pub state : LeavesOf old new (records_of moves)

-- All of the entries ran, and every reply was written, in the order of the records; or they ran up to a record of the last one, in whose reply
-- the writer failed, and the rest of that entry's piece was dropped.
abbrev pub AllRun : Form → ServerState → ServerState → List Entry → List ℕ → Type 0
AllRun form old new entries written = (moves : List Move) × RunsRecords old new entries moves × (written ≡ output form old moves)

pub record FrontRuns (form : Form) (old new : ServerState) (entries : List Entry) (written : List ℕ) : Type 0 where
  pub before : List Entry
  pub last : Entry
  pub taken : List ℕ
  pub dropped : List ℕ
  pub moves : List Move
  pub unwritten : List ℕ
  pub order : entries ≡ before ++ last ∷ []
  pub split : last.piece ≡ taken ++ dropped
  pub runs : RunsRecords old new (before ++ record last { piece = taken } ∷ []) moves
  pub replies : written ++ unwritten ≡ output form old moves
  pub some : 0 < length unwritten

abbrev pub RunUpTo : Form → ServerState → ServerState → List Entry → List ℕ → Type 0
RunUpTo form old new entries written = AllRun form old new entries written ⊎ FrontRuns form old new entries written

pub record EachFormRunsRecords : Type 0 where
  -- `record`: that record
  pub one : (outcome : Outcome) (old new : ServerModel) (call : List ℕ) (now : ℕ) → Steps outcome old new call now
      → (choice : Option ℕ) × LeavesOf (state_of old.kept) (state_of new.kept) (record { bytes = call; now = now; choice = choice } ∷ [])
  -- `feed`: the records that the piece brings on its connection, or a front of it up to the record in whose reply the writer failed
  pub feed : (result : Result Flow WriteFailed) (old new : ServerState) (was is : Gathered) (conn moment : ℕ) (piece : List ℕ) (form : Form)
      (h0 h1 : Option (List ℕ)) (failed : Bool) → FeedsOr result old new was is conn moment piece form h0 h1 failed
      → (moves : List Move) × (taken : List ℕ) × (dropped : List ℕ) × (piece ≡ taken ++ dropped) × LeavesOf old new (records_of moves)
      × ((before : End) → Stands before was → (end : End) × Brings conn moment before taken (events moves) end)
  -- `replay`: the entries that the bytes read begin with
  pub replay : (answer : Result (Unit {0}) ReplayFault) (old new : ServerState) (held : List Gathered) (l0 l1 h0 h1 : Option (List ℕ))
      → Replays answer old new held l0 l1 h0 h1
      → (entries : List Entry) × (rest : List ℕ) × (written : List ℕ)
      × Consumes l0 l1 (flat_map spell_entry entries ++ rest) × Appends h0 h1 written × RunUpTo Tagged old new entries written
  -- `talk`: the pieces that were read, each at its moment
  pub talk : (ending : Talk) (old new : ServerState) (l0 l1 h0 h1 : Option (List ℕ)) (c0 c1 : Option (List Told)) → Talks ending old new l0 l1 h0 h1 c0 c1
      → (pieces : List Entry) × (written : List ℕ) × Consumes l0 l1 (flat_map (λ e. e.piece) pieces) × Appends h0 h1 written
      × Logs c0 c1 (map (λ e. Moment e.moment) pieces) × RunUpTo Plain old new pieces written
  -- `serve_ports`: of the rounds that the connections and the clock showed, the parts that were stepped, on whatever ports, and the closes. What
  -- each port's peer is written `NothingIsLostInARun` says.
  pub serve : (most : ℕ) (old new : ServerState) (desks : List Desk) (count : ℕ) (l0 l1 : Option (List Deed)) (c0 c1 : Option (List Told))
      → (served : ServesRounds most old new desks count l0 l1 c0 c1) → (moves : List Move) × RunsRecords old new (script served.rounds) moves
  -- A run behind a run is one: so what any of these leaves, one after the other, is what a list of records leaves of a new server.
  pub goes_on : (find : List ℕ → Option Answer) (start : Start) (before records : List Arrival) → (let s = server find start in
      ran s (ran s s.new before) records ≡ ran s s.new (before ++ records))
  -- and the points of such a run are those of its list of records
  pub points : (find : List ℕ → Option Answer) (start : Start) (s : ServerState) (records : List Arrival)
      → ran (server find start) s records ≡ state_after_all s records
