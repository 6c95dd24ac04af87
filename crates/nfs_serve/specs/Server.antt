-- What contracts see of a server, and what a record, a piece and a close do to it.
use Rattle.std.specs.Prelude.{◌≡◌, ℕ, List, [], ◌∷◌, ◌++◌, get_or, Bool, true, false, Option, Some, None, Result, Ok, Err, nat_eq, if◌then◌else◌, replicate}
use Rattle.std.specs.Io.KnownBytes.{Appends}
use Rattle.nfs_xdr.specs.Text.{IsBytes}
use Rattle.nfs_rpc.specs.{RecordMarking.{Gathered, Begun, Failed, IsPart, start}, Stream.{End, Open, TooLong}}
use Rattle.nfs_names.specs.{declared.start.Start.Start}
use Rattle.nfs_serve.specs.{declared.form.Form.Form, declared.form.Flow.Flow, declared.form.Outcome.Outcome, declared.form.Outcome.TheVariants.{Reply, Silent}}
use Rattle.nfs_serve.specs.{Script.connection_count, Step.{ServerState, new_state, step}, Run.{Brings, Move, events, after, output, Breaks}}
use Rattle.nfs_exec.specs.Step.Machine as exec
use Rattle.nfs_exec.specs.Step.Machine.{machine_of}

-- what is held of a stream of which nothing has come
abbrev pub fresh : Gathered
fresh = Begun start

-- what lasts from one record to the next, as it is kept, and the state that the steps speak of
pub record KeptServer : Type 0 where
  pub world : exec.KeptTables
  pub moment : ℕ

abbrev pub state_of : KeptServer → ServerState
state_of k = record { machine = machine_of k.world; moment = k.moment }

-- what is kept, what is held of the stream of each connection, and the reply that is lent
pub record ServerModel : Type 0 where
  pub kept : KeptServer
  pub held : List Gathered
  pub reply : List ℕ

abbrev pub held_on : List Gathered → ℕ → Gathered
held_on held conn = get_or held conn fresh

-- this connection has this, and every other what it had
abbrev pub IsWith : List Gathered → List Gathered → ℕ → Gathered → Type 0
IsWith new old conn now = (c : ℕ) → held_on new c ≡ (if nat_eq c conn then now else held_on old c)

-- a new server, with nothing held on any of its connections
pub record IsNew (start : Start) (s : ServerModel) : Type 0 where
  pub state : state_of s.kept ≡ new_state start
  pub held : s.held ≡ replicate connection_count fresh
  pub reply : s.reply ≡ []

-- the connection is closed, and nothing else has changed
pub record Closes (old new : ServerModel) (conn : ℕ) : Type 0 where
  pub kept : new.kept ≡ old.kept
  pub reply : new.reply ≡ old.reply
  pub held : IsWith new.held old.held conn fresh

-- what is held of a stream stands for it
abbrev pub Stands : End → Gathered → Type 0
Stands (Open rest) (Begun part) = IsBytes rest × IsPart rest part
Stands TooLong Failed = Unit {0}
Stands stream held = ⊥

-- the reply that was made, or none, and then no bytes are lent
abbrev pub IsAnswer : Outcome → Option (List ℕ) → List ℕ → Type 0
IsAnswer Reply answer reply = answer ≡ Some reply
IsAnswer Silent answer reply = (answer ≡ None) × (reply ≡ [])

-- The record was stepped: for some choice, reply and state are the step's.
pub record Steps (outcome : Outcome) (old new : ServerModel) (call : List ℕ) (now : ℕ) : Type 0 where
  pub choice : Option ℕ
  pub answer : IsAnswer outcome (step (state_of old.kept) call now choice).reply new.reply
  pub state : state_of new.kept ≡ (step (state_of old.kept) call now choice).state
  pub held : new.held ≡ old.held

abbrev pub flow_of : Gathered → Flow
flow_of Failed = Flow.Shut
flow_of held = Flow.Open

-- The piece was taken: its moves ran, and each reply was written. `was` and `is` are held of the connection's stream.
pub record Feeds (old new : ServerState) (was is : Gathered) (conn moment : ℕ) (piece : List ℕ) (form : Form) (h0 h1 : Option (List ℕ)) : Type 0 where
  pub moves : List Move
  pub state : new ≡ after old moves
  pub wrote : Appends h0 h1 (output form old moves)
  pub stream : (before : End) → Stands before was → (end : End) × Brings conn moment before piece (events moves) end × Stands end is

-- A front of the piece was taken, the writer failed in what its last move put out, and the rest of the piece was dropped.
pub record FeedsInto (old new : ServerState) (was : Gathered) (conn moment : ℕ) (piece : List ℕ) (form : Form) (h0 h1 : Option (List ℕ)) : Type 0 where
  pub moves : List Move
  pub last : Move
  pub taken : List ℕ
  pub dropped : List ℕ
  pub written : List ℕ
  pub split : piece ≡ taken ++ dropped
  pub breaks : Breaks form old new moves last written
  pub wrote : Appends h0 h1 written
  pub stream : (before : End) → Stands before was → (end : End) × Brings conn moment before taken (events (moves ++ last ∷ [])) end

-- what taking a piece did, by whether the writer failed
abbrev pub FeedsOr : {E : Type 0} → Result Flow E → ServerState → ServerState → Gathered → Gathered → ℕ → ℕ → List ℕ → Form
    → Option (List ℕ) → Option (List ℕ) → Bool → Type 0
FeedsOr (Ok flow) old new was is conn moment piece form h0 h1 failed =
    Feeds old new was is conn moment piece form h0 h1 × (flow ≡ flow_of is) × (failed ≡ false)
FeedsOr (Err e) old new was is conn moment piece form h0 h1 failed = FeedsInto old new was conn moment piece form h0 h1 × (failed ≡ true)

-- the same on a connection of a server
abbrev pub FeedsOn : {E : Type 0} → Result Flow E → (old new : ServerModel) → (conn moment : ℕ) → (piece : List ℕ) → Form
    → Option (List ℕ) → Option (List ℕ) → Bool → Type 0
FeedsOn result old new conn = FeedsOr result (state_of old.kept) (state_of new.kept) (held_on old.held conn) (held_on new.held conn) conn
