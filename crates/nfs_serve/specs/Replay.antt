-- What a run of a script did: which entries were read, what was written, and what was left.
use Rattle.std.specs.Prelude.{◌≡◌, ℕ, suc, List, [], ◌∷◌, ◌++◌, length, Bool, true, false, Option, Result, Ok, Err}
use Rattle.std.specs.Io.KnownBytes.{Consumes, Appends, IsAtEnd}
use Rattle.nfs_rpc.specs.{RecordMarking.Gathered, Stream.Open}
use Rattle.nfs_serve.specs.{declared.fault.Stop.Stop, declared.fault.Stop.TheVariants.WriteFailed, declared.fault.ReplayFault.ReplayFault}
use Rattle.nfs_serve.specs.{declared.form.Form.TheVariants.Tagged, Script.{Entry, IsStopped, IsWhole}, Ends.IsReported, Step.ServerState}
use Rattle.nfs_serve.specs.{Run.{Streams, with_stream, Runs, RunsInto}, Server.{ServerModel, held_on, Stands, state_of}}

-- what is held of each connection stands for its stream
abbrev pub AllStand : Streams → List Gathered → Type 0
AllStand streams held = (conn : ℕ) → Stands (streams conn) (held_on held conn)

-- the entries ran, and what is held of each connection stands for its stream
abbrev pub RunsOn : ServerState → ServerState → List Gathered → List Entry → List ℕ → Type 0
RunsOn old new held entries written = (streams : Streams) × Runs Tagged old new entries streams written × AllStand streams held

-- What was read and run before a fault, which bears the entry that was being read or run. Where the writer failed, it was in the output of the last entry,
-- whose connection was closed.
abbrev pub ReplaysFault : Stop → ℕ → ServerState → ServerState → List Gathered → List ℕ → List ℕ → Type 0
ReplaysFault WriteFailed entry old new held read written =
    (entries : List Entry) × (last : Entry) × IsStopped read WriteFailed (entries ++ last ∷ []) [] × (entry ≡ suc (length entries))
    × ((streams : Streams) × RunsInto Tagged old new entries last streams written × AllStand (with_stream streams last.conn (Open [])) held)
ReplaysFault stop entry old new held read written =
    (entries : List Entry) × (rest : List ℕ) × IsStopped read stop entries rest × (entry ≡ suc (length entries)) × RunsOn old new held entries written

abbrev pub Replayed : {U : Type 0} → Result U ReplayFault → ServerState → ServerState → List Gathered → List ℕ → List ℕ → Type 0
Replayed (Ok u) old new held read written = (entries : List Entry) × IsWhole read entries × RunsOn old new held entries written
Replayed (Err fault) old new held read written = ReplaysFault fault.number fault.entry old new held read written

-- the same of what the ends show
abbrev pub Replays : {U : Type 0} → Result U ReplayFault → ServerState → ServerState → List Gathered
    → Option (List ℕ) → Option (List ℕ) → Option (List ℕ) → Option (List ℕ) → Type 0
Replays result old new held l0 l1 h0 h1 =
    (read : List ℕ) × (written : List ℕ) × Consumes l0 l1 read × Appends h0 h1 written × Replayed result old new held read written

-- which ends a run leaves as they were
abbrev pub Reports : {U : Type 0} → Result U ReplayFault → Bool → Bool → Bool → Option (List ℕ) → Type 0
Reports (Ok u) ended read_failed write_failed left = (ended ≡ true) × (read_failed ≡ false) × (write_failed ≡ false) × IsAtEnd left
Reports (Err fault) ended read_failed write_failed left = IsReported fault.number ended read_failed write_failed left

-- What a run of a script comes to: what it did, by what the ends show, and which end was at fault. No reply is lent behind it.
pub record IsReplay {U : Type 0} (result : Result U ReplayFault) (old new : ServerModel) (l0 l1 h0 h1 : Option (List ℕ))
    (ended read_failed write_failed : Bool) : Type 0 where
  pub run : Replays result (state_of old.kept) (state_of new.kept) new.held l0 l1 h0 h1
  pub reported : Reports result ended read_failed write_failed l1
  pub reply : new.reply ≡ []
