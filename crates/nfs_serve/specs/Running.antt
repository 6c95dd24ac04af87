-- What running one entry did, and what stands behind the last entry; private contracts alone speak of it.
use Rattle.std.specs.{Prelude.{◌≡◌, ℕ, suc, List, [], Bool, true, false, Option, Result, Ok, Err}, Io.KnownBytes.Appends}
use Rattle.nfs_rpc.specs.RecordMarking.{Gathered}
use Rattle.nfs_serve.specs.{declared.fault.ReplayFault.ReplayFault, declared.form.Form.TheVariants.Tagged, Script.{Entry, max_entries, StopsAt}}
use Rattle.nfs_serve.specs.{Step.ServerState, Reading.entry}
use Rattle.nfs_serve.specs.declared.script.Entry as rust
use Rattle.nfs_serve.specs.{Run.{Streams, Takes, Move, events, after, output}, Server.{KeptServer, state_of, fresh, held_on, IsWith, FeedsInto}, Replay.AllStand}

-- One entry ran: its moves, and each reply was written. `was` and `is` are held of the streams.
pub record RunsEntry (old new : ServerState) (was is : List Gathered) (e : Entry) (h0 h1 : Option (List ℕ)) : Type 0 where
  pub moves : List Move
  pub state : new ≡ after old moves
  pub wrote : Appends h0 h1 (output Tagged old moves)
  pub takes : (before : Streams) → AllStand before was → (end : Streams) × Takes before e (events moves) end × AllStand end is

-- or the writer failed in what its last move put out, and its connection was closed
abbrev pub RunsEntryOr : {U E : Type 0} → Result U E → ServerState → ServerState → List Gathered → List Gathered → Entry → Option (List ℕ) → Option (List ℕ) → Bool → Type 0
RunsEntryOr (Ok u) old new was is e h0 h1 failed = RunsEntry old new was is e h0 h1 × (failed ≡ false)
RunsEntryOr (Err f) old new was is e h0 h1 failed =
    FeedsInto old new (held_on was e.conn) e.conn e.moment e.piece Tagged h0 h1 × IsWith is was e.conn fresh × (failed ≡ true)

-- the same of what a server keeps, and of an entry wherever its piece lies in memory
abbrev pub RunsEntryOn : {U E : Type 0} → Result U E → (old new : KeptServer) → (was is : List Gathered) → rust.Entry → Option (List ℕ) → Option (List ℕ) → Bool → Type 0
RunsEntryOn result old new was is e = RunsEntryOr result (state_of old) (state_of new) was is (entry e)

-- what stands behind the last entry that may be
abbrev pub EndsBehind : {U : Type 0} → Result U ReplayFault → List ℕ → Type 0
EndsBehind (Ok u) rest = rest ≡ []
EndsBehind (Err fault) rest = StopsAt fault.number max_entries rest × (fault.entry ≡ suc max_entries)
