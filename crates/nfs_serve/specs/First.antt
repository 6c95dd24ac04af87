-- What the first record of a piece comes to; private contracts alone speak of it.
use Rattle.std.specs.Prelude.{◌≡◌, ℕ, ◌<◌, ◌≤◌, List, ◌++◌, length, take, Bool, false, Option, Result}
use Rattle.nfs_xdr.specs.Text.{IsBytes}
use Rattle.nfs_rpc.specs.{RecordMarking.{Gathered, Complete, Failed, is_too_long}, Feeding.{waits, Holds}}
use Rattle.nfs_serve.specs.{declared.connection.First.First, declared.connection.First.TheVariants.{Nothing, Record, TooLong}, Step.{ServerState, step}}
use Rattle.nfs_serve.specs.{Engine.EngineModel, Desk.TakesPart}
use Rattle.nfs_serve.specs.{Server.{fresh, IsAnswer, FeedsOr, state_of}, declared.form.{Flow.Flow, Form.Form}, declared.script.Entry.Entry}

-- a part of a stream that ends no more than one record was stepped, and its output stands behind what was owed
abbrev pub TakesOnto : (conn : ℕ) → ServerState → Gathered → (moment : ℕ) → (part : List ℕ) → ServerState → Gathered → (owed owes : List ℕ) → Type 0
TakesOnto conn s was moment part t is owed owes = (out : List ℕ) × TakesPart conn s was moment part t is out × (owes ≡ owed ++ out)

-- with these bytes what is held comes to this
abbrev pub TakesUp : Gathered → List ℕ → Gathered → Type 0
TakesUp was front is = (rest : List ℕ) → IsBytes rest → Holds rest was → Holds (rest ++ front) is

abbrev pub RunsOver : Gathered → List ℕ → Type 0
RunsOver was piece = (rest : List ℕ) → IsBytes rest → Holds rest was → (used : ℕ) × Holds (rest ++ take used piece) Failed

abbrev pub TakesFirst : First → EngineModel → EngineModel → Gathered → Gathered → ℕ → List ℕ → Type 0
TakesFirst Nothing old new was is moment piece = (new ≡ old) × TakesUp was piece is × (waits is ≡ false) × (is_too_long is ≡ false)
TakesFirst (Record used outcome) old new was is moment piece = (call : List ℕ) × (choice : Option ℕ) × (0 < used) × (used ≤ length piece)
    × TakesUp was (take used piece) (Complete call) × (is ≡ fresh)
    × (state_of new.kept ≡ (step (state_of old.kept) call moment choice).state)
    × IsAnswer outcome (step (state_of old.kept) call moment choice).reply new.reply
TakesFirst TooLong old new was is moment piece = (new ≡ old) × (is ≡ Failed) × RunsOver was piece

-- what taking the piece of an entry did
abbrev pub FeedsEntry : {E : Type 0} → Result Flow E → ServerState → ServerState → Gathered → Gathered → Entry → Form → Option (List ℕ) → Option (List ℕ) → Bool → Type 0
FeedsEntry result old new was is e = FeedsOr result old new was is e.conn e.moment e.piece.now
