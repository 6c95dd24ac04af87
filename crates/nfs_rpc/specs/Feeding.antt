-- What `Records` does with a piece of a stream, and with the record that waits (RFC 5531 section 11).
use Rattle.std.specs.Prelude.{◌≡◌, ℕ, ◌+◌, ◌<◌, ◌≤◌, ◌++◌, List, [], length, take, Bool, true, false}
use Rattle.nfs_xdr.specs.Limits.{most_record}
use Rattle.nfs_rpc.specs.{declared.records.Fed.Fed, declared.records.Fed.TheVariants.{More, Whole, TooLong}}
use Rattle.nfs_rpc.specs.RecordMarking.{Part, Gathered, Begun, Complete, Failed, IsRecord, start, spell_mark, IsTooLong, IsPart}

-- what is held stands for the bytes behind the last record that was done with
abbrev pub Holds : List ℕ → Gathered → Type 0
Holds rest (Begun p) = IsPart rest p
Holds rest (Complete record_data) = IsRecord rest record_data
Holds rest Failed = IsTooLong rest

-- whether a whole record waits
abbrev pub waits : Gathered → Bool
waits (Begun p) = false
waits (Complete record_data) = true
waits Failed = false

-- its data, and no bytes where none waits
abbrev pub waiting : Gathered → List ℕ
waiting (Begun p) = []
waiting (Complete record_data) = record_data
waiting Failed = []

-- what is held once the record that waits is done with
abbrev pub done_with : Gathered → Gathered
done_with (Begun p) = Begun p
done_with (Complete record_data) = Begun start
done_with Failed = Failed

-- what each answer to a piece of so many bytes says of what is held
abbrev pub AnswersFeed : Fed → Gathered → ℕ → Type 0
AnswersFeed More held size = (p : Part) × (held ≡ Begun p)
AnswersFeed (Whole used) held size = (record_data : List ℕ) × (held ≡ Complete record_data) × (used ≤ size) × (0 < used)
AnswersFeed TooLong held size = held ≡ Failed

-- For the bytes before the piece: they and the bytes taken of it are what is held now.
abbrev pub StandsNow : Fed → List ℕ → List ℕ → Gathered → Type 0
StandsNow More rest piece held = Holds (rest ++ piece) held
StandsNow (Whole used) rest piece held = Holds (rest ++ take used piece) held
StandsNow TooLong rest piece held = (used : ℕ) × Holds (rest ++ take used piece) held

-- the piece begins with a record of one fragment that has this data
pub record BeginsWith (piece record_data : List ℕ) : Type 0 where
  pub behind : List ℕ
  pub stands : piece ≡ spell_mark true (length record_data) ++ (record_data ++ behind)
  pub fits : length record_data ≤ most_record

-- Nothing is held, and the piece begins with a record of one fragment that has this data.
pub record IsWhole (held : Gathered) (piece record_data : List ℕ) : Type 0 where
  pub fresh : held ≡ Begun start
  pub within : 4 + length record_data ≤ length piece
  pub stream : (rest : List ℕ) → Holds rest held → IsRecord (rest ++ take (4 + length record_data) piece) record_data
