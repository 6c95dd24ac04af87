-- A whole stream read into records (RFC 5531 section 11): the records, one behind the other, and how it ends.
use Rattle.std.specs.Prelude.{◌≡◌, ℕ, List, [], ◌∷◌, ◌++◌, take, drop}
use Rattle.nfs_rpc.specs.RecordMarking.{IsRecord, IsTooLong}

-- No front of it is a whole record, and none is too long.
pub record IsUnfinished (rest : List ℕ) : Type 0 where
  pub no_record : (front behind record_data : List ℕ) → rest ≡ front ++ behind → IsRecord front record_data → ⊥
  pub not_long : (front behind : List ℕ) → rest ≡ front ++ behind → IsTooLong front → ⊥

-- these records, and what stands behind them
abbrev pub AreRecords : List ℕ → List (List ℕ) → List ℕ → Type 0
AreRecords stream [] behind = stream ≡ behind
AreRecords stream (record_data ∷ records) behind =
    (front : List ℕ) × (left : List ℕ) × (stream ≡ front ++ left) × IsRecord front record_data × AreRecords left records behind

-- behind the last whole record: a rest that more bytes may finish, or a front that is too long
pub data End : Type 0 where
  Open : List ℕ → End
  TooLong : End

abbrev pub EndsAs : List ℕ → End → Type 0
EndsAs behind (Open rest) = (behind ≡ rest) × IsUnfinished rest
EndsAs behind TooLong = (front : List ℕ) × (left : List ℕ) × (behind ≡ front ++ left) × IsTooLong front

-- The stream is these records, and ends so.
pub record IsReading (stream : List ℕ) (records : List (List ℕ)) (end : End) : Type 0 where
  pub behind : List ℕ
  pub stands : AreRecords stream records behind
  pub ends : EndsAs behind end

-- behind a record that a front of the piece ends, the rest of the piece is read on
abbrev pub ReadsOn : (rest piece : List ℕ) (used : ℕ) → Type 0
ReadsOn rest piece used = (d : List ℕ) (records : List (List ℕ)) (end : End)
    → IsRecord (rest ++ take used piece) d → IsReading (drop used piece) records end → IsReading (rest ++ piece) (d ∷ records) end
