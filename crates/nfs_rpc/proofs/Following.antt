-- What each answer to a piece says of the reading of the stream behind the last record that was done with.
use Rattle.std.proofs.{Common.{◌≡◌, ℕ, List, [], ◌∷◌, ◌++◌, take, drop, refl, sym, ap, ◌∙◌, append_assoc}, lemmas.List.take-append-drop}
use Rattle.nfs_rpc.specs.{RecordMarking.{IsRecord, IsTooLong, Part, IsPart}, Stream.{End, Open, TooLong, IsReading}}
use Rattle.nfs_rpc.proofs.Readings.{part_unfinished}

-- the bytes taken, and those behind
parted : (rest piece : List ℕ) (used : ℕ) → rest ++ piece ≡ (rest ++ take used piece) ++ drop used piece
parted rest piece used = ap (λ w. rest ++ w) (sym (take-append-drop used piece)) ∙ sym (append_assoc rest (take used piece) (drop used piece))

-- no record is whole
pub part_read : (rest : List ℕ) (p : Part) → IsPart rest p → IsReading rest [] (Open rest)
part_read rest p h = record { behind = rest; stands = refl; ends = (refl, part_unfinished rest p h) }

-- one is, and the bytes behind it are read on
pub record_read : (rest piece : List ℕ) (used : ℕ) (d : List ℕ) (records : List (List ℕ)) (end : End)
    → IsRecord (rest ++ take used piece) d → IsReading (drop used piece) records end → IsReading (rest ++ piece) (d ∷ records) end
record_read rest piece used d records end h r = record {
  behind = r.behind;
  stands = (rest ++ take used piece, drop used piece, parted rest piece used, h, r.stands);
  ends = r.ends;
}

-- one is too long
pub long_read : (rest piece : List ℕ) (used : ℕ) → IsTooLong (rest ++ take used piece) → IsReading (rest ++ piece) [] TooLong
long_read rest piece used h = record { behind = rest ++ piece; stands = refl; ends = (rest ++ take used piece, drop used piece, parted rest piece used, h) }
