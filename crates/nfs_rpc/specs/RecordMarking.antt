-- Record marking (RFC 5531 section 11), on whole streams: which bytes are a record, which are the beginning of one, and
-- which promise more than a record may hold. Nothing here knows in what pieces the bytes came.
use Rattle.std.specs.{Prelude.{◌≡◌, ℕ, ◌+◌, ◌<◌, ◌≤◌, ◌⊎◌, List, [], ◌++◌, length, Bool, true, false}, List.flat_map}
use Rattle.nfs_xdr.specs.{Spelling.number, Limits.most_record}

-- the top bit of a mark: the fragment is the record's last one
abbrev pub last_fragment : ℕ
last_fragment = 0x8000_0000

-- the mark of a fragment: the top bit, where it is the last one, and in the other 31 how many bytes it has
abbrev pub spell_mark : Bool → ℕ → List ℕ
spell_mark false size = number size
spell_mark true size = number (last_fragment + size)

-- fragments that are not the last, each behind its mark
abbrev pub fragments : List (List ℕ) → List ℕ
fragments datas = flat_map (λ data_bytes. spell_mark false (length data_bytes) ++ data_bytes) datas

-- their data
abbrev pub joined : List (List ℕ) → List ℕ
joined datas = flat_map (λ data_bytes. data_bytes) datas

-- The stream is one whole record with this data: fragments that are not the last, and the last one.
pub record IsRecord (stream record_data : List ℕ) : Type 0 where
  pub before : List (List ℕ)
  pub final : List ℕ
  pub stands : stream ≡ fragments before ++ (spell_mark true (length final) ++ final)
  pub holds : record_data ≡ joined before ++ final
  pub fits : length record_data ≤ most_record

-- The stream ends with the first mark by which the lengths of a record add up to more than it may hold.
pub record IsTooLong (stream : List ℕ) : Type 0 where
  pub before : List (List ℕ)
  pub last : Bool
  pub size : ℕ
  pub fits : length (joined before) ≤ most_record
  pub small : size < last_fragment
  pub stands : stream ≡ fragments before ++ spell_mark last size
  pub long : most_record < length (joined before) + size

-- What is kept of a record that has begun: the data so far, the bytes of a mark that is not yet whole, what the fragment
-- of the last whole mark lacks, and whether that mark says that the fragment is the last.
pub record Part : Type 0 where
  pub taken : List ℕ
  pub mark : List ℕ
  pub lacking : ℕ
  pub last : Bool

-- the part of no bytes at all
abbrev pub start : Part
start = record { taken = []; mark = []; lacking = 0; last = false }

-- whole fragments, and fewer than the four bytes of a mark
pub record IsBetween (rest : List ℕ) (p : Part) : Type 0 where
  pub before : List (List ℕ)
  pub fits : length (joined before) ≤ most_record
  pub stands : rest ≡ fragments before ++ p.mark
  pub cut : length p.mark < 4
  pub taken : p.taken ≡ joined before
  pub lacking : p.lacking ≡ 0
  pub last : p.last ≡ false

-- whole fragments, a mark, and fewer bytes than the mark promises
pub record IsInside (rest : List ℕ) (p : Part) : Type 0 where
  pub before : List (List ℕ)
  pub begun : List ℕ
  pub fits : length (joined before) + (length begun + p.lacking) ≤ most_record
  pub stands : rest ≡ fragments before ++ (spell_mark p.last (length begun + p.lacking) ++ begun)
  pub taken : p.taken ≡ joined before ++ begun
  pub lacking : 0 < p.lacking
  pub mark : p.mark ≡ []

-- The part is what is kept of the rest, which begins a record and does not end it.
abbrev pub IsPart : List ℕ → Part → Type 0
IsPart rest p = IsBetween rest p ⊎ IsInside rest p

-- what is held: a part, the data of a whole record that waits, or nothing more of a record that is too long
pub data Gathered : Type 0 where
  Begun : Part → Gathered
  Complete : List ℕ → Gathered
  Failed : Gathered

-- whether the record is too long
abbrev pub is_too_long : Gathered → Bool
is_too_long (Begun p) = false
is_too_long (Complete record_data) = false
is_too_long Failed = true
