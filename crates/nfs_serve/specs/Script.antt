-- A script of entries, and which fault its bytes have (this server's profile). An entry is a moment in seconds (8 bytes),
-- a connection (4), a length (4) and that many bytes that came on the connection. Length 0 closes the connection.
use Rattle.std.specs.Prelude.{◌≡◌, ℕ, suc, ◌^◌, ◌<◌, ◌≤◌, List, ◌++◌, [], length, flat_map, All, ◌⊎◌, Option, nat_lt, Some, None, if◌then◌else◌}
use Rattle.nfs_xdr.specs.Spelling.{number, hyper}
use Rattle.nfs_serve.specs.{declared.fault.Stop.Stop, declared.fault.Stop.TheVariants.{Cut, Connection, Long, Late, Many, ReadFailed, WriteFailed}}

pub record Entry : Type 0 where
  pub moment : ℕ
  pub conn : ℕ
  pub piece : List ℕ

-- the head of an entry: moment, connection and length
unfoldable pub head : ℕ → ℕ → ℕ → List ℕ
head moment conn len = hyper moment ++ number conn ++ number len

abbrev pub spell_entry : Entry → List ℕ
spell_entry e = head e.moment e.conn (length e.piece) ++ e.piece

-- the last moment that a server takes, in seconds; the last connection of a script, and how many there are; and the most bytes of a piece
abbrev pub last_moment : ℕ
last_moment = 2 ^ 62

abbrev pub last_connection : ℕ
last_connection = 15

abbrev pub connection_count : ℕ
connection_count = suc last_connection

abbrev pub most_piece : ℕ
most_piece = 65536

abbrev pub Fits : Entry → Type 0
Fits e = (e.moment ≤ last_moment) × (e.conn ≤ last_connection) × (length e.piece ≤ most_piece)

abbrev pub max_entries : ℕ
max_entries = 1000000

-- why an entry with this head is not read: the lowest number that applies
abbrev pub refusal : ℕ → ℕ → ℕ → Option Stop
refusal moment conn len =
    if nat_lt last_connection conn then Some Connection
    else if nat_lt most_piece len then Some Long
    else if nat_lt last_moment moment then Some Late
    else None

-- these 16 bytes are the head of an entry, whatever its numbers say
abbrev pub IsHead : ℕ → ℕ → ℕ → List ℕ → Type 0
IsHead moment conn len bytes = (bytes ≡ head moment conn len) × (moment < 2 ^ 64) × (conn < 2 ^ 32) × (len < 2 ^ 32)

-- these bytes begin with the head of an entry that is refused
abbrev pub BeginsRefused : Stop → List ℕ → Type 0
BeginsRefused stop bytes = (moment : ℕ) × (conn : ℕ) × (len : ℕ) × (front : List ℕ) × (behind : List ℕ)
    × (bytes ≡ front ++ behind) × IsHead moment conn len front × (refusal moment conn len ≡ Some stop)

-- less than a whole entry, whose head is not refused where it is whole
abbrev pub IsPartial : List ℕ → Type 0
IsPartial bytes = (length bytes < 16) ⊎ ((moment : ℕ) × (conn : ℕ) × (len : ℕ) × (part : List ℕ)
    × (bytes ≡ head moment conn len ++ part) × (moment ≤ last_moment) × (conn ≤ last_connection) × (len ≤ most_piece) × (length part < len))

-- Why a run stops behind so many whole entries, by what stands there. A byte behind the last entry that may be is one
-- entry too many, whatever comes behind it.
abbrev pub StopsAt : Stop → ℕ → List ℕ → Type 0
StopsAt Cut whole rest = (whole < max_entries) × (0 < length rest) × IsPartial rest
StopsAt Many whole rest = (whole ≡ max_entries) × (0 < length rest)
StopsAt ReadFailed whole rest = ((whole < max_entries) × IsPartial rest) ⊎ ((whole ≡ max_entries) × (rest ≡ []))
StopsAt WriteFailed whole rest = (whole ≤ max_entries) × (rest ≡ [])
StopsAt stop whole rest = (whole < max_entries) × BeginsRefused stop rest

-- The script is these whole entries and this rest, which is why the run stops.
pub record IsStopped (script : List ℕ) (stop : Stop) (entries : List Entry) (rest : List ℕ) : Type 0 where
  pub spelled : script ≡ flat_map spell_entry entries ++ rest
  pub fits : All Fits entries
  pub stands : StopsAt stop (length entries) rest

-- The script is these whole entries and nothing else.
pub record IsWhole (script : List ℕ) (entries : List Entry) : Type 0 where
  pub spelled : script ≡ flat_map spell_entry entries
  pub fits : All Fits entries
  pub few : length entries ≤ max_entries

-- The whole script, with its own fault, if it has one: one of 1 to 5. These are its entries before it, and this is the rest.
abbrev pub IsRead : Option Stop → List ℕ → List Entry → List ℕ → Type 0
IsRead None script entries rest = IsWhole script entries × (rest ≡ [])
IsRead (Some ReadFailed) script entries rest = ⊥
IsRead (Some WriteFailed) script entries rest = ⊥
IsRead (Some stop) script entries rest = IsStopped script stop entries rest
