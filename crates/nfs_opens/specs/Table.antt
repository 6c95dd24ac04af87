-- Opens, lock states and locked bytes (RFC 8881 sections 8.2, 9.1 and 9.7).
use Rattle.std.specs.Prelude.{ℕ, ◌==◌, Bool, not, ◌&&◌, ◌||◌, List, [], Option, Result, Ok, Err, find, map, bytes_eq, if◌then◌else◌}
use Rattle.std.specs.List.{list_any}
use Rattle.nfs_ranges.specs.Holders.{LockedBytes}
use Rattle.nfs_opens.specs.{declared.share.Share.Share, declared.records.OpenState.OpenState, declared.records.LockState.LockState, Share.meets}
use Rattle.nfs_opens.specs.Holding.{FileHolders, held_by, unlocked}

-- what an `Opens` keeps: opens and lock states in rising order of their numbers, the locked bytes by file, the last number
-- that was given (0 before the first), the server's instance, and whether there is room for one more open
pub record Kept : Type 0 where
  pub opens : List OpenState
  pub locks : List LockState
  pub files : List (ℕ × LockedBytes)
  pub last : ℕ
  pub instance : ℕ
  pub ready : Bool

-- what it means: who holds a byte is a function of file, lock state and byte
pub record Table : Type 0 where
  pub opens : List OpenState
  pub locks : List LockState
  pub held : FileHolders
  pub last : ℕ
  pub instance : ℕ

abbrev pub table : Kept → Table
table k = record { opens = k.opens; locks = k.locks; held = held_by k.files; last = k.last; instance = k.instance }

-- nothing is open, nothing is locked
abbrev pub no_opens : ℕ → Table
no_opens instance = record { opens = []; locks = []; held = unlocked; last = 0; instance = instance }

-- the open and the lock state of a number
abbrev pub open_at : Table → ℕ → Option OpenState
open_at t n = find (λ o. o.number == n) t.opens

abbrev pub lock_at : Table → ℕ → Option LockState
lock_at t n = find (λ l. l.number == n) t.locks

-- one open or one lock state changes, and all else stays as it is
abbrev pub with_open : Table → ℕ → (OpenState → OpenState) → Table
with_open t n change = record t { opens = map (λ o. if o.number == n then change o else o) t.opens }

abbrev pub with_lock : Table → ℕ → (LockState → LockState) → Table
with_lock t n change = record t { locks = map (λ l. if l.number == n then change l else l) t.locks }

-- What a call comes to is its answer with the table that it leaves, or its refusal. What it answers ..
abbrev pub answer_of : {A F : Type 0} → Result (A × Table) F → Result A F
answer_of (Err fault) = Err fault
answer_of (Ok did) = Ok did.0

-- .. and the table after it: a refusal leaves the table as it is
abbrev pub table_after : {A F : Type 0} → Table → Result (A × Table) F → Table
table_after t (Err fault) = t
table_after t (Ok did) = did.1

-- who asks to open which file, and how
pub record Asked : Type 0 where
  pub client : ℕ
  pub owner : List ℕ
  pub file : ℕ
  pub access : Share
  pub deny : Share

-- the open is the asking owner's: an owner is known by its client and its string
abbrev pub is_owners : Asked → OpenState → Bool
is_owners a o = (o.client == a.client) && bytes_eq o.owner a.owner

abbrev pub is_own : Asked → OpenState → Bool
is_own a o = (o.file == a.file) && is_owners a o

-- an open of the same file by another owner, which denies what is asked or has what is to be denied (section 9.7)
abbrev pub clashes_with : Asked → OpenState → Bool
clashes_with a o = (o.file == a.file) && (not (is_owners a o) && (meets a.access o.deny || meets a.deny o.access))

-- what the opens of a file deny to others
abbrev pub denials : Table → ℕ → Share
denials t file = record {
  reads = list_any (λ o. (o.file == file) && o.deny.reads) t.opens;
  writes = list_any (λ o. (o.file == file) && o.deny.writes) t.opens;
}

abbrev pub as_asked : OpenState → Asked
as_asked o = record { client = o.client; owner = o.owner; file = o.file; access = o.access; deny = o.deny }
