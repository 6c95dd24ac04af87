-- A lock that was told to its owner, and what clashes with it (RFC 8881 sections 8.2 and 9.1).
use Rattle.std.specs.{Prelude.{◌≡◌, ◌≢◌, ◌⊎◌, ℕ, ◌<◌, ◌≤◌, true, List, ◌++◌, length, drop, Some}, Int.{w64, from_be_bytes}}
use Rattle.nfs_xdr.specs.Tables.{In}
use Rattle.nfs_compound.specs.declared.op_num.OpNum.{OpNum}
use Rattle.nfs_results.specs.Results.{done_head}
use Rattle.nfs_ranges.specs.{declared.Kind.Kind, Told.meets}
use Rattle.nfs_opens.specs.{declared.records.LockState.LockState, declared.locking.Wish.Wish, Table.Table}

-- An operation's result says NFS4_OK and gives a stateid: the last 8 of its 16 bytes are the number of the open or lock state that it names.
pub record Names (op : OpNum) (result : List ℕ) (n : ℕ) : Type 0 where
  pub id : List ℕ
  pub answers : result ≡ done_head op ++ id
  pub long : length id ≡ 16
  pub number : from_be_bytes w64 (drop 8 id) ≡ n

-- a lock: by which lock state it is held, of which client and under which open, and how it holds which bytes of which file
pub record LockTold : Type 0 where
  pub state : ℕ
  pub client : ℕ
  pub opened : ℕ
  pub file : ℕ
  pub kind : Kind
  pub first : ℕ
  pub last : ℕ

-- each byte is held
abbrev pub IsHeld : LockTold → Table → Type 0
IsHeld k t = (b : ℕ) → k.first ≤ b → b ≤ k.last → t.held k.file k.state b ≡ Some k.kind

-- the ranges share no byte
abbrev pub IsBeside : Wish → LockTold → Type 0
IsBeside w k = (w.last < k.first) ⊎ (k.last < w.first)

-- the wish holds no byte of it in another way
abbrev pub IsAlike : Wish → LockTold → Type 0
IsAlike w k = IsBeside w k ⊎ (w.kind ≡ k.kind)

-- the lock state stands, with its client and its open, and holds the bytes
pub record Stands (k : LockTold) (t : Table) : Type 0 where
  pub lock : LockState
  pub there : In lock t.locks
  pub number : lock.number ≡ k.state
  pub client : lock.client ≡ k.client
  pub opened : lock.opened ≡ k.opened
  pub held : IsHeld k t

-- a wish of another lock state on a byte of it, where one of the two is Write
pub record Clashes (k : LockTold) (n : ℕ) (w : Wish) : Type 0 where
  pub other : n ≢ k.state
  pub file : w.file ≡ k.file
  pub before : w.first ≤ k.last
  pub behind : k.first ≤ w.last
  pub kinds : meets w.kind (Some k.kind) ≡ true
