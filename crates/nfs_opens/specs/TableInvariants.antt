-- What holds of every table.
use Rattle.std.specs.{Prelude.{◌≡◌, ℕ, ◌≤◌, ◌^◌, None, ◌≢◌, ◌==◌, suc, Bool, true, false, List}, List.list_any}
use Rattle.nfs_xdr.specs.Tables.{IsRising, In}
use Rattle.nfs_ranges.specs.{Holders.{Holders, LockedBytes, HasNoClash}, Facts.IsBelow}
use Rattle.nfs_opens.specs.{Table.{Kept, Table, table, clashes_with, as_asked}, declared.records.OpenState.OpenState, declared.records.LockState.LockState}
use Rattle.nfs_opens.specs.{declared.index.Pair.Pair, declared.counts.Counts.Counts, Counts.AreCounted, Index.IsIndex, Keys.{open_key, lock_key}}
use Rattle.nfs_opens.specs.Holding.{FileHolders, is_listed}

-- no byte from 2^64 on is held
abbrev pub HasNoByteBehind : Holders → Type 0
HasNoByteBehind h = (s b : ℕ) → 2 ^ 64 ≤ b → h s b ≡ None

-- the numbers rise, from low on
abbrev pub Rises : {X : Type 0} → (X → ℕ) → ℕ → List X → Type 0
Rises number low xs = (high : ℕ) × IsRising number low xs high

-- a lock state's open stands, and is of the same client and file
pub record IsUnder (opens : List OpenState) (l : LockState) (o : OpenState) : Type 0 where
  pub stands : In o opens
  pub number : o.number ≡ l.opened
  pub client : o.client ≡ l.client
  pub file : o.file ≡ l.file

-- a holder of bytes of a file is a lock state that stands on that file
pub record IsHolder (locks : List LockState) (f s : ℕ) (l : LockState) : Type 0 where
  pub stands : In l locks
  pub number : l.number ≡ s
  pub file : l.file ≡ f

abbrev pub AreHolders : List LockState → FileHolders → Type 0
AreHolders locks held = (f s b : ℕ) → held f s b ≢ None → (l : LockState) × IsHolder locks f s l

-- which file an open is of, and of which owner
abbrev pub whose : OpenState → ℕ × ℕ × List ℕ
whose o = (o.file, o.client, o.owner)

-- no owner has two opens of one file
abbrev pub HasOneEach : List OpenState → Type 0
HasOneEach opens = (a b : OpenState) → In a opens → In b opens → whose a ≡ whose b → a ≡ b

-- all opens, their indexes by file, by client and by the key of the owner, and the counts of those of each file
abbrev pub AreOpens : List OpenState → List Pair → List Pair → List Pair → Counts → Type 0
AreOpens opens by_file by_client by_owner counts =
    IsIndex (λ o. o.file) (λ o. o.number) opens by_file
    × IsIndex (λ o. o.client) (λ o. o.number) opens by_client
    × IsIndex open_key (λ o. o.number) opens by_owner
    × HasOneEach opens
    × AreCounted opens counts

-- all lock states, and their indexes by file, by open and by the key of the owner
abbrev pub AreLocks : List LockState → List Pair → List Pair → List Pair → Type 0
AreLocks locks by_file by_open by_owner =
    IsIndex (λ l. l.file) (λ l. l.number) locks by_file
    × IsIndex (λ l. l.opened) (λ l. l.number) locks by_open
    × IsIndex lock_key (λ l. l.number) locks by_owner

-- What holds of every table.
pub record IsTable (t : Table) : Type 0 where
  -- numbers rise, and were all given
  pub opens : IsRising (λ o. o.number) 1 t.opens (suc t.last)
  pub locks : IsRising (λ l. l.number) 1 t.locks (suc t.last)
  -- no two opens of different owners clash
  pub shares : (a b : OpenState) → In a t.opens → In b t.opens → clashes_with (as_asked a) b ≡ false
  -- each lock state has its open
  pub under : (l : LockState) → In l t.locks → (o : OpenState) × IsUnder t.opens l o
  -- each holder of a byte is a lock state on that file
  pub holders : AreHolders t.locks t.held
  -- no byte has a writer beside another holder
  pub bytes : (f : ℕ) → HasNoClash (t.held f)
  -- a file has no byte from 2^64 on
  pub within : (f : ℕ) → HasNoByteBehind (t.held f)
  -- no number behind the last holds a byte
  pub below : (f : ℕ) → IsBelow (t.held f) (suc t.last)

-- a lock state stands on each file whose bytes are listed, so that a file leaves nothing behind
abbrev pub AreListed : List LockState → List (ℕ × LockedBytes) → Type 0
AreListed locks files = (f : ℕ) → is_listed f files ≡ true → list_any (λ l. l.file == f) locks ≡ true

-- What holds of all that is kept; `has_room` says whether there is room for one more open.
pub record IsKept (k : Kept) (has_room : Bool) : Type 0 where
  pub table : IsTable (table k)
  pub listed : AreListed k.locks k.files
  pub room : k.ready ≡ true → has_room ≡ true
