-- What calls of `Opens` take, answer and leave beside what their operations come to: faults, want of memory, and a client's end, one open at a time.
use Rattle.std.specs.Prelude.{◌==◌, Bool, ◌&&◌, List, [], ◌∷◌, Option, is_none, ◌≡◌, ℕ, not, Some, Result, Err, IsOk, IsTrue, None, filter, find, if◌then◌else◌}
use Rattle.std.specs.List.{list_any}
use Rattle.nfs_xdr.specs.{Checks.first_fault, declared.status.Status.Status, declared.status.Status.TheVariants.{ShareDenied, ServerFault}}
use Rattle.nfs_ranges.specs.Holders.{dropped}
use Rattle.nfs_opens.specs.{Opening.own_open, declared.opening.Ask.Ask, StateId.last_number, Table.{Table, Asked, clashes_with, answer_of, table_after}}
use Rattle.nfs_opens.specs.{Locking.{lock_under, lock_known}, declared.stateid.StateId.StateId, declared.locking.Wish.Wish, declared.locking.Locker.Locker}
use Rattle.nfs_opens.specs.{declared.locking.Locker.TheVariants.{New, Known}, declared.locking.OpenFault.OpenFault}
use Rattle.nfs_opens.specs.{declared.locking.OpenFault.TheVariants.Memory, Closing.{held_within, without_open}, declared.records.OpenState.OpenState}
use Rattle.nfs_opens.specs.{declared.records.LockState.LockState, Holding.{FileHolders, on_file}}

abbrev pub asked : Ask → Asked
asked a = record { client = a.client; owner = a.owner.now; file = a.file; access = a.access; deny = a.deny }

-- a share clash; and no number is left for a new open
abbrev pub open_checks : Table → Asked → List (Bool × Status)
open_checks t a =
    (list_any (clashes_with a) t.opens, ShareDenied)
    ∷ (is_none (own_open t a) && (t.last == last_number), ServerFault)
    ∷ []

abbrev pub open_fault : Table → Asked → Option Status
open_fault t a = first_fault (open_checks t a)

abbrev pub lock : Table → Locker → Wish → Result (StateId × Table) OpenFault
lock t (New under owner) w = lock_under t under owner.now w
lock t (Known state) w = lock_known t state w

-- the call does what is said; or it wants memory where it would have been granted, and changes nothing
abbrev pub LocksOrWants : Table → Result (StateId × Table) OpenFault → Result StateId OpenFault → Table → Type 0
LocksOrWants old did (Err Memory) new = IsOk did × (new ≡ old)
LocksOrWants old did answer new = (answer ≡ answer_of did) × (new ≡ table_after old did)

-- the bytes of a whole file, which are given up without memory
abbrev pub is_whole : ℕ → ℕ → Bool
is_whole first last = (first == 0) && (last == 0xffff_ffff_ffff_ffff)

abbrev pub UnlocksOrWants : Table → Bool → Result (StateId × Table) OpenFault → Result StateId OpenFault → Table → Type 0
UnlocksOrWants old whole did (Err Memory) new = IsTrue (not whole) × IsOk did × (new ≡ old)
UnlocksOrWants old whole did answer new = (answer ≡ answer_of did) × (new ≡ table_after old did)

-- one lock state after the other, of those that leave, gives up its bytes
abbrev pub held_without : (LockState → Bool) → List LockState → FileHolders → FileHolders
held_without leaves [] held = held
held_without leaves (l ∷ locks) held = held_without leaves locks (if leaves l then on_file held l.file (λ h. dropped h l.number) else held)

-- a client ends: its opens go, with its lock states and their bytes
abbrev pub without_client : Table → ℕ → Table
without_client t client = record t {
  opens = filter (λ o. not (o.client == client)) t.opens;
  locks = filter (λ l. not (l.client == client)) t.locks;
  held = held_within (filter (λ l. not (l.client == client)) t.locks) t.held;
}

-- one open of a client goes: its file, and the table after it
pub record Dropped : Type 0 where
  pub file : Option ℕ
  pub after : Table

abbrev pub drop_open : Table → Option OpenState → Dropped
drop_open t None = record { file = None; after = t }
drop_open t (Some o) = record { file = Some o.file; after = without_open t o.number }

abbrev pub drop_client : Table → ℕ → Dropped
drop_client t client = drop_open t (find (λ o. o.client == client) t.opens)
