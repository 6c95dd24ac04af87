-- LOCK, LOCKT and LOCKU (RFC 8881 sections 18.10 to 18.12).
use Rattle.std.specs.Prelude.{ℕ, ◌+◌, ◌==◌, suc, Bool, not, ◌&&◌, List, [], ◌∷◌, ◌++◌, Option, Some, None, ok_or, option_map, Result, Ok, Err, find, bytes_eq}
use Rattle.std.specs.{Prelude.if◌then◌else◌, Option.option_map_or}
use Rattle.nfs_xdr.specs.{Checks.judged, declared.status.Status.Status, declared.status.Status.TheVariants.{BadStateId, OpenMode, ServerFault}}
use Rattle.nfs_ranges.specs.{declared.Kind.Kind, declared.Kind.TheVariants.{Read, Write}, declared.Held.Held, Holders.{holding, cleared}, Told.told}
use Rattle.nfs_opens.specs.{declared.share.Share.Share, declared.stateid.StateId.StateId, declared.records.LockState.LockState, declared.judging.Seat.Seat}
use Rattle.nfs_opens.specs.{declared.judging.Seat.TheVariants.{Open, Lock}, declared.judging.Sort.TheVariants.{OpenOnly, LockOnly}, declared.locking.Wish.Wish}
use Rattle.nfs_opens.specs.{declared.locking.OpenFault.OpenFault, declared.locking.OpenFault.TheVariants.{Refused, Denied}, Share.neither}
use Rattle.nfs_opens.specs.{StateId.{next_seqid, last_number}, Holding.on_file, Steps.{◌>>=◌, ◌>>◌, require, map_err}, Table.{Table, lock_at, with_lock}}
use Rattle.nfs_opens.specs.Judging.{judge}

-- the lock state that a lock owner has on a file
abbrev pub is_locker : ℕ → List ℕ → ℕ → LockState → Bool
is_locker client owner file l = (l.file == file) && ((l.client == client) && bytes_eq l.owner owner)

abbrev pub state_of : Table → ℕ → List ℕ → ℕ → Option LockState
state_of t client owner file = find (is_locker client owner file) t.locks

-- what is reported against a wish to lock bytes
abbrev pub clash : Table → ℕ → Wish → Option Held
clash t state w = told (t.held w.file) (suc t.last) state w.kind w.first w.last

-- LOCKT: no open is needed, and where the owner has no state, a clash is looked for under 0, which is no state's number
abbrev pub test_lock : Table → List ℕ → Wish → Option Held
test_lock t owner w = clash t (option_map_or (λ l. l.number) (state_of t w.client owner w.file) 0) w

-- the open's access lets bytes be locked in this way
abbrev pub permits : Share → Kind → Bool
permits access Read = access.reads
permits access Write = access.writes

abbrev pub access_in : Seat → Share
access_in (Open number access) = access
access_in (Lock number access) = access
access_in seat = neither

abbrev pub raised : LockState → LockState
raised l = record l { seqid = next_seqid l.seqid }

-- the kind against the open's access, then the clash
abbrev pub lock_judged : Table → ℕ → Share → Wish → Result (Unit {0}) OpenFault
lock_judged t state access w = if permits access w.kind then judged (option_map Denied (clash t state w)) else Err (Refused OpenMode)

-- by a lock state that stands, with the access of an open: it holds the bytes in this way, and its seqid rises
abbrev pub lock_as : Table → Wish → ℕ → Share → Result (StateId × Table) OpenFault
lock_as t w n access = do
  u ← lock_judged t n access w
  l ← ok_or (lock_at t n) (Refused BadStateId)
  Ok (
    record { seqid = next_seqid l.seqid; instance = t.instance; number = n },
    record (with_lock t n raised) { held = on_file t.held w.file (λ h. holding h n w.kind w.first w.last) },
  )

-- by a lock owner that has no state on the file: a new one under the open holds the bytes
abbrev pub lock_first : Table → Wish → ℕ → List ℕ → Share → Result (StateId × Table) OpenFault
lock_first t w opened owner access = do
  u ← lock_judged t 0 access w
  require (not (t.last == last_number)) (Refused ServerFault)
  Ok (
    record { seqid = 1; instance = t.instance; number = t.last + 1 },
    record t {
      locks = t.locks ++ record { number = t.last + 1; client = w.client; owner = owner; file = w.file; opened = opened; seqid = 1 } ∷ [];
      held = on_file t.held w.file (λ h. holding h (t.last + 1) w.kind w.first w.last);
      last = t.last + 1;
    },
  )

-- LOCK by a new lock owner, under an open: it uses the state that it has on the file, if it has one
abbrev pub lock_under : Table → StateId → List ℕ → Wish → Result (StateId × Table) OpenFault
lock_under t id owner w = do
  seat ← map_err Refused (judge t id w.client (Some w.file) OpenOnly)
  option_map_or (λ l. lock_as t w l.number (access_in seat)) (state_of t w.client owner w.file) (lock_first t w id.number owner (access_in seat))

-- LOCK by a lock owner that names its state
abbrev pub lock_known : Table → StateId → Wish → Result (StateId × Table) OpenFault
lock_known t id w = do
  seat ← map_err Refused (judge t id w.client (Some w.file) LockOnly)
  lock_as t w id.number (access_in seat)

-- LOCKU: the lock state holds none of the bytes, and its seqid rises
abbrev pub unlock : Table → StateId → ℕ → ℕ → ℕ → ℕ → Result (StateId × Table) Status
unlock t id client file first last = do
  seat ← judge t id client (Some file) LockOnly
  l ← ok_or (lock_at t id.number) BadStateId
  Ok (
    record { seqid = next_seqid l.seqid; instance = t.instance; number = id.number },
    record (with_lock t id.number raised) { held = on_file t.held file (λ h. cleared h id.number first last) },
  )
