-- CLOSE and FREE_STATEID (RFC 8881 sections 18.2 and 18.38).
use Rattle.std.specs.{Prelude.{ℕ, ◌==◌, not, List, Some, None, ok_or, Result, Ok, Err, filter, if◌then◌else◌}, List.list_any}
use Rattle.nfs_xdr.specs.{declared.status.Status.Status, declared.status.Status.TheVariants.{BadStateId, LocksHeld}}
use Rattle.nfs_ranges.specs.Holders.{holds_any}
use Rattle.nfs_opens.specs.{declared.stateid.StateId.StateId, declared.records.LockState.LockState, declared.judging.Seat.Seat}
use Rattle.nfs_opens.specs.{declared.judging.Seat.TheVariants.{Open, Lock}, declared.judging.Sort.TheVariants.{OpenOnly, Either}, Holding.FileHolders}
use Rattle.nfs_opens.specs.{Steps.{◌>>=◌, ◌>>◌, require}, Table.{Table, lock_at}, Judging.judge}

-- the bytes of the lock states that stand
abbrev pub held_within : List LockState → FileHolders → FileHolders
held_within locks held f s b = if list_any (λ l. l.number == s) locks then held f s b else None

-- an open goes, with its lock states and their bytes
abbrev pub without_open : Table → ℕ → Table
without_open t n = record t {
  opens = filter (λ o. not (o.number == n)) t.opens;
  locks = filter (λ l. not (l.opened == n)) t.locks;
  held = held_within (filter (λ l. not (l.opened == n)) t.locks) t.held;
}

abbrev pub close : Table → StateId → ℕ → ℕ → Result (Unit {0} × Table) Status
close t id client file = do
  seat ← judge t id client (Some file) OpenOnly
  Ok (tt, without_open t id.number)

-- a lock state goes
abbrev pub without_lock : Table → ℕ → Table
without_lock t n = record t { locks = filter (λ l. not (l.number == n)) t.locks }

-- the lock state that is to go: a special stateid names none, and an open goes by CLOSE alone
abbrev pub lock_in : Seat → Result ℕ Status
lock_in (Lock number access) = Ok number
lock_in (Open number access) = Err LocksHeld
lock_in special = Err BadStateId

-- FREE_STATEID: a lock state that holds no byte
abbrev pub free : Table → StateId → ℕ → Result (Unit {0} × Table) Status
free t id client = do
  seat ← judge t id client None Either
  number ← lock_in seat
  l ← ok_or (lock_at t number) BadStateId
  require (not (holds_any (t.held l.file) number)) LocksHeld
  Ok (tt, without_lock t number)
