-- What proofs call parts of definitions by.
use Rattle.std.specs.{Prelude.{ℕ, Bool, ◌==◌, not, List, Option, option_map, ok_or, Result, Ok}, List.list_any, Option.option_map_or}
use Rattle.nfs_xdr.specs.{Checks.judged, declared.status.Status.Status, declared.status.Status.TheVariants.BadStateId}
use Rattle.nfs_ranges.specs.declared.Held.{Held}
use Rattle.nfs_opens.specs.{declared.locking.OpenFault.OpenFault, declared.locking.OpenFault.TheVariants.Denied, declared.locking.Wish.Wish}
use Rattle.nfs_opens.specs.{declared.records.LockState.LockState, declared.share.Share.Share, declared.stateid.StateId.StateId}
use Rattle.nfs_opens.specs.{declared.records.OpenState.OpenState, declared.judging.Named.Named, declared.judging.Seat.Seat, declared.judging.Sort.Sort}
use Rattle.nfs_opens.specs.{Judging.seat_named, Locking.{lock_as, lock_first}, Share.neither, Steps.{◌>>=◌, ◌>>◌}, Table.Table}

abbrev pub stands : List LockState → ℕ → Bool
stands locks s = list_any (λ l. l.number == s) locks

abbrev pub not_under : ℕ → LockState → Bool
not_under n l = not (l.opened == n)

abbrev pub unless_told : Option Held → Result (Unit {0}) OpenFault
unless_told o = judged (option_map Denied o)

abbrev pub lock_by_owner : Table → Wish → ℕ → List ℕ → Share → Option LockState → Result (StateId × Table) OpenFault
lock_by_owner t w opened owner access o = option_map_or (λ l. lock_as t w l.number access) o (lock_first t w opened owner access)

-- the access of the open under which a lock state was made, and the number of an owner's lock state
abbrev pub access_of : Option OpenState → Share
access_of o = option_map_or (λ o. o.access) o neither

abbrev pub number_of : Option LockState → ℕ
number_of o = option_map_or (λ l. l.number) o 0

-- a stateid's state that was looked for, and what is judged of it
abbrev pub seated : Seat → Option Status → Result Seat Status
seated seat fault = judged fault >> Ok seat

abbrev pub judge_named : ℕ → Option ℕ → Sort → ℕ → Option Named → Result Seat Status
judge_named client file sort seqid o = ok_or o BadStateId >>= seat_named client file sort seqid
