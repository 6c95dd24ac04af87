-- What a stateid means (RFC 8881 section 8.2): the state that it names, and whether it may be used here.
use Rattle.std.specs.Prelude.{ℕ, ◌==◌, nat_lt, Bool, true, false, not, ◌&&◌, List, [], ◌∷◌, Option, Some, None, ok_or, Result, Ok, Err, if◌then◌else◌}
use Rattle.std.specs.Option.{option_map_or}
use Rattle.nfs_xdr.specs.{declared.status.Status.Status, declared.status.Status.TheVariants.{BadStateId, OldStateId}}
use Rattle.nfs_opens.specs.{declared.share.Share.Share, declared.stateid.StateId.StateId, declared.records.OpenState.OpenState}
use Rattle.nfs_opens.specs.{declared.records.LockState.LockState, declared.judging.Named.Named, declared.judging.Seat.Seat}
use Rattle.nfs_opens.specs.{declared.judging.Seat.TheVariants.{Anonymous, ReadBypass, Open, Lock}, declared.judging.Sort.Sort}
use Rattle.nfs_opens.specs.{declared.judging.Sort.TheVariants.{OpenOnly, LockOnly, Either}, Share.neither, StateId.{is_anonymous, is_bypass}}
use Rattle.nfs_opens.specs.{Steps.{in_order, ◌>>=◌, ◌>>◌}, Table.{Table, open_at, lock_at}}

abbrev pub open_named : OpenState → Named
open_named o = record { client = o.client; file = o.file; seqid = o.seqid; seat = Open o.number o.access }

-- a lock state has the access of the open under which it was made
abbrev pub lock_named : Table → LockState → Named
lock_named t l = record { client = l.client; file = l.file; seqid = l.seqid; seat = Lock l.number (option_map_or (λ o. o.access) (open_at t l.opened) neither) }

abbrev pub named_by : Table → Option OpenState → Option LockState → Option Named
named_by t (Some o) l = Some (open_named o)
named_by t None (Some l) = Some (lock_named t l)
named_by t None None = None

-- the state that a stateid of this instance names
abbrev pub state_named : Table → StateId → Option Named
state_named t id = if id.instance == t.instance then named_by t (open_at t id.number) (lock_at t id.number) else None

abbrev pub is_sort : Sort → Seat → Bool
is_sort Either seat = true
is_sort OpenOnly (Open number access) = true
is_sort LockOnly (Lock number access) = true
is_sort sort seat = false

-- another client's, of another file than is wanted, of another sort; seqid 0 means any, else a lower one is old and a higher one none of ours
abbrev pub judge_checks : ℕ → Option ℕ → Sort → ℕ → Named → List (Bool × Status)
judge_checks client file sort seqid n =
    (not (n.client == client), BadStateId)
    ∷ (not (option_map_or (λ f. n.file == f) file true), BadStateId)
    ∷ (not (is_sort sort n.seat), BadStateId)
    ∷ (not (seqid == 0) && nat_lt seqid n.seqid, OldStateId)
    ∷ (nat_lt n.seqid seqid, BadStateId)
    ∷ []

abbrev pub seat_named : ℕ → Option ℕ → Sort → ℕ → Named → Result Seat Status
seat_named client file sort seqid n = do
  in_order (judge_checks client file sort seqid n)
  Ok n.seat

-- a special stateid names no state: it will do where any sort does
abbrev pub special : Sort → Seat → Result Seat Status
special Either seat = Ok seat
special sort seat = Err BadStateId

abbrev pub judge : Table → StateId → ℕ → Option ℕ → Sort → Result Seat Status
judge t id client file sort =
    if is_anonymous id then special sort Anonymous
    else if is_bypass id then special sort ReadBypass
    else ok_or (state_named t id) BadStateId >>= seat_named client file sort id.seqid
