-- Operations on open files in the parts that their code takes, which only contracts inside the crate cite: what is looked at first, and what is done then.
use Rattle.std.specs.Prelude.{ℕ, Bool, List, [], ◌∷◌, Some, Result, Ok, Err, is_none}
use Rattle.nfs_xdr.specs.{declared.time.Time.Time, declared.status.Status.Status, declared.status.Status.TheVariants.{Inval, NoGrace}}
use Rattle.nfs_compound.specs.{declared.stateid.Stateid.Stateid, declared.lock_args.Lock.Lock, declared.lock_args.LockU.LockU, declared.lock_args.Locker.Locker}
use Rattle.nfs_compound.specs.{declared.lock_args.LockType.LockType, declared.open_args.OpenDowngrade.OpenDowngrade, declared.file_args.Write.Write}
use Rattle.nfs_compound.specs.declared.op_num.OpNum.TheVariants as Num
use Rattle.nfs_results.specs.declared.res.Res.TheVariants as Res
use Rattle.nfs_opens.specs.{declared.locking.Wish.Wish, declared.stateid.CurrentSeqid.CurrentSeqid, declared.stateid.CurrentSeqid.TheVariants.{Any, Own}}
use Rattle.nfs_opens.specs.{declared.stateid.StateId.StateId, declared.judging.Seat.Seat, declared.judging.Sort.TheVariants.OpenOnly, Judging.judge}
use Rattle.nfs_opens.specs.{Table.Table, Share.share_of, Locking.unlock, Steps.{◌>>=◌}}
use Rattle.nfs_opens.specs.Closing as closing
use Rattle.nfs_opens.specs.Opening as opening
use Rattle.nfs_names.specs.{declared.context.Context.Context, declared.node.Node.Node, State.{State, with_tree, without_unused}, Ending.with_opens}
use Rattle.nfs_names.specs.Outcome.{Outcome, done, checked, mapped, answers}
use Rattle.nfs_files.specs.{declared.target.Target.Target, declared.ranges.Wished.Wished, Bytes.{file_checks, reading, writing, may_use}, Close.spent}
use Rattle.nfs_files.specs.{StateIds.{meant, wire_id}, Target.{the_file, with_stateid}, Ranges.{kind_of, wished}}
use Rattle.nfs_files.specs.Lock.{stateid_in, locks_as, locked}
use Rattle.nfs_files.specs.{OpenDowngrade.bits, Write.{write_ok, with_bytes}}

-- what was found, if what is looked at next passes too
abbrev pub if_passed : {A B : Type 0} → Result A Status → (A → Result B Status) → Result A Status
if_passed (Err status) next = Err status
if_passed (Ok a) next = mapped (λ b. a) (next a)

-- the file, where its bytes may be read or changed
unfoldable pub readable : State → Context → Stateid → Result Node Status → Result Node Status
readable s x given found = if_passed (checked found file_checks) (may_use s x reading given)

unfoldable pub writable : State → Context → Stateid → Result Node Status → Result Node Status
writable s x given found = if_passed (checked found file_checks) (may_use s x writing given)

-- WRITE
abbrev pub was_written : State → Context → Time → Write → Node → Outcome
was_written s x now w d = record { result = Res.Write (write_ok s w); state = with_tree s (with_bytes s.tree x w d now); context = x }

-- the file, and the open or lock state that the argument stands for
unfoldable pub target : State → Context → CurrentSeqid → Stateid → Result Target Status
target s x form given = the_file s x >>= λ d. mapped (λ id. record { file = d.number; id = id }) (meant x form given)

-- CLOSE
abbrev pub closed : State → Context → ℕ → Table → Outcome
closed s x file after = record {
  result = Res.Close spent;
  state = without_unused (with_opens s after) file;
  context = with_stateid x spent;
}

abbrev pub closes : State → Context → Target → Outcome
closes s x t = answers s x Num.Close (closing.close s.opens t.id x.client t.file) (λ did. closed s x t.file did.1)

-- OPEN_DOWNGRADE
abbrev pub bit_checks : OpenDowngrade → Seat → List (Bool × Status)
bit_checks a seat = (is_none (share_of a.share_access), Inval) ∷ (is_none (share_of a.share_deny), Inval) ∷ []

abbrev pub narrowing : State → Context → OpenDowngrade → Result Target Status
narrowing s x a = if_passed (target s x Own a.open_stateid) (λ t. checked (judge s.opens t.id x.client (Some t.file) OpenOnly) (bit_checks a))

abbrev pub narrowed : State → Context → StateId → Table → Outcome
narrowed s x id after = record { result = Res.OpenDowngrade (wire_id id); state = with_opens s after; context = with_stateid x (wire_id id) }

abbrev pub narrows : State → Context → OpenDowngrade → Target → Outcome
narrows s x a t =
    answers s x Num.OpenDowngrade (opening.downgrade s.opens t.id x.client t.file (bits a.share_access) (bits a.share_deny)) (λ did. narrowed s x did.0 did.1)

-- FREE_STATEID
abbrev pub frees : State → Context → StateId → Outcome
frees s x id = answers s x Num.FreeStateid (closing.free s.opens id x.client) (λ did. done (with_opens s did.1) x Res.FreeStateid)

-- the bytes that LOCK and LOCKU are for, and by which open or lock state
abbrev pub wish : Context → LockType → ℕ → ℕ → ℕ → Wish
wish x how first last file = record { client = x.client; file = file; kind = kind_of how; first = first; last = last }

abbrev pub wished_by : Context → Stateid → Result Wish Status → Result Wished Status
wished_by x given found = found >>= λ w. mapped (λ id. record { wish = w; id = id }) (meant x Any given)

-- LOCK
abbrev pub reclaim_checks : Lock → Wish → List (Bool × Status)
reclaim_checks a w = (a.reclaim, NoGrace) ∷ []

abbrev pub locking : State → Context → Lock → Result Wished Status
locking s x a = wished_by x (stateid_in a.locker) (checked (wished s x a.locktype a.offset a.length) (reclaim_checks a))

abbrev pub locks : State → Context → Locker → Wished → Outcome
locks s x who k = locked s x (locks_as s.opens who k.id k.wish)

-- LOCKU
abbrev pub unlocking : State → Context → LockU → Result Wished Status
unlocking s x a = wished_by x a.lock_stateid (wished s x a.locktype a.offset a.length)

abbrev pub unlocked : State → Context → StateId → Table → Outcome
unlocked s x id after = record { result = Res.LockU (wire_id id); state = with_opens s after; context = with_stateid x (wire_id id) }

abbrev pub unlocks : State → Context → Wished → Outcome
unlocks s x k =
    let w = k.wish in
    answers s x Num.LockU (unlock s.opens k.id w.client w.file w.first w.last) (λ did. unlocked s x did.0 did.1)
