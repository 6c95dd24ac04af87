-- A lock that was told stays through each operation that spares it, and a LOCK that clashes with it is not granted.
use Rattle.std.proofs.Common.{◌≡◌, ◌≤◌, true, Option, Some, None, refl, sym, ◌∙◌, ap, arith, inl, inr}
use Rattle.std.specs.Prelude.{◌^◌, Ok}
use Rattle.nfs_xdr.specs.declared.time.Time.{Time}
use Rattle.nfs_compound.specs.declared.lock_args.Lock as args
use Rattle.nfs_compound.specs.declared.op_num.OpNum.TheVariants as Num
use Rattle.nfs_compound.specs.declared.op.Op.{Op}
use Rattle.nfs_ranges.specs.Holders.{holding, cleared}
use Rattle.nfs_opens.specs.{declared.records.OpenState.OpenState, Table.{Table, Asked, with_open}, TableInvariants.IsTable}
use Rattle.nfs_opens.specs.Opening as opening
use Rattle.nfs_results.specs.{declared.res.Res.Res, Results.status_of_result}
use Rattle.nfs_names.specs.{declared.context.Context.Context, State.State, Outcome.{answers, is_ok}}
use Rattle.nfs_files.specs.Parts as parts
use Rattle.nfs_files.specs.Lock as of_lock
use Rattle.nfs_files.specs.LockTold.{LockTold, Stands}
use Rattle.nfs_files.proofs.{Outcomes.{one, comes_to}, OpensMoved.lock_is, Wishes.{wish_range, lock_wish}}
use Rattle.nfs_files.proofs.Inside.{Spares, SparedLocksStay, ClashesAreNotGranted}
use Rattle.nfs_files.proofs.KeptLocks.{stands_by, stands_closed, stands_freed, stands_raised, stands_first, held_alike, outside, cleared_other, refused}
use Rattle.nfs_files.proofs.{Effects.{Effect, Opens, Narrows, Closes, Locks, Begins, Unlocks, Frees, Caused, table_behind}, Effected.caused_opens}
use Rattle.nfs_files.proofs.InSteps as in_steps

-- OPEN moves no lock state
opened_stands : (k : LockTold) (t : Table) (a : Asked) (o : Option OpenState) → Stands k t → Stands k (opening.opens_by t a o).after
opened_stands k t a (Some o) is = stands_by k t (opening.opens_by t a (Some o)).after refl refl is
opened_stands k t a None is = stands_by k t (opening.opens_by t a None).after refl refl is

effect_stands : (k : LockTold) (s : State) (x : Context) (op : Op) (r : Res) (t : State) (e : Effect) → IsTable s.opens → k.first ≤ k.last
    → Spares k s x op → Caused s x op r t e → Stands k t.opens → Stands k (table_behind t.opens e)
effect_stands k s x op r t (Opens a) table some spares caused is = opened_stands k t.opens a (opening.own_open t.opens a) is
effect_stands k s x op r t (Narrows n access deny) table some spares caused is =
    stands_by k t.opens (with_open t.opens n (opening.narrows access deny)) refl refl is
effect_stands k s x op r t (Closes n file) table some spares caused is = stands_closed k t.opens n (spares.closes n caused.cause) is
effect_stands k s x op r t (Locks n w) table some spares caused is = stands_raised k t.opens n w.file (λ h. holding h n w.kind w.first w.last)
    (λ h b lo hi held. held_alike k w h n b (spares.locks n w caused.cause) lo hi held) is
effect_stands k s x op r t (Begins opened owner w) table some spares caused is = stands_first k t.opens w _ (caused.fits table).table is
effect_stands k s x op r t (Unlocks n w) table some spares caused is = stands_raised k t.opens n w.file (λ h. cleared h n w.first w.last)
    (λ h b lo hi held. cleared_other h n w.first w.last k.state b (λ same. outside k w b (spares.unlocks n w caused.cause same) lo hi) ∙ held) is
effect_stands k s x op r t (Frees n) table some spares caused is =
    let fits = caused.fits table in stands_freed k t.opens n fits.state fits.table some fits.found fits.empty is
effect_stands k s x op r t e table some spares caused is = is

pub spared : SparedLocksStay
spared k s x now refused i table some spares is = caused_opens (Stands k) refused s x now i (λ op same t e caused stands.
    effect_stands k s x op (comes_to refused s x now i).result t e table some (spares caused.ok op same) caused stands) is

-- what is granted answers NFS4_OK
pub lock_ok : (s : State) (x : Context) (now : Time) (a : args.Lock) (m : _) (did : _) → parts.locking s x a ≡ Ok m
    → of_lock.locks_as s.opens a.locker m.id m.wish ≡ Ok did → is_ok (status_of_result (one s x now (Op.Lock a)).result) ≡ true
lock_ok s x now a m did judged granted =
    rw (in_steps.lock_is s x a)
    (ap (λ v. is_ok (status_of_result (answers s x Num.Lock v (parts.locks s x a.locker)).result)) judged
    ∙ ap (λ v. is_ok (status_of_result (of_lock.locked s x v).result)) granted)

-- its range has bytes that there are, since the lock's are
pub clashing : ClashesAreNotGranted
clashing k s x op n w table some is lock clash = elim (wish_range s x lock.asked.locktype lock.asked.offset lock.asked.length w
    (lock_wish s x lock.asked (record { wish = w; id = lock.id }) lock.judged)) [
      | inl range ↦ refused k s.opens w lock.did table (lock_is s.opens lock.asked.locker lock.id w lock.did lock.granted) some range.0 range.1 is
          (record { other = λ same. clash.other (sym lock.state ∙ same); file = clash.file; before = clash.before; behind = clash.behind; kinds = clash.kinds })
      | inr empty ↦ absurd (let before = clash.before in let past : 2 ^ 64 ≤ k.last = omega (arith, before, empty.1) in
          let holds = is.held k.last some (omega arith) in let bad = sym holds ∙ table.within k.file k.state k.last past in cc)
    ]
