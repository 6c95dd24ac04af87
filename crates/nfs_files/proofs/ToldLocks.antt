-- A LOCK that is granted leaves the lock that it tells.
use Rattle.std.proofs.{Common.{◌≡◌, ℕ, ◌+◌, ◌≤◌, Bool, true, false, Some, refl, sym, ◌∙◌, ap, subst, arith, inl, inr}, lemmas.Bool.{eq-eqb, eqb-true}}
use Rattle.std.specs.Prelude.{◌==◌, ◌&&◌, Ok}
use Rattle.nfs_xdr.specs.declared.time.Time.{Time}
use Rattle.nfs_xdr.proofs.Lists.{find_in}
use Rattle.nfs_compound.specs.declared.lock_args.Lock as args
use Rattle.nfs_compound.specs.Arguments.{arguments}
use Rattle.nfs_compound.specs.declared.op_num.OpNum.TheVariants as Num
use Rattle.nfs_compound.specs.declared.op.Op.TheVariants as Op
use Rattle.nfs_ranges.specs.{declared.Kind.Kind, Holders.{holding, is_within}}
use Rattle.nfs_ranges.proofs.CanonicalLemmas.{within_is}
use Rattle.nfs_opens.specs.{declared.stateid.StateId.StateId, declared.records.LockState.LockState, declared.locking.Wish.Wish, Holding.{FileHolders, on_file}}
use Rattle.nfs_opens.specs.Table.{Table}
use Rattle.nfs_results.specs.Results.{status_of_result}
use Rattle.nfs_names.specs.{declared.context.Context.Context, State.State, Outcome.{is_ok, or_lack, answers}}
use Rattle.nfs_files.specs.{Operation.grows, LockTold.{LockTold, IsHeld}}
use Rattle.nfs_files.proofs.{Outcomes.{one, one_or_delay}, Inside.ToldLocksStand, OpensMoved.lock_is, KeptOps.lock_ok}
use Rattle.nfs_files.specs.Parts as parts
use Rattle.nfs_files.specs.Lock as of_lock
use Rattle.nfs_opens.proofs.CallLaws.{IsLocked}
use Rattle.nfs_files.proofs.InSteps as in_steps

-- what a lock state has just locked it holds
held_now : (held : FileHolders) (file n : ℕ) (kind : Kind) (first last f s b : ℕ) → f ≡ file → n ≡ s → is_within first last b ≡ true
    → on_file held file (λ h. holding h n kind first last) f s b ≡ Some kind
held_now held file n kind first last f s b on number within = rw (eq-eqb f file on, eq-eqb n s number, within) refl

pub granted_held : (k : LockTold) (t : Table) (w : Wish) (did : StateId × Table) → IsLocked t w did → did.0.number ≡ k.state
    → k.file ≡ w.file → k.kind ≡ w.kind → w.first ≤ k.first → k.last ≤ w.last → IsHeld k did.1
granted_held k t w did (inl more) number file kind from to b lo hi =
    ap (λ (u : Table). u.held k.file k.state b) more.left
    ∙ held_now t.held w.file more.number w.kind w.first w.last k.file k.state b file (sym (ap (λ (i : StateId). i.number) more.answer) ∙ number)
    (within_is w.first w.last b (omega arith) (omega arith))
    ∙ ap Some (sym kind)
granted_held k t w did (inr first) number file kind from to b lo hi =
    ap (λ (u : Table). u.held k.file k.state b) first.left
    ∙ held_now t.held w.file (t.last + 1) w.kind w.first w.last k.file k.state b file (sym (ap (λ (i : StateId). i.number) first.answer) ∙ number)
    (within_is w.first w.last b (omega arith) (omega arith))
    ∙ ap Some (sym kind)

lock_left : (s : State) (x : Context) (now : Time) (a : args.Lock) (m : _) (did : _) → parts.locking s x a ≡ Ok m
    → of_lock.locks_as s.opens a.locker m.id m.wish ≡ Ok did → (one s x now (Op.Lock a)).state.opens ≡ did.1
lock_left s x now a m did judged granted =
    rw (in_steps.lock_is s x a)
    (ap (λ v. (answers s x Num.Lock v (parts.locks s x a.locker)).state.opens) judged
    ∙ ap (λ v. (of_lock.locked s x v).state.opens) granted)

-- a LOCK that is granted and not delayed leaves what it does to the opens
pub left_by : (s : State) (x : Context) (now : Time) (refused : Bool) (a : args.Lock) (m : _) (did : _) → parts.locking s x a ≡ Ok m
    → of_lock.locks_as s.opens a.locker m.id m.wish ≡ Ok did → is_ok (status_of_result (one_or_delay refused s x now (Op.Lock a)).result) ≡ true
    → (one_or_delay refused s x now (Op.Lock a)).state.opens ≡ did.1
left_by s x now refused a m did judged granted ok = go (grows s x (Op.Lock a) && refused) ok
  where
    go : (b : Bool) → is_ok (status_of_result (or_lack b s x (arguments (Op.Lock a)).op (one s x now (Op.Lock a))).result) ≡ true
        → (or_lack b s x (arguments (Op.Lock a)).op (one s x now (Op.Lock a))).state.opens ≡ did.1
    go false ok = lock_left s x now a m did judged granted
    go true ok = absurd (let bad = (rw (lock_ok s x now a m did judged granted) at ok) in cc)

pub told_stands : ToldLocksStand
told_stands k s x now refused op ok tells =
    let locks = tells.locks in
    let range = tells.range in
    let did = locks.did in
    let u : Table = (one_or_delay refused s x now op).state.opens in
    let is : u ≡ did.1 = subst (λ o. is_ok (status_of_result (one_or_delay refused s x now o).result) ≡ true → (one_or_delay refused s x now o).state.opens ≡ did.1) (sym locks.is)
    (left_by s x now refused locks.asked (record { wish = tells.wish; id = locks.id }) did locks.judged locks.granted) ok in
    let found = find_in (λ (l : LockState). l.number == k.state) u.locks tells.lock tells.stands in
    record {
      lock = tells.lock;
      there = found.0;
      number = eqb-true _ _ found.1;
      client = sym tells.client;
      opened = sym tells.opened;
      held = λ b lo hi. ap (λ (t : Table). t.held k.file k.state b) is
          ∙ granted_held k s.opens tells.wish did (lock_is s.opens locks.asked.locker locks.id tells.wish did locks.granted)
          locks.state tells.file tells.kind range.0 range.2 b lo hi;
    }
