-- LOCK, LOCKT and TEST_STATEID: how long their results are.
use Rattle.std.proofs.Common.{◌≡◌, ◌+◌, ◌≤◌, Bool, true, false, cond, List, length, Option, Some, None, refl, ap, subst, arith}
use Rattle.std.proofs.lemmas.List.{length-append, length-map}
use Rattle.std.specs.Prelude.{Result, Ok, Err, ◌&&◌}
use Rattle.nfs_xdr.specs.{SheetState.{SheetState, Puts}, declared.status.Status.Status, declared.status.Status.TheVariants.Delay}
use Rattle.nfs_compound.specs.{declared.op_num.OpNum.OpNum, declared.stateid.Stateid.Stateid, OpNum.op_number, declared.lock_args.Lock.Lock}
use Rattle.nfs_compound.specs.{declared.lock_args.LockT.LockT, declared.op.Op.Op, declared.op.Item.TheVariants.Operation}
use Rattle.nfs_compound.specs.declared.op_num.OpNum.TheVariants as Num
use Rattle.nfs_results.specs.{declared.res.Res.Res, Results.{spell_result, operation_of, refusal, status_of_result}, ResultCodec.HasArrays}
use Rattle.nfs_results.specs.{Largest.{largest, largest_of, number_of, asked}, MayAnswer.HasSizes}
use Rattle.nfs_results.proofs.Lengths.{behind_within, length_spelled}
use Rattle.nfs_ranges.specs.declared.Held.{Held}
use Rattle.nfs_opens.specs.Locking.{test_lock}
use Rattle.nfs_names.specs.{declared.context.Context.Context, State.State, Outcome.{Outcome, refuses, answers, or_lack, is_ok}}
use Rattle.nfs_files.specs.{Ranges.wished, Lock.lock, LockT.lock_t, TestStateid.{code, test_stateid}}
use Rattle.nfs_files.proofs.Terms.{tested}
use Rattle.nfs_files.proofs.{Fitting.few_denied, OpensMoved.by_lock}
use Rattle.nfs_files.proofs.InSteps.{test_is}
use Rattle.nfs_files.proofs.OpenAnswers.{wire_length}

-- a result of the operation, of the sizes that this server's have
pub record IsShort (op : Op) (r : Res) : Type 0 where
  pub number : operation_of r ≡ number_of op
  pub sizes : HasSizes (asked op) r
  pub arrays : HasArrays r

-- so it is within its largest size
pub short_within : (op : Op) (r : Res) (old new : SheetState) → IsShort op r
    → Puts old new (spell_result r) → length new.bytes ≤ length old.bytes + largest (Operation op)
short_within op r old new is put =
    let own : length (spell_result r) ≤ largest_of (operation_of r) (asked op) =
    omega (arith, behind_within (asked op) r is.arrays is.sizes, length_spelled r) in
    let most : length (spell_result r) ≤ largest_of (number_of op) (asked op) = subst (λ n. length (spell_result r) ≤ largest_of n (asked op)) is.number own in
    omega (arith, ap length put.bytes, length-append old.bytes (spell_result r))

answers_any : {A : Type 0} (P : Res → Type 0) (s : State) (x : Context) (op : OpNum) (v : Result A Status) (f : A → Outcome)
    → ((status : Status) → P (refusal (op_number op) status)) → ((a : A) → P (f a).result) → P (answers s x op v f).result
answers_any P s x op (Err status) f refused done = refused status
answers_any P s x op (Ok a) f refused done = done a

-- LOCK
lock_short : (s : State) (x : Context) (a : Lock) → IsShort (Op.Lock a) (lock s x a).result
lock_short s x a = by_lock (λ o. IsShort (Op.Lock a) o.result) s x a
    (λ status. record { number = refl; sizes = tt; arrays = tt })
    (λ h. record { number = refl; sizes = few_denied s.opens h; arrays = tt })
    (λ m did judged granted locked. record { number = refl; sizes = tt; arrays = wire_length did.0 })

pub short_lock : (b : Bool) (s : State) (x : Context) (a : Lock) → IsShort (Op.Lock a) (or_lack b s x Num.Lock (lock s x a)).result
short_lock b s x a =
    elim (b && is_ok (status_of_result (lock s x a).result)) as (λ k. IsShort (Op.Lock a) (cond k (refuses s x Num.Lock Delay) (lock s x a)).result) [
      | true ↦ record { number = refl; sizes = tt; arrays = tt }
      | false ↦ lock_short s x a
    ]

-- LOCKT
tested_short : (s : State) (x : Context) (a : LockT) (o : Option Held) → IsShort (Op.LockT a) (tested s x o).result
tested_short s x a None = record { number = refl; sizes = tt; arrays = tt }
tested_short s x a (Some h) = record { number = refl; sizes = few_denied s.opens h; arrays = tt }

pub short_lock_t : (s : State) (x : Context) (a : LockT) → IsShort (Op.LockT a) (lock_t s x a).result
short_lock_t s x a =
    rw (test_is s x a)
    (answers_any (IsShort (Op.LockT a)) s x Num.LockT (wished s x a.locktype a.offset a.length) (λ w. tested s x (test_lock s.opens a.owner.owner w))
    (λ status. record { number = refl; sizes = tt; arrays = tt })
    (λ w. tested_short s x a (test_lock s.opens a.owner.owner w)))

-- TEST_STATEID
pub short_test : (s : State) (x : Context) (given : List Stateid) → IsShort (Op.TestStateid given) (test_stateid s x given).result
unfolding test_stateid
short_test s x given = record { number = refl; sizes = omega (arith, length-map given (code s x)); arrays = tt }
