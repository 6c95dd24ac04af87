-- What every operation keeps: its result is one that it may have, and the store stays one.
use Rattle.std.proofs.Common.{◌≡◌, Bool, true, false, cond, Option, refl, subst, arith}
use Rattle.std.specs.{Prelude.{◌&&◌, IfSome}, Option.ForSome}
use Rattle.nfs_xdr.specs.declared.time.Time.{Time}
use Rattle.nfs_compound.specs.{declared.op_num.OpNum.OpNum, OpNum.op_number, declared.op.Op.Op, declared.op.Item.Item}
use Rattle.nfs_compound.specs.declared.op.Item.TheVariants.{Operation, Fault}
use Rattle.nfs_compound.specs.declared.op_num.OpNum.TheVariants as Num
use Rattle.nfs_results.specs.{declared.res.Res.Res, Results.{refusal, status_of_result}}
use Rattle.nfs_names.specs.{declared.context.Context.Context, State.State, StoreInvariants.IsStore, Outcome.{Outcome, refuses, or_lack, is_ok, lacks}}
use Rattle.nfs_opens.specs.TableInvariants.{IsTable}
use Rattle.nfs_tree.specs.{TreeInvariants.IsTree, Bytes.has_bytes}
use Rattle.nfs_names.proofs.{Bounds.IsAnswer, Ones.is_lacked}
use Rattle.nfs_files.specs.Operation as table
use Rattle.nfs_files.specs.{Operation.grows, Open.open_file, Write.write, LockU.{lock_u, wants_memory}, SetAttr.set_attr}
use Rattle.nfs_files.proofs.{Outcomes.for_each, SetAnswers.may_set_attr, StateAnswers.{may_close, may_free, may_lock_u, may_downgrade}}
use Rattle.nfs_files.proofs.{ByteAnswers.{may_commit, may_write_bytes}, OpenAnswers.may_open, Sound.sound_item}

delay_may : (b : Bool) (s : State) (x : Context) (op : OpNum) (o : Outcome) (P : Res → Type 0)
    → P o.result → P (refusal (op_number op) (lacks s op)) → P (or_lack b s x op o).result
delay_may b s x op o P done delayed = elim (b && is_ok (status_of_result o.result)) as (λ k. P (cond k (refuses s x op (lacks s op)) o).result) [ true ↦ delayed | false ↦ done ]

-- LOCK, LOCKT, READ and TEST_STATEID put their results themselves.
abbrev pub is_plain : Item → Bool
is_plain (Operation (Op.Lock a)) = false
is_plain (Operation (Op.LockT a)) = false
is_plain (Operation (Op.Read a)) = false
is_plain (Operation (Op.TestStateid given)) = false
is_plain i = true

-- by the operation
may_come : (b : Bool) (s : State) (x : Context) (now : Time) (op : Op) → is_plain (Operation op) ≡ true
    → IfSome (table.comes_to b s x now (Operation op)) (λ o. IsAnswer (Operation op) o.result)
may_come b s x now (Op.Close a) e = may_close s x a
may_come b s x now (Op.Commit a) e = may_commit s x a
may_come b s x now (Op.FreeStateid given) e = may_free s x given
may_come b s x now (Op.Lock a) e = absurd cc
may_come b s x now (Op.LockT a) e = absurd cc
may_come b s x now (Op.LockU a) e =
    delay_may (wants_memory a && b) s x Num.LockU (lock_u s x a) (IsAnswer (Operation (Op.LockU a)))
    (may_lock_u s x a) (record { may = (refl, refl, tt); arrays = tt })
may_come b s x now (Op.Open a) e = delay_may (true && b) s x Num.Open (open_file s x now a)
    (IsAnswer (Operation (Op.Open a))) (may_open s x now a) (record { may = (refl, refl, tt); arrays = tt })
may_come b s x now (Op.OpenDowngrade a) e = may_downgrade s x a
may_come b s x now (Op.Read a) e = absurd cc
may_come b s x now (Op.SetAttr a) e =
    delay_may (grows s x (Op.SetAttr a) && b) s x Num.SetAttr (set_attr s x now a) (IsAnswer (Operation (Op.SetAttr a)))
    (may_set_attr s x now a) (record { may = (refl, refl, omega arith); arrays = tt })
may_come b s x now (Op.TestStateid given) e = absurd cc
may_come b s x now (Op.Write a) e =
    delay_may (has_bytes a.bytes && b) s x Num.Write (write s x now a) (IsAnswer (Operation (Op.Write a)))
    (may_write_bytes s x now a)
    (is_lacked (λ f. IsAnswer (Operation (Op.Write a)) (refusal 38 f)) s Num.Write (record { may = (refl, refl, tt); arrays = tt }) (record { may = (refl, refl, tt); arrays = tt }))
may_come b s x now op e = tt

may_item : (b : Bool) (s : State) (x : Context) (now : Time) (i : Item) → is_plain i ≡ true
    → IfSome (table.comes_to b s x now i) (λ o. IsAnswer i o.result)
may_item b s x now (Operation op) e = may_come b s x now op e
may_item b s x now (Fault n status) e = tt

-- What every operation whose result lends nothing keeps.
pub record Keeps (i : Item) (o : Outcome) : Type 0 where
  pub may : IsAnswer i o.result
  pub store : IsStore o.state

pub keeps : (b : Bool) (s : State) (x : Context) (now : Time) (i : Item) → is_plain i ≡ true → IsTree s.tree → IsTable s.opens → IsStore s
    → ForSome (table.comes_to b s x now i) (Keeps i)
keeps b s x now i plain tree table is o e = record {
  may = subst (λ (v : Option Outcome). IfSome v (λ o. IsAnswer i o.result)) e (may_item b s x now i plain);
  store = for_each (λ o. IsStore o.state) b s x now i (sound_item b s x now i tree table is).store o e;
}
