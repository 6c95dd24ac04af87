-- What every operation keeps: its result is one that it may have, and its state is a store's.
use Rattle.std.proofs.{Common.{◌≡◌, ◌+◌, ◌≤◌, Bool, true, Option, Some, None, length, refl, ◌∙◌, ap, arith}, lemmas.List.length-append}
use Rattle.std.specs.Prelude.{IfSome}
use Rattle.nfs_xdr.specs.{declared.time.Time.Time, SheetState.{SheetState, HasRoom, Puts}}
use Rattle.nfs_compound.specs.{Arguments.arguments, OpNum.op_number, declared.op.Op.Op, declared.op.Item.Item, declared.op.Item.TheVariants.{Operation, Fault}}
use Rattle.nfs_results.specs.{declared.res.Res.Res, Results.{refusal, spell_result}, Largest.largest, ResultCodec.IsBounded}
use Rattle.nfs_names.proofs.{Bounds.{IsAnswer, Answers, answers_one}, Ones.{if_both, if_grown}, Sound.sound_item}
use Rattle.nfs_results.proofs.Lengths.{length_result}
use Rattle.nfs_tree.specs.TreeInvariants.{IsTree}
use Rattle.nfs_names.specs.{declared.context.Context.Context, State.State, StoreInvariants.IsStore, Outcome.{Outcome, lacks}, Operation.{one, grows, comes_to}}

delay_may : (s : State) (x : Context) (op : Op) → grows s x op ≡ true → IsAnswer (Operation op) (refusal (op_number (arguments op).op) (lacks s (arguments op).op))
delay_may s x (Op.Create c) e = record { may = (refl, refl, tt); arrays = tt }
delay_may s x (Op.Link name) e = record { may = (refl, refl, tt); arrays = tt }
delay_may s x (Op.Rename a) e = record { may = (refl, refl, tt); arrays = tt }
delay_may s x op e = absurd cc

may_one : (op : Op) (v : Option Outcome) → IfSome v (Answers op) → IfSome v (λ o. IsAnswer (Operation op) o.result)
may_one op None answers = tt
may_one op (Some o) answers = answers.is

pub may_come : (b : Bool) (s : State) (x : Context) (now : Time) (op : Op) → IfSome (comes_to b s x now (Operation op)) (λ o. IsAnswer (Operation op) o.result)
may_come b s x now op =
    if_grown (λ o. IsAnswer (Operation op) o.result) (grows s x op) b s x (arguments op).op (one s x now op) (delay_may s x op)
    (may_one op (one s x now op) (answers_one s x now op))

-- What every operation on names keeps.
pub record Keeps (i : Item) (o : Outcome) : Type 0 where
  pub may : IsAnswer i o.result
  pub store : IsStore o.state

pub keeps : (b : Bool) (s : State) (x : Context) (now : Time) (i : Item) → IsTree s.tree → IsStore s → IfSome (comes_to b s x now i) (Keeps i)
keeps b s x now (Operation op) tree is =
    if_both (comes_to b s x now (Operation op)) (may_come b s x now op) (sound_item b s x now (Operation op) tree is)
    (λ o may sound. record { may = may; store = sound.store })
keeps b s x now (Fault n st) tree is = tt

-- so it is within its largest size
pub within : (i : Item) (r : Res) (old new : SheetState) → IsAnswer i r → Puts old new (spell_result r) → length new.bytes ≤ length old.bytes + largest i
within i r old new is put =
    let small = length_result i r is.arrays is.may in
    omega (arith, ap length put.bytes ∙ length-append old.bytes (spell_result r))

pub bounded_may : (i : Item) (r : Res) → IsAnswer i r → IsBounded r
bounded_may (Operation op) r is = is.may.1
bounded_may (Fault n st) r is = is.may.1

pub room_may : (i : Item) (r : Res) (sheet : SheetState) → IsAnswer i r → length sheet.bytes + largest i ≤ sheet.room → HasRoom sheet (spell_result r)
room_may i r sheet is room = let small = length_result i r is.arrays is.may in omega arith
