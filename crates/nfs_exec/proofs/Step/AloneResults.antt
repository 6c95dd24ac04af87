-- An operation that stands alone: that its result is small, and what it comes to.
use Rattle.std.proofs.Common.{◌≡◌, ℕ, ◌+◌, ◌≤◌, Bool, length, Option, Some, None, refl, sym, ◌∙◌, ap, subst, arith}
use Rattle.nfs_xdr.specs.{Caller.Caller, SheetState.{SheetState, HasRoom, Puts}, declared.status.Status.Status, declared.status.Status.TheVariants.NotSupp}
use Rattle.nfs_compound.specs.{declared.op.Item.Item, declared.op.Item.TheVariants.Operation, Request.item_number, declared.op.Op.Op}
use Rattle.nfs_results.specs.{declared.res.Res.Res, Results.{spell_result, status_of_result, refusal}, ResultCodec.HasArrays}
use Rattle.nfs_names.specs.Outcome.{is_lack}
use Rattle.nfs_exec.specs.Step.{Machine.{Machine, MachineOutcome, with_result, with_refusal}, Place.place_fault}
use Rattle.nfs_exec.specs.Step.Compound.{carried_out, first_item}
use Rattle.nfs_exec.specs.Step.View.{Does, IsSmall}
use Rattle.nfs_exec.proofs.Step.Terms.{by_fault}

pub small_fits : (sheet : SheetState) (r : Res) → length sheet.bytes + 2096 ≤ sheet.room → IsSmall r → HasArrays r → HasRoom sheet (spell_result r)
small_fits sheet r room small arrays = (let long = small.1 arrays in omega (arith, room, long))

-- a result that was put
pub put_does : (m left : Machine) (declared : ℕ) (who : Caller) (now : ℕ) (i : Item) (r : Res) (s : Status) (old new : SheetState) →
    with_result left r ≡ first_item m declared who now (is_lack (status_of_result r)) i → s ≡ status_of_result r → Puts old new (spell_result r) →
    Does (first_item m declared who now (is_lack s) i) s left old new
put_does m left declared who now i r s old new is status put =
    subst (λ (t : Status). Does (first_item m declared who now (is_lack t) i) t left old new) (sym status)
    (subst (λ (o : MachineOutcome). Does o (status_of_result r) left old new) is (record { status = refl; machine = refl; put = put }))

-- the same of one operation, whatever its place
pub result_does : (o : Bool → MachineOutcome) (left : Machine) (r : Res) (s : Status) (old new : SheetState) → with_result left r ≡ o (is_lack (status_of_result r))
    → s ≡ status_of_result r → Puts old new (spell_result r) → Does (o (is_lack s)) s left old new
result_does o left r s old new is status put =
    subst (λ (t : Status). Does (o (is_lack t)) t left old new) (sym status)
    (subst (λ (u : MachineOutcome). Does u (status_of_result r) left old new) is (record { status = refl; machine = refl; put = put }))

-- an item that cannot stand in the first place
pub misplaced : (m : Machine) (declared : ℕ) (who : Caller) (now : ℕ) (refused : Bool) (i : Item) (s : Status) → place_fault declared i ≡ Some s →
    with_result m (refusal (item_number i) s) ≡ first_item m declared who now refused i
misplaced m declared who now refused i s fault = ap (λ (f : Option Status). by_fault m (item_number i) f (carried_out m who now refused i)) (sym fault)

-- what none of the four operations is
pub not_carried : (m : Machine) (who : Caller) (now : ℕ) (refused : Bool) (op : Op) →
    ((x : _) → op ≡ Op.ExchangeId x → ⊥) → ((x : _) → op ≡ Op.CreateSession x → ⊥) → ((x : _) → op ≡ Op.DestroySession x → ⊥) →
    ((x : _) → op ≡ Op.DestroyClientId x → ⊥) → with_refusal m (item_number (Operation op)) NotSupp ≡ carried_out m who now refused (Operation op)
not_carried m who now refused (Op.ExchangeId x) e c s d = absurd (e x refl)
not_carried m who now refused (Op.CreateSession x) e c s d = absurd (c x refl)
not_carried m who now refused (Op.DestroySession x) e c s d = absurd (s x refl)
not_carried m who now refused (Op.DestroyClientId x) e c s d = absurd (d x refl)
not_carried m who now refused op e c s d = refl

pub branch_done : (m left kept : Machine) (declared : ℕ) (who : Caller) (now : ℕ) (i j : Item) (r s : Res) → left ≡ kept →
    r ≡ s → i ≡ j → place_fault declared i ≡ None → with_result kept s ≡ carried_out m who now (is_lack (status_of_result s)) j →
    with_result left r ≡ first_item m declared who now (is_lack (status_of_result r)) i
branch_done m left kept declared who now i j r s same told at none is =
    ap (λ (k : Machine). with_result k r) same ∙ ap (with_result kept) told ∙ is
    ∙ ap (λ (t : Res). carried_out m who now (is_lack (status_of_result t)) j) (sym told)
    ∙ ap (carried_out m who now (is_lack (status_of_result r))) (sym at)
    ∙ ap (λ (f : Option Status). by_fault m (item_number i) f (carried_out m who now (is_lack (status_of_result r)) i)) (sym none)
