-- What operations on names leave alone: all opens, and whose context it is.
use Rattle.std.proofs.{Common.{◌≡◌, ℕ, Bool, Option, Some, None, refl, ◌∙◌, inl, inr}, lemmas.Bool.cases_Bool}
use Rattle.std.specs.{Prelude.IfSome, Option.ForSome}
use Rattle.nfs_xdr.specs.declared.time.Time.{Time}
use Rattle.nfs_compound.specs.declared.op.Item.{Item}
use Rattle.nfs_tree.specs.{Files.{object_named, number_named}, Names.{with_moved, without_name}}
use Rattle.nfs_names.specs.{declared.context.Context.Context, State.{State, with_tree, is_used, without_unused}, Operation.comes_to, Rename.without_replaced}
use Rattle.nfs_names.proofs.{Effects.{Effect, Removes, Moves, behind, Kept}, Effected.kept_item, Ones.each_of}

pub record Leaves (s : State) (x : Context) (left : State) (behind : Context) : Type 0 where
  pub opens : left.opens ≡ s.opens
  pub client : behind.client ≡ x.client

-- an object that goes for want of use is no open
pub unused_opens : (s : State) (n : ℕ) → (without_unused s n).opens ≡ s.opens
unused_opens s n = elim (cases_Bool (is_used s n)) [ inl stays ↦ rw stays refl | inr goes ↦ rw goes refl ]

replaced_opens : (s : State) (o : Option ℕ) → (without_replaced s o).opens ≡ s.opens
replaced_opens s None = refl
replaced_opens s (Some n) = unused_opens s n

pub opens_kept : (s : State) (e : Effect) → (behind s e).opens ≡ s.opens
opens_kept s (Removes d name now) = unused_opens (with_tree s (without_name s.tree d name now)) (number_named s.tree d name)
opens_kept s (Moves m now) = replaced_opens (with_tree s (with_moved s.tree m now)) (object_named s.tree m.target m.name)
opens_kept s e = refl

leaves_kept : (s : State) (x : Context) → Kept (Leaves s x)
leaves_kept s x = record {
  effects = λ t y e fits is. record { opens = opens_kept t e ∙ is.opens; client = is.client };
  handles = λ t y z same is. record { opens = is.opens; client = same ∙ is.client };
}

pub leaves_item : (b : Bool) (s : State) (x : Context) (now : Time) (i : Item) → IfSome (comes_to b s x now i) (λ o. Leaves s x o.state o.context)
leaves_item b s x now i = kept_item (Leaves s x) (leaves_kept s x) b s x now i (record { opens = refl; client = refl })

pub leaves_each : (b : Bool) (s : State) (x : Context) (now : Time) (i : Item) → ForSome (comes_to b s x now i) (λ o. Leaves s x o.state o.context)
leaves_each b s x now i = each_of (λ o. Leaves s x o.state o.context) (comes_to b s x now i) (leaves_item b s x now i)
