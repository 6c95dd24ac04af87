-- What no operation changes: how long a lease lasts. And numbers of opens and lock states stay below 2^64, since none is given behind the last.
use Rattle.std.proofs.{Common.{◌≡◌, ℕ, ◌≤◌, Bool, eqb, Option, Some, None, refl, ◌∙◌, ap, arith, inl, inr}, lemmas.Bool.{cases_Bool, eqb-false}}
use Rattle.std.specs.{Prelude.is_none, Option.ForSome, List.list_any}
use Rattle.nfs_xdr.specs.declared.time.Time.{Time}
use Rattle.nfs_compound.specs.declared.op.Item.{Item}
use Rattle.nfs_tree.specs.{Files.{object_named as looked_up, number_named}, Names.{with_moved, without_name}}
use Rattle.nfs_opens.specs.{declared.records.OpenState.OpenState, StateId.last_number, Table.{Table, Asked, clashes_with}, TableInvariants.IsTable}
use Rattle.nfs_opens.specs.Closing as closing
use Rattle.nfs_opens.specs.Opening as opening
use Rattle.nfs_opens.specs.Calls as calls
use Rattle.nfs_opens.proofs.StepLemmas.{number_left}
use Rattle.nfs_names.specs.{declared.context.Context.Context, State.{State, is_used, without_unused, with_tree}, Ending.with_opens, Rename.without_replaced}
use Rattle.nfs_names.specs.Operation as names
use Rattle.nfs_files.proofs.{Outcomes.comes_to, Effects.{Effect, Names, Opens, Begins, Closes, Fits, behind, table_behind}, Effected.{kept_item, kept_opens}}
use Rattle.nfs_names.proofs.{Ones.each_of, Effects.{Removes, Moves}}
use Rattle.nfs_names.proofs.Effects as names_effects
use Rattle.nfs_names.proofs.Effected as names_effected

-- no number behind the last that there can be was given
abbrev pub Few : Table → Type 0
Few t = t.last ≤ last_number

-- how long a lease lasts

unused_lease : (s : State) (n : ℕ) → (without_unused s n).lease ≡ s.lease
unused_lease s n = elim (cases_Bool (is_used s n)) [ inl stays ↦ rw stays refl | inr goes ↦ rw goes refl ]

replaced_lease : (s : State) (o : Option ℕ) → (without_replaced s o).lease ≡ s.lease
replaced_lease s None = refl
replaced_lease s (Some n) = unused_lease s n

name_lease : (s : State) (e : names_effects.Effect) → (names_effects.behind s e).lease ≡ s.lease
name_lease s (Removes d name now) = unused_lease (with_tree s (without_name s.tree d name now)) (number_named s.tree d name)
name_lease s (Moves m now) = replaced_lease (with_tree s (with_moved s.tree m now)) (looked_up s.tree m.target m.name)
name_lease s e = refl

file_lease : (s : State) (e : Effect) → (behind s e).lease ≡ s.lease
file_lease s (Names e) = name_lease s e
file_lease s (Closes n file) = unused_lease (with_opens s (closing.without_open s.opens n)) file
file_lease s e = refl

pub lease_names : (refused : Bool) (s : State) (x : Context) (now : Time) (i : Item) → ForSome (names.comes_to refused s x now i) (λ o. o.state.lease ≡ s.lease)
lease_names refused s x now i = each_of (λ o. o.state.lease ≡ s.lease) (names.comes_to refused s x now i) (names_effected.kept_item (λ t y. t.lease ≡ s.lease)
    (names_effects.of_states (λ t. t.lease ≡ s.lease) (λ t e fits is. name_lease t e ∙ is)) refused s x now i refl)

pub lease_files : (refused : Bool) (s : State) (x : Context) (now : Time) (i : Item) → (comes_to refused s x now i).state.lease ≡ s.lease
lease_files refused s x now i = kept_item (λ t. t.lease ≡ s.lease) refused s x now i (λ t e fits is. file_lease t e ∙ is) refl

-- how many numbers were given

opened_few : (t : Table) (a : Asked) (o : Option OpenState) → opening.own_open t a ≡ o → calls.open_fault t a ≡ None → Few t
    → Few (opening.opens_by t a o).after
opened_few t a (Some o) own free few = few
opened_few t a None own free few =
    let left = number_left (list_any (clashes_with a) t.opens) (is_none (opening.own_open t a)) (eqb t.last last_number) free (ap is_none own) in
    let other = eqb-false t.last last_number left in
    omega arith

table_few : (s : State) (client : ℕ) (e : Effect) → Fits s client e → Few s.opens → Few (table_behind s.opens e)
table_few s client (Opens a) fits few = opened_few s.opens a (opening.own_open s.opens a) refl fits.free few
table_few s client (Begins opened owner w) fits few = let other = fits.left in omega arith
table_few s client e fits few = few

pub few_files : (refused : Bool) (s : State) (x : Context) (now : Time) (i : Item) → IsTable s.opens → Few s.opens → Few (comes_to refused s x now i).state.opens
few_files refused s x now i table few = kept_opens Few refused s x now i (λ t e fits is. table_few t x.client e (fits table) is) few
