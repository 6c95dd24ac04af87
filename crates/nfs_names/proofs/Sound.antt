-- Each operation on names leaves a tree that is one, and a store that is one.
use Rattle.std.proofs.{Common.{◌≡◌, ℕ, Bool, false, not, Option, Some, None, refl, sym, ◌∙◌, inl, inr}, lemmas.Bool.{cases_Bool, eq-eqb, or_parts, false≢true}}
use Rattle.std.specs.Prelude.{◌==◌, ◌||◌, IfSome}
use Rattle.nfs_xdr.specs.declared.time.Time.{Time}
use Rattle.nfs_xdr.proofs.Lists.{none_left}
use Rattle.nfs_compound.specs.declared.op.Item.{Item}
use Rattle.nfs_tree.specs.{Files.{root, has_row, has_entries, is_entry, object_named, number_named}, Names.{with_moved, without_name}, TreeInvariants.IsTree}
use Rattle.nfs_tree.proofs.{Trees.{tree_forgets, tree_removed, remove_granted}, Put.{tree_created, tree_linked}, Moved.tree_moved}
use Rattle.nfs_names.specs.{declared.context.Context.Context, State.{State, with_tree, is_open, is_used, without_unused}, StoreInvariants.IsStore}
use Rattle.nfs_names.specs.{Rename.without_replaced, Operation.comes_to}
use Rattle.nfs_names.proofs.{StoreInvariants.{rooted, store_new, store_link, store_removed, store_moved}, Renaming.replaced_empty}
use Rattle.nfs_names.proofs.{Effects.{Effect, Makes, Links, Removes, Moves, Fits, behind, Each, of_states}, Effected.kept_item}

-- an object that is not used goes, where it has no entries
pub tree_unused : (s : State) (n : ℕ) → IsTree s.tree → (is_used s n ≡ false → has_entries s.tree.rows n ≡ false) → IsTree (without_unused s n).tree
tree_unused s n is empty = elim (cases_Bool (is_used s n)) [
  | inl stays ↦ rw stays is
  | inr goes ↦ rw goes
      (let parts = or_parts (n == root) (has_row s.tree.rows n || is_open s n) goes in
      let rows = or_parts (has_row s.tree.rows n) (is_open s n) parts.1 in
      tree_forgets s.tree n is rows.0 (empty goes) (λ same. false≢true (sym parts.0 ∙ eq-eqb n root same)))
]

tree_replaced : (s : State) (o : Option ℕ) → IsTree s.tree → ((n : ℕ) → o ≡ Some n → has_entries s.tree.rows n ≡ false) → IsTree (without_replaced s o).tree
tree_replaced s None is empty = is
tree_replaced s (Some n) is empty = tree_unused s n is (λ unused. empty n refl)

pub tree_kept : (s : State) (e : Effect) → Fits s e → IsTree s.tree → IsStore s → IsTree (behind s e).tree
tree_kept s (Makes d name new sets now) none is store = tree_created s.tree d name new sets now is none (rooted s store d)
tree_kept s (Links n d name now) none is store = tree_linked s.tree n d name now is none (rooted s store d)
tree_kept s (Removes d name now) none is store = tree_unused (with_tree s (without_name s.tree d name now)) (number_named s.tree d name)
    (tree_removed s.tree d name now is none)
    (λ unused. none_left (λ r. r.directory == number_named s.tree d name) (λ r. not (is_entry d name r)) s.tree.rows (remove_granted s.tree d name none).1)
tree_kept s (Moves m now) fits is store = tree_replaced (with_tree s (with_moved s.tree m now)) (object_named s.tree m.target m.name)
    (tree_moved s.tree m now is fits.0 fits.1 (rooted s store m.target)) (λ n found. replaced_empty s.tree m now n fits.0 fits.1 found)

pub store_kept : (s : State) (e : Effect) → IsTree s.tree → IsStore s → IsStore (behind s e)
store_kept s (Makes d name new sets now) tree is = store_new s d name new sets now is
store_kept s (Links n d name now) tree is = store_link s n d name now is
store_kept s (Removes d name now) tree is = store_removed s d name now tree is
store_kept s (Moves m now) tree is = store_moved s m now tree is

pub record IsSound (s : State) : Type 0 where
  pub tree : IsTree s.tree
  pub store : IsStore s

pub sound_kept : Each IsSound
sound_kept s e fits is = record { tree = tree_kept s e fits is.tree is.store; store = store_kept s e is.tree is.store }

pub sound_item : (b : Bool) (s : State) (x : Context) (now : Time) (i : Item) → IsTree s.tree → IsStore s → IfSome (comes_to b s x now i) (λ o. IsSound o.state)
sound_item b s x now i tree is = kept_item (λ s x. IsSound s) (of_states IsSound sound_kept) b s x now i (record { tree = tree; store = is })
