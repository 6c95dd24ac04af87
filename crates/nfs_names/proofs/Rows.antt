-- The last checks of an operation are those of the tree, under the statuses of its faults.
use Rattle.std.proofs.Common.{◌≡◌, Bool, true, false, cond, eqb, not, List, [], ◌∷◌, ◌++◌, length, map, Option, Some, None, refl, ◌∙◌, ap, inl, inr, arith}
use Rattle.std.proofs.lemmas.Bool.{cases_Bool, ne_eqb}
use Rattle.std.specs.{Prelude.{option_map, filter}, List.list_any}
use Rattle.nfs_xdr.specs.Checks.{first_fault}
use Rattle.nfs_xdr.proofs.Lists.{any_push}
use Rattle.nfs_tree.specs.declared.fault.TreeFault.{TreeFault}
use Rattle.nfs_names.specs.Faults.{tree_fault_status, by_tree}

-- faults under other names
pub fault_map : {F G : Type 0} (f : F → G) (checks : List (Bool × F))
    → option_map f (first_fault checks) ≡ first_fault (map (λ check. (check.0, f check.1)) checks)
fault_map f [] = refl
fault_map f (check ∷ checks) = by_test check.0 (fault_map f checks)
  where
    by_test : (b : Bool) → option_map f (first_fault checks) ≡ first_fault (map (λ check. (check.0, f check.1)) checks)
        → option_map f (cond b (Some check.1) (first_fault checks)) ≡ cond b (Some (f check.1)) (first_fault (map (λ check. (check.0, f check.1)) checks))
    by_test true rest = refl
    by_test false rest = rest

-- a check that passed says nothing
pub skip : {F : Type 0} (b : Bool) (fault : F) (rest : Option F) → b ≡ false → cond b (Some fault) rest ≡ rest
skip b fault rest e = ap (λ b. cond b (Some fault) rest) e

-- one passes where some are left of those that pass
pub any_counted : {X : Type 0} (p : X → Bool) (xs : List X) → not (eqb (length (filter p xs)) 0) ≡ list_any p xs
any_counted p [] = refl
any_counted p (x ∷ xs) = elim (cases_Bool (p x)) [
  | inl passes ↦ (let some : eqb (length (x ∷ filter p xs)) 0 ≡ false = ne_eqb (length (x ∷ filter p xs)) 0 (λ e. omega arith) in rw passes (rw some refl))
  | inr fails ↦ rw fails (any_counted p xs)
]

-- none passes after a push of one that does not, where none did
pub none_pushed : {X : Type 0} (p : X → Bool) (xs : List X) (y : X) → list_any p xs ≡ false → p y ≡ false → list_any p (xs ++ y ∷ []) ≡ false
none_pushed p xs y e fails = any_push p xs y fails ∙ e

pub none_mapped : {F G : Type 0} (f : F → G) (o : Option F) → option_map f o ≡ None → o ≡ None
none_mapped f None e = refl
none_mapped f (Some fault) e = absurd cc

-- what passed the tree's checks under the statuses of its faults passed them
pub tree_passes : (checks : List (Bool × TreeFault)) → first_fault (by_tree checks) ≡ None → first_fault checks ≡ None
tree_passes checks e = none_mapped tree_fault_status (first_fault checks) (fault_map tree_fault_status checks ∙ e)
