-- Entries of an index, as the pairs that contracts see.
use Rattle.std.proofs.Common.{◌≡◌, Bool, List, [], ◌∷◌, map, refl, ap, inl, inr}
use Rattle.std.proofs.lemmas.Bool.{cases_Bool}
use Rattle.std.specs.Option.{option_map}
use Rattle.nfs_xdr.proofs.Lists.{map_in}
use Rattle.nfs_opens.specs.{declared.index.Pair.Pair, Blocks.{IsParted, found, added, removed}}

module _ {X : Type 0} (pair : X → Pair) where
  pub parted_map : (p : Pair → Bool) (xs : List X) → IsParted p (map pair xs) → IsParted (λ x. p (pair x)) xs
  parted_map p [] parted = tt
  parted_map p (x ∷ xs) parted = ((λ y there. parted.0 (pair y) (map_in pair xs y there)), parted_map p xs parted.1)

  pub found_map : (p is : Pair → Bool) (xs : List X) → found p is (map pair xs) ≡ option_map pair (found (λ x. p (pair x)) (λ x. is (pair x)) xs)
  found_map p is [] = refl
  found_map p is (x ∷ xs) = elim (cases_Bool (p (pair x))) [
    | inl on ↦ rw on (found_map p is xs)
    | inr off ↦ elim (cases_Bool (is (pair x))) [ inl here ↦ rw (off, here) refl | inr other ↦ rw (off, other) refl ]
  ]

  pub added_map : (p : Pair → Bool) (new : X) (xs : List X) → map pair (added (λ x. p (pair x)) new xs) ≡ added p (pair new) (map pair xs)
  added_map p new [] = refl
  added_map p new (x ∷ xs) = elim (cases_Bool (p (pair x))) [
    | inl on ↦ rw on (ap (λ (ps : List Pair). pair x ∷ ps) (added_map p new xs))
    | inr off ↦ rw off refl
  ]

  pub removed_map : (p is : Pair → Bool) (xs : List X) → map pair (removed (λ x. p (pair x)) (λ x. is (pair x)) xs) ≡ removed p is (map pair xs)
  removed_map p is [] = refl
  removed_map p is (x ∷ xs) = elim (cases_Bool (p (pair x))) [
    | inl on ↦ rw on (ap (λ (ps : List Pair). pair x ∷ ps) (removed_map p is xs))
    | inr off ↦ elim (cases_Bool (is (pair x))) [ inl here ↦ rw (off, here) refl | inr other ↦ rw (off, other) refl ]
  ]
