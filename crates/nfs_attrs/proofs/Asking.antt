-- The numbers that a mask asks for, and their values.
use Rattle.std.proofs.Common.{◌≡◌, ℕ, Bool, true, false, cond, List, [], ◌∷◌, ◌++◌, refl, sym, ap, ◌∙◌}
use Rattle.std.specs.List.{flat_map, filter}
use Rattle.nfs_tree.specs.declared.object.Object.{Object}
use Rattle.nfs_attrs.specs.{Attributes.{attributes, values, value_at}, Asked.values_of, Mask.has, declared.about.About.About}
use Rattle.nfs_attrs.specs.declared.mask.Mask.{Mask}
use Rattle.nfs_attrs.proofs.{Values.{numbers, values_by_number}}

-- what passes a test, and what is left out
pub texts_of_passed : (p : ℕ → Bool) (f : ℕ → List ℕ) (ns : List ℕ) → flat_map f (filter p ns) ≡ flat_map (λ n. cond (p n) (f n) []) ns
texts_of_passed p f [] = refl
texts_of_passed p f (n ∷ ns) = by_test (p n) (texts_of_passed p f ns)
  where
    by_test : (b : Bool) → flat_map f (filter p ns) ≡ flat_map (λ n. cond (p n) (f n) []) ns
        → flat_map f (cond b (n ∷ filter p ns) (filter p ns)) ≡ cond b (f n) [] ++ flat_map (λ n. cond (p n) (f n) []) ns
    by_test true e = ap (λ (w : List ℕ). f n ++ w) e
    by_test false e = e

pub values_of_asked : (asked : Mask) (a : About) (o : Object) → values_of (filter (has asked) numbers) a o ≡ values asked a o
values_of_asked asked a o =
    let f = λ (n : ℕ). value_at attributes n a o in
    texts_of_passed (has asked) f numbers ∙ sym (values_by_number asked a o)
