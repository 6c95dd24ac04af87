-- The values that a mask asks for, by the numbers of the table.
use Rattle.std.proofs.Common.{◌≡◌, ℕ, suc, ◌<◌, ◌≤◌, ◌+◌, List, [], ◌∷◌, ◌++◌, length, take, drop, get_or, refl, ap, add-one, arith}
use Rattle.std.proofs.lemmas.List.{length-append, take_all}
use Rattle.nfs_attrs.proofs.Fronts.{one_more, split_at}
use Rattle.std.specs.List.{flat_map}
use Rattle.nfs_tree.specs.declared.object.Object.{Object}
use Rattle.nfs_attrs.specs.{Attributes.{attributes, values}, Value.asked_at, declared.about.About.About, declared.mask.Mask.Mask}

abbrev pub numbers : List ℕ
numbers = 0 ∷ 1 ∷ 2 ∷ 3 ∷ 4 ∷ 5 ∷ 6 ∷ 7 ∷ 8 ∷ 9 ∷ 10 ∷ 11 ∷ 19 ∷ 20 ∷ 21 ∷ 22 ∷ 23 ∷ 27 ∷ 28 ∷ 29 ∷ 30 ∷ 31 ∷ 33 ∷ 35 ∷ 36 ∷ 37 ∷ 42 ∷ 43 ∷ 44 ∷ 45 ∷ 47 ∷ 48 ∷ 51 ∷ 52 ∷ 53 ∷ 54 ∷ 55 ∷ 75 ∷ []

pub values_by_number : (asked : Mask) (a : About) (o : Object) → values asked a o ≡ flat_map (asked_at asked a o) numbers
unfolding values attributes
values_by_number asked a o = refl

-- the values of one more number
pub one_more_number : (f : ℕ → List ℕ) (i : ℕ) → i < length numbers → flat_map f (take (i + 1) numbers) ≡ flat_map f (take i numbers) ++ f (get_or numbers i 0)
one_more_number f i lt = rw add-one (one_more f numbers i 0 lt)

-- the values of all
pub all_numbers : (f : ℕ → List ℕ) (i : ℕ) → length numbers ≤ i → flat_map f (take i numbers) ≡ flat_map f numbers
all_numbers f i le = ap (flat_map f) (take_all i numbers le)

pub next_fits : (f : ℕ → List ℕ) (i : ℕ) → i < length numbers
    → length (flat_map f (take i numbers)) + length (f (get_or numbers i 0)) ≤ length (flat_map f numbers)
next_fits f i lt =
    let here = f (get_or numbers i 0) in
    let later = flat_map f (drop (suc i) numbers) in
    omega (arith, ap length (split_at f numbers i 0 lt), length-append (flat_map f (take i numbers)) (here ++ later), length-append here later)
