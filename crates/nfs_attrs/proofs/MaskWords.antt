-- The words in which a mask is written.
use Rattle.std.proofs.Common.{◌≡◌, ℕ, ◌≤◌, ◌<◌, ◌+◌, ◌*◌, ◌&&◌, List, [], ◌∷◌, length, take, Bool, true, false, cond, eqb, arith}
use Rattle.std.proofs.lemmas.List.{length-append, length-take}
use Rattle.nfs_attrs.specs.Mask.{without_last_zeros}
use Rattle.std.specs.List.{flat_map}
use Rattle.nfs_xdr.specs.Spelling.{number}
use Rattle.nfs_xdr.proofs.Putting.{length_number}

pub length_numbers : (words : List ℕ) → length (flat_map number words) ≡ 4 * length words
length_numbers [] = omega arith
length_numbers (word ∷ words) = let rest = length_numbers words in omega (arith, length-append (number word) (flat_map number words), length_number word)

-- a further word fits where all do
pub further_word : (words : List ℕ) (i : ℕ) → i < length words → length (flat_map number (take i words)) + 4 ≤ length (flat_map number words)
further_word words i lt = omega (arith, length_numbers words, length_numbers (take i words), length-take i words)

length-before_zero : (b : Bool) (word : ℕ) (words : List ℕ) → length (cond b [] (word ∷ words)) ≤ length (word ∷ words)
length-before_zero true word words = omega arith
length-before_zero false word words = omega arith

pub length-without_last_zeros : (words : List ℕ) → length (without_last_zeros words) ≤ length words
length-without_last_zeros [] = omega arith
length-without_last_zeros (word ∷ words) =
    let rest = length-without_last_zeros words in
    let here = length-before_zero (eqb word 0 && eqb (length (without_last_zeros words)) 0) word (without_last_zeros words) in
    omega arith
