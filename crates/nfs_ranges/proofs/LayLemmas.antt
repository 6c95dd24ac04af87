-- Blocks laid into a gap, one after the other.
use Rattle.std.proofs.Common.{◌≡◌, ℕ, zero, suc, ◌+◌, ◌≤◌, Bool, true, cond, List, [], ◌∷◌, ◌++◌, take, drop, length, refl, ap, arith}
use Rattle.std.specs.List.{insert}

take_insert : {X : Type 0} (xs : List X) (n : ℕ) (p : X) → n ≤ length xs → take (suc n) (insert xs n p) ≡ take n xs ++ p ∷ []
take_insert xs zero p le = refl
take_insert [] (suc n) p le = absurd (omega arith)
take_insert (x ∷ xs) (suc n) p le = ap (λ ts. x ∷ ts) (take_insert xs n p (omega arith))

drop_insert : {X : Type 0} (xs : List X) (n : ℕ) (p : X) → n ≤ length xs → drop (suc n) (insert xs n p) ≡ drop n xs
drop_insert xs zero p le = refl
drop_insert [] (suc n) p le = absurd (omega arith)
drop_insert (x ∷ xs) (suc n) p le = drop_insert xs n p (omega arith)

pub laid_before : {X : Type 0} (xs ys : List X) (n : ℕ) (p : X) (ok : Bool) → ok ≡ true → ys ≡ cond ok (insert xs n p) xs → n ≤ length xs → take (n + 1) ys ≡
    take n xs ++ p ∷ []
laid_before xs ys n p ok done e le = let next : n + 1 ≡ suc n = omega arith in rw (e, done, next) (take_insert xs n p le)

pub laid_behind : {X : Type 0} (xs ys : List X) (n m : ℕ) (p : X) (ok : Bool) → ok ≡ true → ys ≡ cond ok (insert xs n p) xs → n ≤ length xs → m ≡ n →
    drop (m + 1) ys ≡ drop m xs
laid_behind xs ys n m p ok done e le same = let next : n + 1 ≡ suc n = omega arith in rw (same, e, done, next) (drop_insert xs n p le)
