-- Lists in the order of a key: a test that passes up to some key parts them.
use Rattle.std.proofs.Common.{◌≡◌, ℕ, zero, suc, ◌<◌, ◌≤◌, Bool, true, nat_lt, nat_le, List, [], ◌∷◌, length, get_or, arith}
use Rattle.std.proofs.lemmas.Bool.{ltb-true, lt-ltb, leb-true, le-leb}
use Rattle.std.specs.List.Sorted.{IsPartitionedBy}

-- a test of keys that passes below where it passes
abbrev pub Lower : (ℕ → Bool) → Type 0
Lower q = (m n : ℕ) → m ≤ n → q n ≡ true → q m ≡ true

pub before_lower : (bound : ℕ) → Lower (λ n. nat_lt n bound)
before_lower bound m n le e = let lt = ltb-true n bound e in lt-ltb m bound (omega arith)

pub by_lower : (bound : ℕ) → Lower (λ n. nat_le n bound)
by_lower bound m n le e = let lt = leb-true n bound e in le-leb m bound (omega arith)

module _ {X : Type 0} (key : X → ℕ) where
  -- the keys rise, from low on
  abbrev pub Rises : ℕ → List X → Type 0
  Rises low [] = Unit {0}
  Rises low (x ∷ xs) = (low ≤ key x) × Rises (suc (key x)) xs

  from_low : (low : ℕ) (xs : List X) (j : ℕ) (d : X) → Rises low xs → j < length xs → low ≤ key (get_or xs j d)
  from_low low [] j d up lt = absurd (omega arith)
  from_low low (x ∷ xs) zero d up lt = up.0
  from_low low (x ∷ xs) (suc j) d up lt = let here = up.0 in let rest = from_low (suc (key x)) xs j d up.1 (omega arith) in omega arith

  in_order : (low : ℕ) (xs : List X) (i j : ℕ) (d : X) → Rises low xs → i ≤ j → j < length xs → key (get_or xs i d) ≤ key (get_or xs j d)
  in_order low [] i j d up le lt = absurd (omega arith)
  in_order low (x ∷ xs) zero zero d up le lt = omega arith
  in_order low (x ∷ xs) zero (suc j) d up le lt = let rest = from_low (suc (key x)) xs j d up.1 (omega arith) in omega arith
  in_order low (x ∷ xs) (suc i) zero d up le lt = absurd (omega arith)
  in_order low (x ∷ xs) (suc i) (suc j) d up le lt = in_order (suc (key x)) xs i j d up.1 (omega arith) (omega arith)

  pub rising_parted : (q : ℕ → Bool) → Lower q → (low : ℕ) (xs : List X) → Rises low xs → IsPartitionedBy (λ x. q (key x)) xs
  rising_parted q lower low xs up i j d le lt e = lower (key (get_or xs i d)) (key (get_or xs j d)) (in_order low xs i j d up le lt) e
