-- Tables, as of the clients and sessions of RFC 8881 sections 2.4 and 2.10: lists of records in rising order of their number.
use Rattle.std.specs.Prelude.{◌≡◌, ◌⊎◌, ℕ, ◌≤◌, ◌==◌, suc, not, List, [], ◌∷◌, Option, find, filter, map, if◌then◌else◌}

module _ {X : Type 0} where
  -- the numbers rise, from low on, and are below high
  abbrev pub IsRising : (X → ℕ) → ℕ → List X → ℕ → Type 0
  IsRising number low [] high = low ≤ high
  IsRising number low (x ∷ xs) high = (low ≤ number x) × IsRising number (suc (number x)) xs high

  -- the record of a number
  abbrev pub record_at : (X → ℕ) → List X → ℕ → Option X
  record_at number xs n = find (λ x. number x == n) xs

  -- the records without that of a number
  abbrev pub without_record : (X → ℕ) → List X → ℕ → List X
  without_record number xs n = filter (λ x. not (number x == n)) xs

  -- the records with that of a number changed
  abbrev pub with_record : (X → ℕ) → List X → ℕ → (X → X) → List X
  with_record number xs n change = map (λ x. if number x == n then change x else x) xs

  -- a record is one of these
  abbrev pub In : X → List X → Type 0
  In x [] = ⊥
  In x (y ∷ ys) = (x ≡ y) ⊎ In x ys
