-- Which states belong to what: each stands in an index as a pair of what it belongs to, a file (RFC 8881 section 9.7) or a client (section 8.3), and its number.
use Rattle.std.specs.Prelude.{◌≡◌, ◌≢◌, ◌⊎◌, ℕ, ◌<◌, ◌≤◌, ◌==◌, nat_lt, ◌&&◌, ◌||◌, Bool, List, [], ◌∷◌, find, Option, Some, None}
use Rattle.nfs_xdr.specs.Tables.{In}
use Rattle.nfs_opens.specs.declared.index.Pair.{Pair}

-- what a state belongs to, and its number
abbrev pub pair_of : ℕ → ℕ → Pair
pair_of of number = record { of = of; number = number }

-- pairs stand in the order of what the states belong to, and of one file or client in the order of the numbers
abbrev pub Precedes : Pair → Pair → Type 0
Precedes p q = (p.of < q.of) ⊎ ((p.of ≡ q.of) × (p.number < q.number))

abbrev pub IsAscending : List Pair → Type 0
IsAscending [] = Unit {0}
IsAscending (p ∷ ps) = ((q : Pair) → In q ps → Precedes p q) × IsAscending ps

-- the pair stands before that of a number, or is that pair where it is wanted too
abbrev pub is_before : ℕ → ℕ → Bool → Pair → Bool
is_before of number too p = nat_lt p.of of || ((p.of == of) && (nat_lt p.number number || (too && (p.number == number))))

-- the lowest number behind another that belongs to a file or a client
abbrev pub IsNext : List Pair → ℕ → ℕ → Option ℕ → Type 0
IsNext ps of after (Some n) = In (pair_of of n) ps × (after < n) × ((p : Pair) → In p ps → p.of ≡ of → after < p.number → n ≤ p.number)
IsNext ps of after None = (p : Pair) → In p ps → p.of ≡ of → p.number ≤ after

-- of states in rising order of their numbers, the first behind a number of those that belong to a file or a client
abbrev pub first_behind : {X : Type 0} → (of number : X → ℕ) → (key after : ℕ) → List X → Option X
first_behind of number key after states = find (λ x. (of x == key) && nat_lt after (number x)) states

-- one more pair
pub record HasPut (ps : List Pair) (new : Pair) (qs : List Pair) : Type 0 where
  pub order : IsAscending qs
  pub put : In new qs
  pub kept : (p : Pair) → In p ps → In p qs
  pub only : (p : Pair) → In p qs → (p ≡ new) ⊎ In p ps

-- one pair less
pub record HasTaken (ps : List Pair) (old : Pair) (qs : List Pair) : Type 0 where
  pub order : IsAscending qs
  pub kept : (p : Pair) → In p ps → p ≢ old → In p qs
  pub only : (p : Pair) → In p qs → In p ps × (p ≢ old)

-- An index of states: each of them stands in it, and no other.
pub record IsIndex {X : Type 0} (of number : X → ℕ) (states : List X) (ps : List Pair) : Type 0 where
  pub order : IsAscending ps
  pub each : (x : X) → In x states → In (pair_of (of x) (number x)) ps
  pub only : (p : Pair) → In p ps → (x : X) × In x states × (of x ≡ p.of) × (number x ≡ p.number)
