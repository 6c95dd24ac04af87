-- The clients of a book in the order in which they run out, and which of them is looked at.
use Rattle.std.specs.Prelude.{◌≡◌, ℕ, ◌≤◌, length, true, false, Option, Some, None, [], ◌∷◌}
use Rattle.nfs_lease.specs.Renewals.{KeptLeases, Book, leases_of, has_run_out}

-- how many leases stand
abbrev pub standing : KeptLeases → ℕ
standing kept = length kept

-- a client whose lease has run out; none where there is none
abbrev pub IsNextOut : (lease : ℕ) → Book → (now : ℕ) → Option ℕ → Type 0
IsNextOut lease b now None = (client : ℕ) → has_run_out lease b now client ≡ false
IsNextOut lease b now (Some client) = has_run_out lease b now client ≡ true

-- no renewal that stands is later
pub record IsLatest (b : Book) (now : ℕ) : Type 0 where
  pub each : (client moment : ℕ) → b client ≡ Some moment → moment ≤ now

-- the newest is not later
abbrev pub IsUpTo : ℕ → KeptLeases → Type 0
IsUpTo latest [] = Unit {0}
IsUpTo latest (e ∷ es) = e.1 ≤ latest

-- a client has one lease, and no renewal is later than one that stands before it
abbrev pub IsQueue : KeptLeases → Type 0
IsQueue [] = Unit {0}
IsQueue (e ∷ es) = (leases_of es e.0 ≡ None) × IsUpTo e.1 es × IsQueue es
