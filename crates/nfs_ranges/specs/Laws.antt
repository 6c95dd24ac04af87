-- Laws of what is told and of what is held: facts on one side, functions that can be run on the other.
use Rattle.std.specs.Prelude.{◌≡◌, ℕ, ◌↔◌, ◌<◌, ◌≤◌, ◌^◌, Option, None, IsTrue}
use Rattle.nfs_ranges.specs.{declared.Kind.Kind, declared.Held.Held, Holders.{Holders, LockedBytes, HasNoClash, at, holding, holds_any}}
use Rattle.nfs_ranges.specs.{Facts.{HoldsAny, Tells, IsBelow}, Owners.AreCanonical, Told.told}

-- whatever is held, exactly one thing is told, and the function `told` gives it
abbrev pub ToldIsUnique : Type 0
ToldIsUnique = (f : Holders) (bound s : ℕ) (kind : Kind) (first last : ℕ) (r : Option Held) → first ≤ last → last < 2 ^ 64 → IsBelow f bound →
    Tells f s kind first last r ↔ (told f bound s kind first last ≡ r)

-- whether a lock state holds a byte is what the function `holds_any` says
abbrev pub AnyIsDecided : Type 0
AnyIsDecided = (f : Holders) (s : ℕ) → HoldsAny f s ↔ IsTrue (holds_any f s)

-- lists in canonical form that say the same of each lock state and byte are equal
abbrev pub Canonical : Type 0
Canonical = (os ps : LockedBytes) → AreCanonical os → AreCanonical ps → ((s b : ℕ) → b < 2 ^ 64 → at os s b ≡ at ps s b) → os ≡ ps

-- a lock that meets no clash brings none
abbrev pub SetKeeps : Type 0
SetKeeps = (f : Holders) (s : ℕ) (kind : Kind) (first last : ℕ) → Tells f s kind first last None → HasNoClash f → HasNoClash (holding f s kind first last)
