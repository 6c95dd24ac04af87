-- Owners in rising order, and groups of them: those that stand next to each other.
use Rattle.std.specs.Prelude.{◌≡◌, ℕ, zero, suc, ◌==◌, nat_lt, Bool, false, List, [], ◌∷◌, Option, Some, None}
use Rattle.nfs_ranges.specs.{declared.interval.Interval.Interval, Holders.{Owned, LockedBytes}}
use Rattle.nfs_ranges.specs.{Owners.{is_empty, AreCanonical, with_owner}, Blocks.{flat, last_of, AreSome}}

-- the owner has a lower number
abbrev pub is_below : ℕ → Owned → Bool
is_below s o = nat_lt o.number s

-- there is an owner, and it has the number
abbrev pub is_own : ℕ → Option Owned → Bool
is_own s None = false
is_own s (Some o) = o.number == s

-- the number of the last owner
abbrev pub last_number : LockedBytes → ℕ
last_number [] = 0
last_number (o ∷ os) = (last_of o os).number

-- each owner of the group has a lower number
abbrev pub are_below : ℕ → LockedBytes → Bool
are_below s g = nat_lt (last_number g) s

-- the groups in which owners lie: all of them in canonical form, and no group is empty
pub record AreKept (gs : List LockedBytes) : Type 0 where
  pub canonical : AreCanonical (flat gs)
  pub some : AreSome gs

-- the owner holds these intervals, in place of what it held
pub record IsPut (s : ℕ) (xs : List Interval) (old new : List LockedBytes) : Type 0 where
  pub some : AreSome new
  pub put : flat new ≡ with_owner s xs (flat old)

-- no group is empty, and the owners in them are the same
pub record AreSame (old new : List LockedBytes) : Type 0 where
  pub some : AreSome new
  pub same : flat new ≡ flat old

-- no group is empty but the one at the place, which may be
abbrev pub AreSomeBut : ℕ → List LockedBytes → Type 0
AreSomeBut i [] = Unit {0}
AreSomeBut zero (g ∷ gs) = AreSome gs
AreSomeBut (suc i) (g ∷ gs) = (is_empty g ≡ false) × AreSomeBut i gs
