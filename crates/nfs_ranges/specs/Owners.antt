-- The owners of a list, in rising order of their numbers.
use Rattle.std.specs.Prelude.{◌≡◌, ℕ, suc, ◌≤◌, ◌==◌, nat_lt, Bool, true, false, if◌then◌else◌, List, [], ◌∷◌, ◌++◌}
use Rattle.nfs_ranges.specs.{declared.interval.Interval.Interval, declared.span.Span.Span, Intervals.IsCanonical, Clashes.has_write, Holders.LockedBytes}

abbrev pub is_empty : {X : Type 0} → List X → Bool
is_empty [] = true
is_empty (x ∷ xs) = false

-- from number low on; each holds something, in canonical form
abbrev pub AreOwners : ℕ → LockedBytes → Type 0
AreOwners low [] = Unit {0}
AreOwners low (o ∷ os) = (low ≤ o.number) × (is_empty o.intervals ≡ false) × IsCanonical o.intervals × AreOwners (suc o.number) os

pub record AreCanonical (os : LockedBytes) : Type 0 where
  pub from : AreOwners 0 os

-- one owner's entry, if it holds anything
abbrev pub entry : ℕ → List Interval → LockedBytes
entry s [] = []
entry s (x ∷ xs) = record { number = s; intervals = x ∷ xs } ∷ []

-- the owner holds these intervals, in place of what it held
abbrev pub with_owner : ℕ → List Interval → LockedBytes → LockedBytes
with_owner s xs [] = entry s xs
with_owner s xs (o ∷ os) =
    if nat_lt o.number s then o ∷ with_owner s xs os else (if o.number == s then entry s xs ++ os else entry s xs ++ o ∷ os)

-- no byte before the first is held, and none behind the last
abbrev pub LieWithin : ℕ → ℕ → List Interval → Type 0
LieWithin first last [] = Unit {0}
LieWithin first last (x ∷ xs) = (first ≤ x.first) × (x.last ≤ last) × LieWithin first last xs

pub record IsSpan (first last : ℕ) (xs : List Interval) : Type 0 where
  pub each : LieWithin first last xs

-- what the span says of the intervals is so
pub record IsSpanOf (s : Span) (xs : List Interval) : Type 0 where
  pub span : IsSpan s.first s.last xs
  pub read : s.writes ≡ false → has_write xs ≡ false
