-- The bytes that one lock state holds, as a list of intervals in canonical form, and how that changes.
use Rattle.std.specs.Prelude.{◌≡◌, ℕ, suc, ◌-◌, ◌<◌, ◌≤◌, ◌^◌, ◌==◌, min, max, nat_lt, Bool, true, false, ◌&&◌, if◌then◌else◌, List, [], ◌∷◌}
use Rattle.nfs_ranges.specs.{declared.Kind.Kind, declared.Kind.TheVariants.{Read, Write}, declared.interval.Interval.Interval}

abbrev pub is_same : Kind → Kind → Bool
is_same Read Read = true
is_same Read Write = false
is_same Write Read = false
is_same Write Write = true

-- y is of one kind with x and begins directly behind it
abbrev pub joins : Interval → Interval → Bool
joins x y = is_same x.kind y.kind && (suc x.last == y.first)

abbrev pub touches : Interval → List Interval → Bool
touches x [] = false
touches x (y ∷ ys) = joins x y

-- in canonical form, and from byte low on: none empty, sorted, disjoint, no two neighbours that join
abbrev pub AreFrom : ℕ → List Interval → Type 0
AreFrom low [] = Unit {0}
AreFrom low (x ∷ xs) = (low ≤ x.first) × (x.first ≤ x.last) × (x.last < 2 ^ 64) × (touches x xs ≡ false) × AreFrom (suc x.last) xs

-- a record, so that a lemma that takes it finds the list
pub record IsCanonical (xs : List Interval) : Type 0 where
  pub from : AreFrom 0 xs

-- what is left of the intervals below a byte
abbrev pub kept_below : ℕ → List Interval → List Interval
kept_below b [] = []
kept_below b (x ∷ xs) = if nat_lt x.first b then record x { last = min x.last (b - 1) } ∷ kept_below b xs else []

-- what is left of the intervals above a byte
abbrev pub kept_above : ℕ → List Interval → List Interval
kept_above b [] = []
kept_above b (x ∷ xs) = if nat_lt b x.last then record x { first = max x.first (suc b) } ∷ xs else kept_above b xs

-- an interval before others, joined with the next where they join
abbrev pub put : Interval → List Interval → List Interval
put x [] = x ∷ []
put x (y ∷ ys) = if joins x y then record x { last = y.last } ∷ ys else x ∷ y ∷ ys

-- each before the rest
abbrev pub glue : List Interval → List Interval → List Interval
glue [] ys = ys
glue (x ∷ xs) ys = put x (glue xs ys)

-- the intervals when the range is given up, and when it is held
abbrev pub without : ℕ → ℕ → List Interval → List Interval
without first last xs = glue (kept_below first xs) (kept_above last xs)

abbrev pub with_range : Interval → List Interval → List Interval
with_range m xs = glue (kept_below m.first xs) (put m (kept_above m.last xs))
