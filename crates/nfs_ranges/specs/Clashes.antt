-- Which interval stands against a wish to lock a range.
use Rattle.std.specs.Prelude.{ℕ, ◌==◌, max, nat_le, nat_lt, Bool, false, ◌&&◌, ◌||◌, if◌then◌else◌, List, [], ◌∷◌, Option, Some, None, find, option_map}
use Rattle.nfs_ranges.specs.{declared.Kind.Kind, declared.interval.Interval.Interval, declared.Held.Held, Holders.{Owned, LockedBytes}, Told.{is_write, meets}}

abbrev pub hits : Kind → ℕ → ℕ → Interval → Bool
hits kind first last x = meets kind (Some x.kind) && (nat_le first x.last && nat_le x.first last)

-- one of the intervals is held for writing
abbrev pub has_write : List Interval → Bool
has_write [] = false
has_write (x ∷ xs) = is_write x.kind || has_write xs

-- an owner's interval, as it is told
abbrev pub held_by : ℕ → Interval → Held
held_by s x = record { owner = s; kind = x.kind; first = x.first; last = x.last }

-- of one owner: its first interval that clashes
abbrev pub clash_of : ℕ → Kind → ℕ → ℕ → Owned → Option Held
clash_of s kind first last o = if o.number == s then None else option_map (held_by o.number) (find (hits kind first last) o.intervals)

-- of two that clash the one that does so on the lower byte of the range, and the first where they do so on the same
abbrev pub sooner : ℕ → Option Held → Option Held → Option Held
sooner first None c = c
sooner first (Some b) None = Some b
sooner first (Some b) (Some c) = if nat_lt (max c.first first) (max b.first first) then Some c else Some b

-- of all owners
abbrev pub tell : ℕ → Kind → ℕ → ℕ → Option Held → LockedBytes → Option Held
tell s kind first last best [] = best
tell s kind first last best (o ∷ os) = tell s kind first last (sooner first best (clash_of s kind first last o)) os
