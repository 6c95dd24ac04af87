-- Where an edit of a list of intervals begins and ends, and what stands there afterwards.
use Rattle.std.specs.Prelude.{ℕ, zero, suc, ◌-◌, nat_le, nat_lt, Bool, ◌&&◌, if◌then◌else◌, List, [], ◌∷◌, Option, Some, None}
use Rattle.nfs_ranges.specs.{declared.Kind.Kind, declared.interval.Interval.Interval, declared.interval.Edge.Edge, Intervals.is_same}

-- how many pass before the first that does not
abbrev pub lead : {X : Type 0} → (X → Bool) → List X → ℕ
lead p [] = zero
lead p (x ∷ xs) = if p x then suc (lead p xs) else zero

abbrev pub ends_before : ℕ → Interval → Bool
ends_before b x = nat_lt x.last b

abbrev pub ends_by : ℕ → Interval → Bool
ends_by b x = nat_le x.last b

-- it ends before the byte and does not touch it
abbrev pub apart_by : ℕ → Interval → Bool
apart_by b x = ends_before (b - 1) x

abbrev pub head : {X : Type 0} → List X → Option X
head [] = None
head (x ∷ xs) = Some x

-- of the interval at the beginning of a range held as k from first on: where the new interval begins, and what is kept before it
abbrev pub begin_at : Kind → ℕ → Option Interval → Edge
begin_at k first None = record { byte = first; piece = None; taken = 0 }
begin_at k first (Some x) =
    if nat_lt x.first first
    then (if is_same x.kind k then record { byte = x.first; piece = None; taken = 0 } else
    record { byte = first; piece = Some (record x { last = first - 1 }); taken = 0 })
    else record { byte = first; piece = None; taken = 0 }

-- of the interval at its end: where the new interval ends, what is kept behind it, and whether the interval is taken
abbrev pub end_at : Kind → ℕ → Option Interval → Edge
end_at k last None = record { byte = last; piece = None; taken = 0 }
end_at k last (Some z) =
    if is_same k z.kind && nat_le (z.first - 1) last
    then record { byte = z.last; piece = None; taken = 1 }
    else (if nat_le z.first last then record { byte = last; piece = Some (record z { first = suc last }); taken = 1 } else
    record { byte = last; piece = None; taken = 0 })

-- what a range that is given up leaves of the interval at its beginning, and of the one at its end
abbrev pub left_before : ℕ → Option Interval → Option Interval
left_before first None = None
left_before first (Some x) = if nat_lt x.first first then Some (record x { last = first - 1 }) else None

abbrev pub left_behind : ℕ → Option Interval → Option Interval
left_behind last None = None
left_behind last (Some z) = if nat_le z.first last then Some (record z { first = suc last }) else None
