-- Locks in lists apart from their lock states: which of them a wish meets, and what is told first.
use Rattle.std.specs.Prelude.{◌≡◌, ℕ, max, ◌<◌, ◌≤◌, ◌==◌, ◌⊎◌, nat_le, not, Bool, true, false, ◌&&◌, List, [], ◌∷◌, Option, Some, None, find}
use Rattle.nfs_ranges.specs.{declared.Kind.Kind, declared.Kind.TheVariants.{Read, Write}, declared.interval.Interval.Interval, declared.Held.Held}
use Rattle.nfs_ranges.specs.{declared.listing.Wish.Wish, declared.listing.Reach.Reach, declared.listing.Part.Part, Holders.{LockedBytes, bytes_of}, Told.meets}
use Rattle.nfs_ranges.specs.Clashes.{hits, held_by}

-- the lock stands in the list
abbrev pub Has : List Held → Held → Type 0
Has [] h = ⊥
Has (x ∷ xs) h = (x ≡ h) ⊎ Has xs h

-- another lock state's, and on a byte that is wanted
abbrev pub stands_against : Wish → Held → Bool
stands_against w h = not (h.owner == w.owner) && (meets w.kind (Some h.kind) && (nat_le w.first h.last && nat_le h.first w.last))

-- of two that clash: b is told, since it clashes on a lower byte, or on the same one with a number no greater
abbrev pub IsBehind : ℕ → Held → Held → Type 0
IsBehind first b h = (max b.first first < max h.first first) ⊎ ((max b.first first ≡ max h.first first) × (b.owner ≤ h.owner))

-- the lock does not stand against the wish, or what was found is told in its place
abbrev pub Yields : Wish → Option Held → Held → Type 0
Yields w None h = stands_against w h ≡ false
Yields w (Some b) h = stands_against w h ≡ true → IsBehind w.first b h

-- what is known of locks at once: no byte lies before the first or behind the last, no number below the lowest or above the highest
pub record IsReached (r : Reach) (h : Held) : Type 0 where
  pub first : r.first ≤ h.first
  pub last : h.last ≤ r.last
  pub lowest : r.lowest ≤ h.owner
  pub highest : h.owner ≤ r.highest

-- the lock is of the part: the lock state's, and on one of the bytes
abbrev pub IsIn : Part → Held → Type 0
IsIn p h = (h.owner ≡ p.owner) × (p.first ≤ h.last) × (h.first ≤ p.last)

-- the lock is another lock state's, or holds no byte of the part
abbrev pub IsApart : Part → Held → Type 0
IsApart p h = (h.owner ≡ p.owner → ⊥) ⊎ ((h.last < p.first) ⊎ (p.last < h.first))

-- the interval in which a byte is held
abbrev pub interval_at : List Interval → ℕ → Option Interval
interval_at xs b = find (hits Write b b) xs

abbrev pub side : {X : Type 0} → Kind → X → X → X
side Read reads writes = reads
side Write reads writes = writes

-- whatever a lock state holds is listed
pub record AreListed (os : LockedBytes) (reads writes : List Held) : Type 0 where
  pub each : (s b : ℕ) (x : Interval) → Some x ≡ interval_at (bytes_of os s) b → Has (side x.kind reads writes) (held_by s x)

-- what a lock state holds of a part is listed
abbrev pub HasPart : LockedBytes → Part → List Held → List Held → Type 0
HasPart os p reads writes = (b : ℕ) (x : Interval) → p.first ≤ b → b ≤ p.last → Some x ≡ interval_at (bytes_of os p.owner) b →
    Has (side x.kind reads writes) (held_by p.owner x)
