-- A list that lies in blocks, each with what stands next to each other; and the intervals of one that does.
use Rattle.std.specs.Prelude.{◌≡◌, ℕ, zero, suc, take, drop, ◌++◌, nat_le, nat_lt, Bool, false, if◌then◌else◌, List, [], ◌∷◌, Option, Some, None}
use Rattle.std.specs.Option.{option_to_list}
use Rattle.nfs_ranges.specs.{declared.interval.Interval.Interval, declared.blocks.Place.Place, declared.blocks.Parts.Parts, declared.edits.Edit.Edit}
use Rattle.nfs_ranges.specs.{Intervals.IsCanonical, Owners.is_empty, Edits.{lead, head}}

-- what stands in one block behind what stands in the other
abbrev pub flat : {X : Type 0} → List (List X) → List X
flat [] = []
flat (b ∷ bs) = b ++ flat bs

-- the last of an item and those behind it
abbrev pub last_of : {X : Type 0} → X → List X → X
last_of x [] = x
last_of x (y ∷ ys) = last_of y ys

-- the last byte of the last interval
abbrev pub last_end : List Interval → ℕ
last_end [] = 0
last_end (x ∷ xs) = (last_of x xs).last

abbrev pub AreSome : {X : Type 0} → List (List X) → Type 0
AreSome [] = Unit {0}
AreSome (b ∷ bs) = (is_empty b ≡ false) × AreSome bs

-- in canonical form, and no block is empty
pub record AreBlocks (bs : List (List Interval)) : Type 0 where
  pub canonical : IsCanonical (flat bs)
  pub some : AreSome bs

abbrev pub ends_whole : ℕ → List Interval → Bool
ends_whole byte b = nat_lt (last_end b) byte

abbrev pub ends_whole_by : ℕ → List Interval → Bool
ends_whole_by byte b = nat_le (last_end b) byte

-- the first block that does not pass, or else the last one
abbrev pub spot : {X : Type 0} → (List X → Bool) → List (List X) → ℕ
spot p [] = 0
spot p (b ∷ []) = 0
spot p (b ∷ c ∷ bs) = if p b then suc (spot p (c ∷ bs)) else 0

abbrev pub block_at : {X : Type 0} → List (List X) → ℕ → List X
block_at [] i = []
block_at (b ∷ bs) zero = b
block_at (b ∷ bs) (suc i) = block_at bs i

-- the place behind the intervals that pass
pub record IsPlace (p : Interval → Bool) (bs : List (List Interval)) (place : Place) : Type 0 where
  pub front : flat (take place.block bs) ++ take place.at (block_at bs place.block) ≡ take (lead p (flat bs)) (flat bs)
  pub rest : drop place.at (block_at bs place.block) ++ flat (drop (suc place.block) bs) ≡ drop (lead p (flat bs)) (flat bs)
  pub next : head (drop place.at (block_at bs place.block)) ≡ head (drop (lead p (flat bs)) (flat bs))

-- what an edit leaves of the two blocks in which it begins and ends
abbrev pub edges : Edit → List (List Interval) → List Interval
edges e bs = take e.from.at (block_at bs e.from.block) ++
    (option_to_list e.left ++ (option_to_list e.middle ++ (option_to_list e.right ++ drop e.taken (drop e.to.at (block_at bs e.to.block)))))

-- what an edit leaves
abbrev pub spliced : Edit → List (List Interval) → List Interval
spliced e bs = flat (take e.from.block bs) ++ (take e.from.at (block_at bs e.from.block) ++ (option_to_list e.left ++ (option_to_list e.middle ++ (option_to_list e.right ++ (drop e.taken (drop e.to.at (block_at bs e.to.block)) ++ flat (drop (suc e.to.block) bs))))))

-- the intervals of a block that there may be, and that it has some
abbrev pub IsSomeIn : Option (List Interval) → Type 0
IsSomeIn None = Unit {0}
IsSomeIn (Some b) = is_empty b ≡ false

-- intervals lie in these blocks, none of which is empty
pub record ArePartsOf (xs : List Interval) (p : Parts) : Type 0 where
  pub whole : flat (option_to_list p.left ++ (option_to_list p.middle ++ option_to_list p.right)) ≡ xs
  pub some : IsSomeIn p.left × IsSomeIn p.middle × IsSomeIn p.right
