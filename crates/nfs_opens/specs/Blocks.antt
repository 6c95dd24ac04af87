-- A list that lies in blocks, none of them empty, and what a search for one of its items finds, adds, takes and changes there.
use Rattle.std.specs.Prelude.{◌≡◌, ℕ, ◌<◌, Bool, true, if◌then◌else◌, length, List, [], ◌∷◌, Option, Some, None, IfSome}
use Rattle.nfs_xdr.specs.Tables.{In}
use Rattle.nfs_ranges.specs.Blocks.{last_of, AreSome}

-- the items, and whether there is room for one more
pub record Listed (X : Type 0) : Type 0 where
  pub items : List X
  pub ready : Bool

module _ {X : Type 0} where
  -- what passes stands before what does not
  abbrev pub IsParted : (X → Bool) → List X → Type 0
  IsParted p [] = Unit {0}
  IsParted p (x ∷ xs) = ((y : X) → In y xs → p y ≡ true → p x ≡ true) × IsParted p xs

  -- the first that does not pass, if it is the one sought
  abbrev pub found : (X → Bool) → (X → Bool) → List X → Option X
  found p is [] = None
  found p is (x ∷ xs) = if p x then found p is xs else (if is x then Some x else None)

  -- a list of which the items behind those that pass are changed
  abbrev pub onward : (X → Bool) → (List X → List X) → List X → List X
  onward p change [] = change []
  onward p change (x ∷ xs) = if p x then x ∷ onward p change xs else change (x ∷ xs)

  -- one more, before the first that does not pass
  abbrev pub added : (X → Bool) → X → List X → List X
  added p new xs = onward p (λ ys. new ∷ ys) xs

  abbrev pub first_out : (X → Bool) → List X → List X
  first_out is [] = []
  first_out is (x ∷ xs) = if is x then xs else x ∷ xs

  -- the list without the one sought
  abbrev pub removed : (X → Bool) → (X → Bool) → List X → List X
  removed p is xs = onward p (first_out is) xs

  abbrev pub first_changed : (X → Bool) → (X → X) → List X → List X
  first_changed is change [] = []
  first_changed is change (x ∷ xs) = if is x then change x ∷ xs else x ∷ xs

  -- the list with the one sought changed
  abbrev pub changed : (X → Bool) → (X → Bool) → (X → X) → List X → List X
  changed p is change xs = onward p (first_changed is change) xs

  -- all of a block pass where its last does
  abbrev pub passes : (X → Bool) → List X → Bool
  passes p [] = true
  passes p (x ∷ xs) = p (last_of x xs)

  abbrev pub items_in : Option (List X) → List X
  items_in None = []
  items_in (Some b) = b

  -- blocks, none of them empty, and room for the spare one; capacity is how many there is room for
  pub record AreBlocks (bs : List (List X)) (capacity : ℕ) (spare : Option (List X)) : Type 0 where
    pub some : AreSome bs
    pub room : IfSome spare (λ s. (s ≡ []) × (length bs < capacity))
