-- When a codec reads what it spells, and nothing else.
use Rattle.std.specs.Prelude.{◌≡◌, ℕ, ◌<◌, ◌^◌, List, [], ◌++◌, length, Some, None, nat_lt, take, drop, if◌then◌else◌}
use Rattle.nfs_xdr.specs.{Codec.Codec, Text.IsBytes, Combinators.listed_at}

-- Reading and spelling are one another's inverse, whatever follows: what is read is spelled so and fits, and what fits
-- and is spelled so is read.
pub record IsCodec {A : Type 0} (c : Codec A) : Type 0 where
  pub takes : (bytes : List ℕ) (x : A) (rest : List ℕ) → IsBytes bytes → c.read bytes ≡ Some (x, rest) → (bytes ≡ c.spell x ++ rest) × IsBytes rest × c.Fits x
  pub again : (x : A) (rest : List ℕ) → c.Fits x → c.read (c.spell x ++ rest) ≡ Some (x, rest)

-- each value stands in the list, under a number of its own
pub record IsListing {A : Type 0} (number_of : A → ℕ) (all : List A) : Type 0 where
  pub found : (x : A) → listed_at number_of all (number_of x) ≡ Some x
  pub small : (x : A) → number_of x < 2 ^ 32

-- a value that is n bytes, whatever they are
pub record IsSized {A : Type 0} (c : Codec A) (n : ℕ) (value : List ℕ → A) : Type 0 where
  pub read : (bytes : List ℕ) → c.read bytes ≡ (if nat_lt (length bytes) n then None else Some (value (take n bytes), drop n bytes))

-- No spelling begins another of the same type, nor is it another's.
abbrev pub IsPrefixFree : {A : Type 0} → Codec A → Type 0
IsPrefixFree c = (x y : _) (rest : List ℕ) → c.Fits x → c.Fits y → c.spell x ≡ c.spell y ++ rest → (x ≡ y) × (rest ≡ [])
