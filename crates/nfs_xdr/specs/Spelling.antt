-- The spelling of each kind of item (RFC 4506): a whole number of words of four bytes, big-endian.
use Rattle.std.specs.{Prelude.{ℕ, ◌-◌, ◌%◌, List, ◌++◌, length, Bool, true, false, replicate}, Int.{w32, w64, to_be_bytes}}

-- an unsigned int or an enum (sections 4.2 and 4.3)
unfoldable pub number : ℕ → List ℕ
number n = to_be_bytes w32 n

-- an unsigned hyper (section 4.5)
unfoldable pub hyper : ℕ → List ℕ
hyper n = to_be_bytes w64 n

-- a bool (section 4.4)
abbrev pub flag : Bool → List ℕ
flag false = number 0
flag true = number 1

-- how many zero bytes fill the last word of n bytes
abbrev pub padding : ℕ → ℕ
padding n = (4 - n % 4) % 4

-- an opaque of a length that is known (section 4.9)
abbrev pub fixed : List ℕ → List ℕ
fixed bytes = bytes ++ replicate (padding (length bytes)) 0

-- an opaque with its length in front (section 4.10)
abbrev pub opaque : List ℕ → List ℕ
opaque bytes = number (length bytes) ++ fixed bytes
