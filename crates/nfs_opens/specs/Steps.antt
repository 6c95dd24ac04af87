-- A call in steps: each is a check or a look-up, the first that fails decides, and the last one says what is answered and left.
use Rattle.std.specs.Prelude.{Bool, List, Result, Ok, Err, if◌then◌else◌}
use Rattle.nfs_xdr.specs.Checks.{first_fault, judged}

infixl 10 ◌>>=◌
-- What comes of what was found, if it was: a refusal stays.
abbrev pub ◌>>=◌ : {A B F : Type 0} → Result A F → (A → Result B F) → Result B F
(Err fault) >>= next = Err fault
(Ok a) >>= next = next a

-- the same of what only lets through
infixl 10 ◌>>◌
abbrev pub ◌>>◌ : {A B F : Type 0} → Result A F → Result B F → Result B F
first >> next = first >>= λ _. next

-- a check that has to hold
abbrev pub require : {F : Type 0} → Bool → F → Result (Unit {0}) F
require holds fault = if holds then Ok tt else Err fault

-- checks in their order: the first whose test holds decides
abbrev pub in_order : {F : Type 0} → List (Bool × F) → Result (Unit {0}) F
in_order checks = judged (first_fault checks)

-- a refusal, told as another caller needs it
abbrev pub map_err : {A F G : Type 0} → (F → G) → Result A F → Result A G
map_err f (Err fault) = Err (f fault)
map_err f (Ok a) = Ok a
