-- The errors of RFC 8881 section 15 and RFC 5531 section 9 as checks in the order written: each is a test and what it answers where the test holds.
-- The first that holds decides.
use Rattle.std.specs.Prelude.{Bool, List, [], ◌∷◌, Option, Some, None, Result, Ok, Err, if◌then◌else◌}

abbrev pub first_fault : {F : Type 0} → List (Bool × F) → Option F
first_fault [] = None
first_fault (check ∷ checks) = if check.0 then Some check.1 else first_fault checks

-- what a function that only judges answers
abbrev pub judged : {F : Type 0} → Option F → Result (Unit {0}) F
judged None = Ok tt
judged (Some fault) = Err fault
