-- What no fault says of each check.
use Rattle.std.proofs.Common.{◌≡◌, Bool, true, false, cond, List, [], ◌∷◌, Option, Some, None, refl}
use Rattle.std.specs.List.{AllByRecursion}
use Rattle.nfs_xdr.specs.Checks.{first_fault}

passed : {F : Type 0} (b : Bool) (fault : F) (rest : Option F) → cond b (Some fault) rest ≡ None → (b ≡ false) × (rest ≡ None)
passed true fault rest e = absurd cc
passed false fault rest e = (refl, e)

-- where there is no fault each check passed
pub all_passed : {F : Type 0} (checks : List (Bool × F)) → first_fault checks ≡ None → AllByRecursion (λ check. check.0 ≡ false) checks
all_passed [] e = tt
all_passed (check ∷ checks) e = let here = passed check.0 check.1 (first_fault checks) e in (here.0, all_passed checks here.1)
