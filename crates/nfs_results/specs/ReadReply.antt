-- The result of a compound as it is read, one result after the other.
use Rattle.std.specs.Prelude.{ℕ, zero, suc, ◌==◌, List, [], ◌∷◌, length, Bool, false, Option, Some, None, if◌then◌else◌}
use Rattle.nfs_xdr.specs.Reading.{◌>>=◌}
use Rattle.nfs_results.specs.{declared.res.Res.Res, ResultCodec.result}

-- what was read, where nothing stands behind it
abbrev pub whole : {A : Type 0} → Option (A × List ℕ) → Option A
whole read = read >>= λ x. if length x.1 == 0 then Some x.0 else None

abbrev pub is_whole : {A : Type 0} → Option (A × List ℕ) → Bool
is_whole None = false
is_whole (Some x) = length x.1 == 0

-- what is left of results that were read, n at most
abbrev pub first_of : Option (Res × List ℕ) → (List ℕ → List Res) → List Res
first_of None others = []
first_of (Some x) others = x.0 ∷ others x.1

unfoldable pub results_left : ℕ → List ℕ → List Res
results_left zero bytes = []
results_left (suc n) bytes = first_of (result.read bytes) (λ rest. results_left n rest)
