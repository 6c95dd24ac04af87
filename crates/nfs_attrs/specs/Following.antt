-- Whether a text stands at the front of bytes.
use Rattle.std.specs.Prelude.{◌≡◌, ◌≢◌, ℕ, List, ◌++◌, Bool, true, false}

-- it does, and behind it stand the new bytes; or it does not, whatever should follow
abbrev pub Follows : Bool → List ℕ → List ℕ → List ℕ → Type 0
Follows true text old new = old ≡ text ++ new
Follows false text old new = (rest : List ℕ) → old ≢ text ++ rest
