-- Walks along names (RFC 8881 section 4), and what holds of every tree.
use Rattle.std.specs.Prelude.{◌≡◌, ℕ, true, List, [], ◌∷◌, Option, Some, option_and_then}
use Rattle.nfs_xdr.specs.Tables.{In}
use Rattle.nfs_tree.specs.{declared.row.Row.Row, Files.{Files, root, entry, is_there, is_directory_at}}

-- the object that names lead to, from a directory
abbrev pub walk : List Row → ℕ → List (List ℕ) → Option ℕ
walk rows d [] = Some d
walk rows d (name ∷ names) = option_and_then (λ r. walk rows r.object names) (entry rows d name)

-- exactly one walk leads from the root to the object
abbrev pub HasOneWalk : List Row → ℕ → Type 0
HasOneWalk rows n = (names : List (List ℕ)) × (walk rows root names ≡ Some n) × ((others : List (List ℕ)) → walk rows root others ≡ Some n → others ≡ names)

-- Every row stands in a directory and names an object that is there; a directory with a row has one row, and one walk from the root reaches it.
pub record IsWellFormed (t : Files) : Type 0 where
  pub root : is_directory_at t root ≡ true
  pub stands : (r : Row) → In r t.rows → is_directory_at t r.directory ≡ true
  pub names : (r : Row) → In r t.rows → is_there t r.object ≡ true
  pub one_row : (q r : Row) → In q t.rows → In r t.rows → q.object ≡ r.object → is_directory_at t r.object ≡ true → q ≡ r
  pub one_walk : (r : Row) → In r t.rows → is_directory_at t r.object ≡ true → HasOneWalk t.rows r.object
