-- What is found under a name in a directory: the object, and the cookie of its row.
use Rattle.std.specs.Prelude.{◌≡◌, ℕ, List, Option, Some, option_map}
use Rattle.nfs_tree.specs.{declared.row.Found.Found, declared.row.Row.Row, declared.rename.Ends.Ends, Files.{Files, entry, object_named}}
use Rattle.nfs_tree.specs.Names.{Move, moved_object}

abbrev pub found_of : Row → Found
found_of r = record { object = r.object; cookie = r.cookie }

abbrev pub found_at : List Row → ℕ → List ℕ → Option Found
found_at rows d name = option_map found_of (entry rows d name)

-- what is found under the two names of a move, the first of which is there
pub record AreEnds (t : Files) (m : Move) (e : Ends) : Type 0 where
  pub moved : Some e.moved ≡ found_at t.rows m.source m.old
  pub replaced : e.replaced ≡ found_at t.rows m.target m.name
  pub object : e.moved.object ≡ moved_object t m
  pub over : option_map (λ (f : Found). f.object) e.replaced ≡ object_named t m.target m.name
