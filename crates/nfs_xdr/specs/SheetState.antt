-- What has been put on a sheet, and how many bytes it has room for.
use Rattle.std.specs.Prelude.{◌≡◌, ℕ, ◌+◌, ◌≤◌, ◌++◌, List, length}

pub record SheetState : Type 0 where
  pub bytes : List ℕ
  pub room : ℕ

abbrev pub HasRoom : SheetState → List ℕ → Type 0
HasRoom sheet more = length sheet.bytes + length more ≤ sheet.room

-- more was put at the end
pub record Puts (old new : SheetState) (more : List ℕ) : Type 0 where
  pub bytes : new.bytes ≡ old.bytes ++ more
  pub room : new.room ≡ old.room
