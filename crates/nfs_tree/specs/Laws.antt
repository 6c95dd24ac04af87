-- Laws of trees.
use Rattle.std.specs.Prelude.{◌≡◌, ◌≢◌, ◌↔◌, ℕ, IsTrue, true, false, List, length, Some, None, Ok}
use Rattle.nfs_xdr.specs.declared.time.Time.{Time}
use Rattle.nfs_tree.specs.{declared.done.Created.Created, declared.done.Removed.Removed, declared.sets.Sets.Sets}
use Rattle.nfs_tree.specs.{Files.{Files, root, is_directory_at, object_named, links_in, has_row, has_entries}, Create.New, Calls.{create, remove}}
use Rattle.nfs_tree.specs.{Names.is_at_or_below, Walks.{IsWellFormed, walk}, TreeInvariants.IsTree}

-- what every tree keeps makes it well formed
abbrev pub TreesAreWellFormed : Type 0
TreesAreWellFormed = (t : Files) → IsTree t → IsWellFormed t

-- behind CREATE the name is that of the new object
abbrev pub CreatedIsFound : Type 0
CreatedIsFound = (t : Files) (d : ℕ) (name : List ℕ) (new : New) (sets : Sets) (now : Time) (made : Created)
    → (create t d name new sets now).answer ≡ Ok made → object_named (create t d name new sets now).after d name ≡ Some made.number

-- behind REMOVE no object has the name
abbrev pub RemovedIsAbsent : Type 0
RemovedIsAbsent = (t : Files) (d : ℕ) (name : List ℕ) (now : Time) (gone : Removed)
    → (remove t d name now).answer ≡ Ok gone → object_named (remove t d name now).after d name ≡ None

-- what REMOVE takes a name from has no entries, and is not the root
abbrev pub RemovedIsEmpty : Type 0
RemovedIsEmpty = (t : Files) (d : ℕ) (name : List ℕ) (now : Time) (gone : Removed) → IsTree t
    → (remove t d name now).answer ≡ Ok gone → (has_entries (remove t d name now).after.rows gone.number ≡ false) × (gone.number ≢ root)

-- an object has no row and no entries, and is not the root
pub record IsUnused (t : Files) (n : ℕ) : Type 0 where
  pub unnamed : has_row t.rows n ≡ false
  pub empty : has_entries t.rows n ≡ false
  pub other : n ≢ root

-- REMOVE of the name under which CREATE has just made an object leaves it so
abbrev pub NewIsUnused : Type 0
NewIsUnused = (t : Files) (d : ℕ) (name : List ℕ) (new : New) (sets : Sets) (now later : Time) (made : Created) (gone : Removed)
    → IsTree t → (create t d name new sets now).answer ≡ Ok made → (remove (create t d name new sets now).after d name later).answer ≡ Ok gone
    → (gone.number ≡ made.number) × IsUnused (remove (create t d name new sets now).after d name later).after made.number

-- an object without links has no row
abbrev pub UnlinkedIsUnnamed : Type 0
UnlinkedIsUnnamed = (t : Files) (n : ℕ) → (links_in t.rows n ≡ 0) ↔ (has_row t.rows n ≡ false)

-- going up from a directory meets an object just where names lead from that object to the directory
abbrev pub BelowIsReached : Type 0
BelowIsReached = (t : Files) (top d : ℕ) → IsTree t → is_directory_at t d ≡ true
    → IsTrue (is_at_or_below t.rows top (length t.rows) d) ↔ ((names : List (List ℕ)) × (walk t.rows top names ≡ Some d))
