-- The locked bytes of all files: of each file who holds which byte, and how (RFC 8881 section 9.1).
use Rattle.std.specs.{List.list_any, Prelude.{◌≡◌, ℕ, ◌==◌, Bool, true, List, [], ◌∷◌, if◌then◌else◌}}
use Rattle.nfs_ranges.specs.Holders.{Holders, LockedBytes, at, nobody}

-- for each file, each lock state by its number and each byte: how it holds the byte, if it does
abbrev pub FileHolders : Type 0
FileHolders = ℕ → Holders

abbrev pub unlocked : FileHolders
unlocked f = nobody

-- what files say, each with its locked bytes
abbrev pub held_by : List (ℕ × LockedBytes) → FileHolders
held_by [] f = nobody
held_by (e ∷ es) f = if e.0 == f then at e.1 else held_by es f

-- bytes of the file are listed
abbrev pub is_listed : ℕ → List (ℕ × LockedBytes) → Bool
is_listed f files = list_any (λ e. e.0 == f) files

-- no file is listed that was not
abbrev pub ListsNoMore : List (ℕ × LockedBytes) → List (ℕ × LockedBytes) → Type 0
ListsNoMore old new = (f : ℕ) → is_listed f new ≡ true → is_listed f old ≡ true

-- one file's holders change, all others stay
abbrev pub on_file : FileHolders → ℕ → (Holders → Holders) → FileHolders
on_file held file change f = if f == file then change (held f) else held f
