-- What every store keeps.
use Rattle.std.specs.Prelude.{◌≡◌, ◌≢◌, ℕ, true}
use Rattle.nfs_tree.specs.{Files.{Files, is_there}, Calls.{is_regular_at, IsReached}}
use Rattle.nfs_names.specs.State.{State, is_open, is_used}

-- each directory but the root has a row
abbrev pub IsRooted : Files → Type 0
IsRooted t = (n : ℕ) → IsReached t n

-- only files are open
abbrev pub AreFiles : State → Type 0
AreFiles s = (n : ℕ) → is_open s n ≡ true → is_regular_at s.tree n ≡ true

-- What every store keeps: each object is used, and only files are open.
pub record IsStore (s : State) : Type 0 where
  pub used : (n : ℕ) → is_there s.tree n ≡ true → is_used s n ≡ true
  pub files : AreFiles s

-- The same, but for one object, which may have lost its last row or its last open.
pub record IsStoreBut (s : State) (n : ℕ) : Type 0 where
  pub used : (m : ℕ) → m ≢ n → is_there s.tree m ≡ true → is_used s m ≡ true
  pub files : AreFiles s
