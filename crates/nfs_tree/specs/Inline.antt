-- How the bytes of a name lie: in place where it is short.
use Rattle.std.specs.Prelude.{ℕ, ◌≤◌, ⊤, List, take}
use Rattle.nfs_tree.specs.{declared.name.Kept.Kept, declared.name.Kept.TheVariants.{Short, Long}}

abbrev pub name_of : Kept → List ℕ
name_of (Short len bytes) = take len bytes
name_of (Long bytes) = bytes.value.items

abbrev pub IsShort : Kept → Type 0
IsShort (Short len bytes) = len ≤ 22
IsShort (Long bytes) = ⊤
