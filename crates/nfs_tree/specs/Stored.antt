-- What is kept of an object: its number, what it is, its bytes, and the pages of 4,096 bytes in which something was written that no cut has taken.
use Rattle.std.specs.Prelude.{ℕ, ◌+◌, List, [], ◌∷◌, length}
use Rattle.nfs_pages.specs.Bytes.{Content}
use Rattle.nfs_tree.specs.{declared.object.Object.Object, declared.stored.Body.Body, declared.stored.Size.Size}

pub record Stored : Type 0 where
  pub number : ℕ
  pub object : Object
  pub bytes : List ℕ
  pub pages : List ℕ

-- an object with its number
abbrev pub numbered : ℕ → Body → Stored
numbered n b = record { number = n; object = b.object; bytes = b.bytes.bytes; pages = b.bytes.pages }

-- a file's bytes or a link's text, with their pages
abbrev pub content_of : Stored → Content
content_of s = record { bytes = s.bytes; pages = s.pages }

-- how many they are
abbrev pub size_of : Content → Size
size_of c = record { bytes = length c.bytes; pages = length c.pages }

-- in how many pages of all objects something was written
abbrev pub pages_used : List Stored → ℕ
pages_used [] = 0
pages_used (s ∷ objects) = length s.pages + pages_used objects
