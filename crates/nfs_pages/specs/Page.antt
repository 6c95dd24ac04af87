-- A page.
use Rattle.std.specs.Prelude.{ℕ, ◌+◌, zero, suc, List, [], ◌++◌, Bool, false, take, drop, length, slice_index_or, if◌then◌else◌}

abbrev pub page_size : ℕ
page_size = 4096

-- a page's bytes, and whether something was written there
pub record Leaf : Type 0 where
  pub bytes : List ℕ
  pub written : Bool

abbrev pub blank : Leaf
blank = record { bytes = []; written = false }

-- the page at a place of those that lie together: none where nothing was written
abbrev pub leaf_in : List Leaf → ℕ → Leaf
leaf_in e j = slice_index_or e j blank

-- its bytes, and whether something was written there
abbrev pub page_in : List Leaf → ℕ → List ℕ
page_in e j = (leaf_in e j).bytes

abbrev pub is_in : List Leaf → ℕ → Bool
is_in e j = (leaf_in e j).written

-- how many numbers below one pass a test
unfoldable pub count_below : (ℕ → Bool) → ℕ → ℕ
count_below test zero = 0
count_below test (suc n) = (if test n then 1 else 0) + count_below test n

-- bytes in place of as many from a place on
abbrev pub put_in : List ℕ → ℕ → List ℕ → List ℕ
put_in page at given = take at page ++ (given ++ drop (at + length given) page)
