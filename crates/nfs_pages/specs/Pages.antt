-- How bytes lie in pages.
use Rattle.std.specs.{Prelude.{◌≡◌, ℕ, ◌+◌, ◌/◌, ◌%◌, ◌≤◌, Bool, false, unwrap_or, List, [], map, slice_index_or}, BTreeMap.get, Ordering.nat_cmp}
use Rattle.std.specs.List.{range_with_len}
use Rattle.nfs_pages.specs.{Bytes.pages_in, Page.{Leaf, page_in, is_in, count_below}, declared.pages.Pages.Pages}

-- the pages that lie together under a number
abbrev pub extent_of : Pages → ℕ → List Leaf
extent_of p k = unwrap_or (get nat_cmp p.map k) []

-- the bytes of the page of a number, and whether something was written there
abbrev pub page_of : Pages → ℕ → List ℕ
page_of p i = page_in (extent_of p (i / 64)) (i % 64)

abbrev pub is_written : Pages → ℕ → Bool
is_written p i = is_in (extent_of p (i / 64)) (i % 64)

-- byte p of the pages: what no page holds is zero
abbrev pub byte_in : (ℕ → List ℕ) → ℕ → ℕ
byte_in pages p = slice_index_or (pages (p / 4096)) (p % 4096) 0

-- all bytes
abbrev pub bytes : (ℕ → List ℕ) → ℕ → List ℕ
bytes pages size = map (byte_in pages) (range_with_len 0 size)

abbrev pub IsClean : (ℕ → List ℕ) → ℕ → Type 0
IsClean pages size = (p : ℕ) → size ≤ p → byte_in pages p ≡ 0

-- behind the end is nothing but zeros
pub record AreClean (pages : ℕ → List ℕ) (size : ℕ) : Type 0 where
  pub clean : IsClean pages size

-- no page behind so many passes a test
abbrev pub IsBelow : (ℕ → Bool) → ℕ → Type 0
IsBelow test n = (i : ℕ) → n ≤ i → test i ≡ false

-- so many pages of so many bytes pass a test, and none behind them
pub record AreCounted (test : ℕ → Bool) (size count : ℕ) : Type 0 where
  pub below : IsBelow test (pages_in size)
  pub exact : count ≡ count_below test (pages_in size)

-- more pages pass a test than did, by so many
pub record AreMore (old new : ℕ → Bool) (end more : ℕ) : Type 0 where
  pub grown : (n : ℕ) → end ≤ n → count_below new n ≡ count_below old n + more
