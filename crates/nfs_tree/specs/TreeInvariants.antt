-- What every tree keeps: the facts of a well-formed tree in a local form, the limits and the counters.
use Rattle.std.specs.Prelude.{◌≡◌, ◌≢◌, ℕ, ◌+◌, ◌^◌, ◌<◌, ◌≤◌, zero, suc, Bool, true, List, length, Some}
use Rattle.nfs_tree.specs.declared.row.Row.{Row}
use Rattle.nfs_tree.specs.declared.stored.Stored.{Stored}
use Rattle.nfs_tree.specs.{Limits.is_limits, Stored.pages_used}
use Rattle.nfs_tree.specs.Files.{Files, root, last_count, most_links, most_of, is_name, entry, is_there, is_directory_at, links_in}
use Rattle.nfs_xdr.specs.Tables.{IsRising, In}

-- n rows lead from the root down to d
abbrev pub Grounded : List Row → ℕ → ℕ → Type 0
Grounded rows zero d = d ≡ root
Grounded rows (suc n) d = (r : Row) × In r rows × (r.object ≡ d) × Grounded rows n r.directory

-- What is kept of rows, by which objects are directories and which are there.
pub record AreRows (rows : List Row) (directories there : ℕ → Bool) : Type 0 where
  -- a row is the one found under its name
  pub found : (r : Row) → In r rows → entry rows r.directory r.name ≡ Some r
  pub stands : (r : Row) → In r rows → directories r.directory ≡ true
  pub names : (r : Row) → In r rows → there r.object ≡ true
  -- the root has no row
  pub free : (r : Row) → In r rows → r.object ≢ root
  -- a directory has one row
  pub one : (q r : Row) → In q rows → In r rows → q.object ≡ r.object → directories r.object ≡ true → q ≡ r
  -- a row's directory is reached from the root
  pub grounded : (r : Row) → In r rows → (n : ℕ) × Grounded rows n r.directory
  pub short : (r : Row) → In r rows → is_name r.name ≡ true
  pub few : (n : ℕ) → links_in rows n ≤ most_links

-- So many pages have all objects, and none of them so many that their sum could not be counted.
pub record AreSummed (objects : List Stored) (pages : ℕ) : Type 0 where
  pub few : (s : Stored) → In s objects → length s.pages < 2 ^ 52
  pub sum : pages ≡ pages_used objects

pub record IsTree (t : Files) : Type 0 where
  pub objects : IsRising (λ s. s.number) root t.objects (t.last_object + 1)
  pub cookies : IsRising (λ r. r.cookie) 3 t.rows (t.last_cookie + 1)
  pub counters : (t.last_object ≤ last_count) × (t.last_cookie ≤ last_count)
  pub few : length t.objects ≤ t.limits.objects
  -- an object has no more bytes than its type may have
  pub sized : (s : Stored) → In s t.objects → length s.bytes ≤ most_of t.limits s.object.kind
  -- what the representation allows
  pub limits : is_limits t.limits ≡ true
  pub root : is_directory_at t root ≡ true
  pub rows : AreRows t.rows (λ n. is_directory_at t n) (λ n. is_there t n)
