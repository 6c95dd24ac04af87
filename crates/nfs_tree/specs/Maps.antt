-- How the cookies of rows lie in ordered maps: by name, by directory and by object.
use Rattle.std.specs.{Prelude.{◌≡◌, ℕ, ◌-◌, ◌<◌, ◌≤◌, ◌^◌, ◌==◌, Bool, ◌&&◌, List, length, Option, Some, option_map, is_some}, List.list_any}
use Rattle.std.specs.{Ordering.{nat_cmp, ordering_then}, declared.cmp.Ordering.Ordering, BTreeMap.is_at, Map.lookup}
use Rattle.nfs_xdr.specs.{Text.IsBytes, Tables.{IsRising, In}}
use Rattle.nfs_tree.specs.{declared.row.Row.Row, Files.{most_name, entry, links_in}}

abbrev pub pair_cmp : ℕ × ℕ → ℕ × ℕ → Ordering
pair_cmp x y = ordering_then (nat_cmp x.0 y.0) (nat_cmp x.1 y.1)

abbrev pub has_pair : List ((ℕ × ℕ) × Unit {0}) → ℕ × ℕ → Bool
has_pair pairs q = is_some (lookup (is_at (pair_cmp q)) pairs)

-- a row of this number and this cookie
abbrev pub is_pair : (Row → ℕ) → ℕ × ℕ → Row → Bool
is_pair of q r = (of r == q.0) && (r.cookie == q.1)

-- there is a pair for each row, and no other
abbrev pub ArePairs : (Row → ℕ) → List Row → (ℕ × ℕ → Bool) → Type 0
ArePairs of rows has = (q : ℕ × ℕ) → has q ≡ list_any (is_pair of q) rows

-- no two rows name the object
abbrev pub HasOneRow : List Row → ℕ → Type 0
HasOneRow rows n = (q r : Row) → In q rows → In r rows → q.object ≡ n → r.object ≡ n → q ≡ r

-- beside the first row that names an object, as many as are counted of it
abbrev pub AreCounted : List Row → (ℕ → ℕ) → Type 0
AreCounted rows more = (n : ℕ) → more n ≡ links_in rows n - 1

-- an object of one row, or of none, leaves nothing behind
abbrev pub IsLean : (ℕ → Option ℕ) → Type 0
IsLean at = (n k : ℕ) → at n ≡ Some k → 0 < k

-- rows in rising order of their cookies, each the one found under its name, and the cookies found by name
pub record AreNamed (rows : List Row) (at : ℕ → List ℕ → Option ℕ) : Type 0 where
  pub high : ℕ
  pub rising : IsRising (λ (r : Row). r.cookie) 3 rows high
  pub short : (r : Row) → In r rows → length r.name ≤ most_name
  pub few : (r : Row) → In r rows → (r.directory < 2 ^ 64) × (r.cookie < 2 ^ 64)
  pub found : (r : Row) → In r rows → entry rows r.directory r.name ≡ Some r
  pub names : (d : ℕ) (name : List ℕ) → d < 2 ^ 64 → IsBytes name → at d name ≡ option_map (λ r. r.cookie) (entry rows d name)

-- the rows, the cookies found by name, the maps of directories and of objects, and how many rows name an object beside its first
pub record AreMapped (rows : List Row) (at : ℕ → List ℕ → Option ℕ) (ls os : List ((ℕ × ℕ) × Unit {0})) (more : ℕ → ℕ) : Type 0 where
  pub named : AreNamed rows at
  pub listed : ArePairs (λ (r : Row). r.directory) rows (has_pair ls)
  pub owned : ArePairs (λ (r : Row). r.object) rows (has_pair os)
  pub counted : AreCounted rows more
