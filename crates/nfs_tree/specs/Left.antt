-- What a listing has left of the pairs of a directory and a cookie, of which each row has one.
use Rattle.std.specs.{Prelude.{◌≡◌, ℕ, ◌<◌, ⊤, List, [], ◌∷◌, Option}, declared.cmp.Ordering.TheVariants.Less}
use Rattle.nfs_xdr.specs.Tables.{In}
use Rattle.nfs_tree.specs.{declared.row.Row.Row, Maps.{pair_cmp, has_pair, ArePairs, AreNamed}}

-- rows that are found by their cookies, and a pair for each, of its directory and its cookie
pub record ArePaired (rows : List Row) (pairs : List ((ℕ × ℕ) × Unit {0})) : Type 0 where
  pub at : ℕ → List ℕ → Option ℕ
  pub named : AreNamed rows at
  pub listed : ArePairs (λ (r : Row). r.directory) rows (has_pair pairs)

-- pairs that rise, from above one on
abbrev pub AreAbove : ℕ × ℕ → List ((ℕ × ℕ) × Unit {0}) → Type 0
AreAbove p [] = ⊤
AreAbove p (e ∷ es) = (pair_cmp p e.0 ≡ Less) × AreAbove e.0 es

-- pairs of rows, above a directory's cookie, and all that the directory has there
pub record AreLeft (rows : List Row) (d c : ℕ) (left : List ((ℕ × ℕ) × Unit {0})) : Type 0 where
  pub at : ℕ → List ℕ → Option ℕ
  pub named : AreNamed rows at
  pub above : AreAbove (d, c) left
  pub each : (e : (ℕ × ℕ) × Unit {0}) → In e left → (r : Row) × In r rows × (r.directory ≡ e.0.0) × (r.cookie ≡ e.0.1)
  pub all : (r : Row) → In r rows → r.directory ≡ d → c < r.cookie → In ((d, r.cookie), tt) left
