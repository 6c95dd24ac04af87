-- How many rows name each object beside its first.
use Rattle.std.specs.{Prelude.{◌≡◌, ℕ, ◌==◌, cond, unwrap_or}, BTreeMap.get, Ordering.nat_cmp}
use Rattle.nfs_tree.specs.declared.counts.Counts.{Counts}

abbrev pub further : Counts → ℕ → ℕ
further t n = unwrap_or (get nat_cmp t.counts n) 0

-- of one object it is k, and of each other what it was
abbrev pub CountsAnew : (ℕ → ℕ) → (ℕ → ℕ) → ℕ → ℕ → Type 0
CountsAnew old new n k = (m : ℕ) → new m ≡ cond (n == m) k (old m)
