-- What is held and what is told of a clash, as facts: `holds_any` and `told` are functions that give them (`specs/Laws.antt`).
use Rattle.std.specs.Prelude.{ℕ, ◌<◌, ◌^◌, IsSome, ◌≡◌, ◌≢◌, suc, ◌≤◌, true, false, Option, Some, None}
use Rattle.nfs_ranges.specs.{Holders.Holders, Told.clashes, declared.Kind.Kind, declared.Held.Held}

-- the lock state holds a byte of the file
abbrev pub HoldsAny : Holders → ℕ → Type 0
HoldsAny f s = (b : ℕ) × (b < 2 ^ 64) × IsSome (f s b)

-- h is what is told to lock state s, which wants first to last in this way; b is the byte at which it clashes
pub record IsTold (f : Holders) (s : ℕ) (kind : Kind) (first last : ℕ) (h : Held) (b : ℕ) : Type 0 where
  -- the least byte of the range on which anybody clashes
  pub within : (first ≤ b) × (b ≤ last)
  pub earliest : (c t : ℕ) → first ≤ c → c < b → clashes f s kind c t ≡ false
  -- of those who clash on it, the lowest number
  pub clash : clashes f s kind b h.owner ≡ true
  pub lowest : (t : ℕ) → t < h.owner → clashes f s kind b t ≡ false
  -- the greatest run of bytes round it that this one holds with the same kind
  pub round : (h.first ≤ b) × (b ≤ h.last) × (h.last < 2 ^ 64)
  pub held : (c : ℕ) → h.first ≤ c → c ≤ h.last → f h.owner c ≡ Some h.kind
  pub before : (c : ℕ) → suc c ≡ h.first → f h.owner c ≢ Some h.kind
  pub behind : suc h.last < 2 ^ 64 → f h.owner (suc h.last) ≢ Some h.kind

-- nothing is told exactly where no byte of the range clashes
abbrev pub Tells : Holders → ℕ → Kind → ℕ → ℕ → Option Held → Type 0
Tells f s kind first last None = (b t : ℕ) → first ≤ b → b ≤ last → clashes f s kind b t ≡ false
Tells f s kind first last (Some h) = (b : ℕ) × IsTold f s kind first last h b

-- no lock state from the bound on holds a byte
abbrev pub IsBelow : Holders → ℕ → Type 0
IsBelow f bound = (t b : ℕ) → bound ≤ t → f t b ≡ None
