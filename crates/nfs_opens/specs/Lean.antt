-- Of which files a count is kept.
use Rattle.std.specs.Prelude.{◌≢◌, ℕ, Option, Some}
use Rattle.nfs_opens.specs.declared.counts.Count.{Count}

-- no count of nothing is kept
abbrev pub IsLean : (ℕ → Option Count) → Type 0
IsLean at = (f : ℕ) → at f ≢ Some (record { opens = 0; readers = 0; writers = 0; read_deniers = 0; write_deniers = 0 })
