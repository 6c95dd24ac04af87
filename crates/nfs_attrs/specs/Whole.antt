-- What bytes spell from their first to their last.
use Rattle.std.specs.Prelude.{ℕ, List, Option, Some, None, ◌==◌, length, if◌then◌else◌}
use Rattle.nfs_xdr.specs.{Reading.{◌>>=◌}, Codec.Codec}

abbrev pub whole : {A : Type 0} → Codec A → List ℕ → Option A
whole c bytes = c.read bytes >>= λ x. if length x.1 == 0 then Some x.0 else None
