-- The text by which a server names itself, as server owner and as scope (RFC 8881 sections 2.10.4 and 18.35).
use Rattle.std.specs.Prelude.{ℕ, ◌≤◌, List, [], ◌∷◌, length}
use Rattle.nfs_xdr.specs.Limits.{opaque_limit}

-- 1 to 1,024 bytes
abbrev pub IsOwner : List ℕ → Type 0
IsOwner text = (1 ≤ length text) × (length text ≤ opaque_limit)

-- `nfs41d`: the text of a server that is given none
abbrev pub usual_owner : List ℕ
usual_owner = 110 ∷ 102 ∷ 115 ∷ 52 ∷ 49 ∷ 100 ∷ []
