-- Bytes behind others.
use Rattle.std.proofs.{Common.{◌≡◌, ℕ, ◌+◌, List, drop}, lemmas.List.get_or-drop}
use Rattle.nfs_xdr.specs.Text.{IsBytes}

pub IsBytes-drop : (n : ℕ) (bytes : List ℕ) → IsBytes bytes → IsBytes (drop n bytes)
IsBytes-drop n bytes h = record { each = λ i. rw get_or-drop (h.each (n + i)) }

pub bytes_behind : (n : ℕ) (bytes rest : List ℕ) → IsBytes bytes → rest ≡ drop n bytes → IsBytes rest
bytes_behind n bytes rest h e = rw e (IsBytes-drop n bytes h)
