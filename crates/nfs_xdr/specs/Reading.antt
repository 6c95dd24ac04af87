-- What stands at the front of bytes, of the items of RFC 4506: a value and the bytes behind it, or nothing that is spelled so.
use Rattle.std.specs.Prelude.{ℕ, ◌+◌, ◌*◌, ◌==◌, List, length, take, drop, Bool, true, false, Option, Some, None, nat_lt, if◌then◌else◌}
use Rattle.std.specs.{Int.{w32, w64, from_be_bytes}, List.list_all, Simd.first_chunks}
use Rattle.nfs_xdr.specs.Spelling.{padding}

infixl 10 ◌>>=◌
abbrev pub ◌>>=◌ : {A B : Type 0} → Option A → (A → Option B) → Option B
None >>= f = None
(Some x) >>= f = f x

abbrev pub number_at : List ℕ → Option (ℕ × List ℕ)
number_at bytes = if nat_lt (length bytes) 4 then None else Some (from_be_bytes w32 (take 4 bytes), drop 4 bytes)

abbrev pub hyper_at : List ℕ → Option (ℕ × List ℕ)
hyper_at bytes = if nat_lt (length bytes) 8 then None else Some (from_be_bytes w64 (take 8 bytes), drop 8 bytes)

unfoldable pub flag_at : List ℕ → Option (Bool × List ℕ)
flag_at bytes = do
  n ← number_at bytes
  if n.0 == 0 then Some (false, n.1) else if n.0 == 1 then Some (true, n.1) else None

abbrev pub all_zero : List ℕ → Bool
all_zero bytes = list_all (λ b. b == 0) bytes

unfoldable pub fixed_at : ℕ → List ℕ → Option (List ℕ × List ℕ)
fixed_at n bytes =
    if nat_lt (length bytes) (n + padding n) then None
    else if all_zero (take (padding n) (drop n bytes)) then Some (take n bytes, drop (n + padding n) bytes)
    else None

unfoldable pub opaque_at : ℕ → List ℕ → Option (List ℕ × List ℕ)
opaque_at limit bytes = do
  n ← number_at bytes
  if nat_lt limit n.0 then None else fixed_at n.0 n.1

-- a count, and that many pieces of n bytes
unfoldable pub pieces_at : ℕ → List ℕ → Option (List (List ℕ) × List ℕ)
pieces_at n bytes = do
  count ← number_at bytes
  if nat_lt (length count.1) (count.0 * n) then None else Some (first_chunks n count.0 count.1, drop (count.0 * n) count.1)
