-- Pieces of one size.
use Rattle.std.proofs.Common.{◌≡◌, ℕ, zero, suc, ◌+◌, ◌*◌, ◌/◌, ◌<◌, ◌≤◌, List, length, take, drop, refl, ap, ◌∙◌, add-zero, sym, arith, Some}
use Rattle.std.proofs.{lemmas.Bool.le-ltb, Math.Nat.suc-mul, lemmas.Nat.div-mul-add, lemmas.List.{take-take, drop-take, length-take-le}}
use Rattle.nfs_xdr.specs.Reading.{number_at, pieces_at}
use Rattle.std.specs.Simd.{first_chunks}

suc_times : (k n : ℕ) → suc k * n ≡ n + k * n
suc_times k n = omega (arith, suc-mul k n)

chunks_of_take : (n k : ℕ) (bytes : List ℕ) → first_chunks n k (take (k * n) bytes) ≡ first_chunks n k bytes
chunks_of_take n zero bytes = refl
chunks_of_take n (suc k) bytes =
    rw (suc_times k n, take-take n (n + k * n) bytes (omega arith), drop-take n (k * n) bytes, chunks_of_take n k (drop n bytes)) refl

pub all_pieces : (n k : ℕ) (bytes front : List ℕ) → 0 < n → k * n ≤ length bytes
    → front ≡ take (k * n) bytes → first_chunks n (length front / n) front ≡ first_chunks n k bytes
all_pieces n k bytes front pos room e =
    let len : length front ≡ k * n = ap length e ∙ length-take-le (k * n) bytes room in
    let count : length front / n ≡ k = ap (λ (m : ℕ). m / n) (len ∙ sym (add-zero (k * n))) ∙ div-mul-add k n 0 pos in
    rw (count, e) (chunks_of_take n k bytes)

-- from the parts that were read
pub pieces_from : (n count : ℕ) (bytes rest front after : List ℕ) (items : List (List ℕ))
    → 0 < n → number_at bytes ≡ Some (count, rest) → count * n ≤ length rest
    → front ≡ take (count * n) rest → after ≡ drop (count * n) rest → items ≡ first_chunks n (length front / n) front → pieces_at n bytes ≡ Some (items, after)
unfolding pieces_at
pieces_from n count bytes rest front after items pos read room f a i =
    rw (read, le-ltb (length rest) (count * n) room, a, i, all_pieces n count rest front pos room f) refl
