-- A session's id from its 16 bytes.
use Rattle.std.proofs.Common.{ℕ, ◌≡◌, ◌<◌, ◌≤◌, ◌++◌, inl, inr, List, take, drop, length, get_or, ap, ◌∙◌, arith, length-take-le, length-drop, take-append-drop}
use Rattle.std.proofs.{lemmas.Nat.be_bytes_8, lemmas.Bool.cases_lt, lemmas.List.{get_or-take, get_or-drop, get_or_past}}
use Rattle.std.specs.Int.{w64, to_be_bytes, from_be_bytes}

bytes_take : (bytes : List ℕ) (n : ℕ) → length bytes ≡ 16 → n ≤ 16 → ((i : ℕ) → get_or bytes i 0 < 256) → (i : ℕ) → get_or (take n bytes) i 0 < 256
bytes_take bytes n all few small i = elim (cases_lt i n) [
  | inl below ↦ rw (get_or-take n bytes i 0 below) (small i)
  | inr above ↦
      (let past : length (take n bytes) ≤ i = omega (arith, length-take-le n bytes (omega arith)) in rw (get_or_past (take n bytes) i 0 past) (omega arith))
]

bytes_drop : (bytes : List ℕ) (n : ℕ) → ((i : ℕ) → get_or bytes i 0 < 256) → (i : ℕ) → get_or (drop n bytes) i 0 < 256
bytes_drop bytes n small i = rw (get_or-drop n bytes i 0) (small _)

pub halves : (bytes : List ℕ) (front back : ℕ) → length bytes ≡ 16 → ((i : ℕ) → get_or bytes i 0 < 256)
    → front ≡ from_be_bytes w64 (take 8 bytes) → back ≡ from_be_bytes w64 (drop 8 bytes) → to_be_bytes w64 front ++ to_be_bytes w64 back ≡ bytes
halves bytes front back all small first second =
    let front_is : to_be_bytes w64 front ≡ take 8 bytes =
    be_bytes_8 (take 8 bytes) front (length-take-le 8 bytes (omega arith)) (bytes_take bytes 8 all (omega arith) small) first in
    let back_is : to_be_bytes w64 back ≡ drop 8 bytes = be_bytes_8 (drop 8 bytes) back (omega (arith, length-drop 8 bytes)) (bytes_drop bytes 8 small) second in
    ap (λ (xs : List ℕ). xs ++ to_be_bytes w64 back) front_is ∙ (ap (λ (xs : List ℕ). take 8 bytes ++ xs) back_is ∙ take-append-drop 8 bytes)
