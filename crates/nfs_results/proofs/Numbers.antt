-- Numbers that are put one behind the other, as a loop does.
use Rattle.std.proofs.Common.{◌≡◌, ℕ, suc, ◌+◌, ◌<◌, ◌≤◌, Bool, true, false, List, ◌++◌, length, take, drop, get_or, map, subst, refl, ap, sym, ◌∙◌, arith}
use Rattle.std.proofs.{Math.Seq.drop-cons, Math.ListN.drop_of_length-le, lemmas.List.{length-append, length-map, take_all}}
use Rattle.std.proofs.lemmas.List.Folds.{flat_map-map, length-flat_map-take}
use Rattle.std.specs.{Int.{w32, from_be_bytes}, Prelude.is_some, List.flat_map}
use Rattle.nfs_xdr.specs.{Spelling.number, SheetState.{SheetState, HasRoom, Puts}, StatusCodec.status_of}
use Rattle.nfs_xdr.specs.Codec as codec
use Rattle.nfs_xdr.proofs.Putting.{length_number}
use Rattle.nfs_results.specs.Items.{are_statuses}

-- pieces of four bytes as the numbers that they spell
abbrev pub spelled : List (List ℕ) → List ℕ
spelled pieces = flat_map (λ piece. number (from_be_bytes w32 piece)) pieces

pub same_spelled : (pieces : List (List ℕ)) → flat_map number (map (from_be_bytes w32) pieces) ≡ spelled pieces
same_spelled pieces = flat_map-map number (from_be_bytes w32) pieces

pub room_for_one : (old now : SheetState) (pieces : List (List ℕ)) (i count next : ℕ) (d : List ℕ)
    → i < length pieces → HasRoom old ((codec.array codec.number).spell (map (from_be_bytes w32) pieces))
    → Puts old now (number count ++ spelled (take i pieces)) → HasRoom now (number next)
room_for_one old now pieces i count next d lt room put =
    let numbers : List ℕ = map (from_be_bytes w32) pieces in
    let one = length_number (from_be_bytes w32 (get_or pieces i d)) in
    let other = length_number next in
    omega (
      arith,
      room,
      put.room,
      ap length put.bytes,
      length-append old.bytes (number count ++ spelled (take i pieces)),
      length-append (number count)
          (spelled (take i pieces)),
      length_number count,
      length-append (number (length numbers)) (flat_map number numbers),
      length_number (length numbers),
      ap length (same_spelled pieces),
      length-flat_map-take (λ (piece : List ℕ). number (from_be_bytes w32 piece)) pieces i d lt,
      one,
      other,
    )

pub all_put : (old new : SheetState) (pieces : List (List ℕ)) (i : ℕ) → length pieces ≤ i
    → Puts old new (number (length pieces) ++ spelled (take i pieces)) → Puts old new ((codec.array codec.number).spell (map (from_be_bytes w32) pieces))
all_put old new pieces i over put =
    let text : number (length pieces) ++ spelled (take i pieces) ≡ (codec.array codec.number).spell (map (from_be_bytes w32) pieces) =
    rw (take_all i pieces over, length-map pieces (from_be_bytes w32), same_spelled pieces) refl in
    subst (λ (w : List ℕ). Puts old new w) text put

-- Going over numbers until one is no status's.

abbrev all_from : List (List ℕ) → ℕ → Bool
all_from pieces i = are_statuses (map (from_be_bytes w32) (drop i pieces))

pub no_status : (pieces : List (List ℕ)) (i : ℕ) (d : List ℕ) (all : Bool) → i < length pieces
    → is_some (status_of (from_be_bytes w32 (get_or pieces i d))) ≡ false → all_from pieces i ≡ all → false ≡ all
no_status pieces i d all lt none so_far = let one : all_from pieces i ≡ false = rw (drop-cons pieces i d lt, none) refl in sym one ∙ so_far

pub next_status : (pieces : List (List ℕ)) (i : ℕ) (d : List ℕ) (all : Bool) → i < length pieces
    → is_some (status_of (from_be_bytes w32 (get_or pieces i d))) ≡ true → all_from pieces i ≡ all → all_from pieces (i + 1) ≡ all
next_status pieces i d all lt some so_far =
    let one : all_from pieces i ≡ all_from pieces (suc i) = rw (drop-cons pieces i d lt, some) refl in
    let next : suc i ≡ i + 1 = omega arith in
    ap (λ (k : ℕ). all_from pieces k) (sym next) ∙ sym one ∙ so_far

pub last_status : (pieces : List (List ℕ)) (i : ℕ) (all : Bool) → length pieces ≤ i → all_from pieces i ≡ all → true ≡ all
last_status pieces i all over so_far = let none : all_from pieces i ≡ true = rw (drop_of_length-le pieces over) refl in sym none ∙ so_far
