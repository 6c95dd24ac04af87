-- A count that is written in its place when what it counts has been put.
use Rattle.std.proofs.Common.{◌≡◌, ℕ, ◌+◌, ◌≤◌, ◌%◌, List, ◌++◌, length, take, drop, append_assoc, refl, sym, ap, ◌∙◌, arith}
use Rattle.std.proofs.lemmas.List.{length-append, length-take-le, length-drop, take_at, take-append-le, take-append-drop, drop_at, drop-drop, drop-append-le}
use Rattle.nfs_xdr.specs.{SheetState.{SheetState, Puts}, Spelling.{number, opaque}}
use Rattle.nfs_xdr.proofs.Putting.{length_number}
use Rattle.nfs_attrs.proofs.{Whole.opaque_of_words}

-- the count over the empty one
set_front : (front empty count text : List ℕ) (at : ℕ) → length front ≡ at → length empty ≡ 4
    → take at ((front ++ empty) ++ text) ++ count ++ drop (at + 4) ((front ++ empty) ++ text) ≡ front ++ (count ++ text)
set_front front empty count text at before four =
    let past : drop (at + 4) (front ++ (empty ++ text)) ≡ text =
    sym (drop-drop 4 at (front ++ (empty ++ text))) ∙ ap (drop 4) (drop_at front (empty ++ text) at before) ∙ drop_at empty text 4 four in
    rw (append_assoc front empty text, take_at front (empty ++ text) at before, past) (append_assoc front count text)

pub counted : (old mid now : SheetState) (text : List ℕ) (at count : ℕ) → Puts old mid (number 0) → Puts mid now text → length text % 4 ≡ 0
    → at ≡ length old.bytes → count ≡ length text
    → Puts old (record now { bytes = take at now.bytes ++ number count ++ drop (at + 4) now.bytes }) (opaque text)
counted old mid now text at count first rest whole here size =
    let behind : now.bytes ≡ (old.bytes ++ number 0) ++ text = rest.bytes ∙ ap (λ (w : List ℕ). w ++ text) first.bytes in
    record {
      bytes = ap (λ (w : List ℕ). take at w ++ number count ++ drop (at + 4) w) behind
          ∙ set_front old.bytes (number 0) (number count) text at (sym here) (length_number 0)
          ∙ ap (λ (n : ℕ). old.bytes ++ (number n ++ text)) size ∙ ap (λ (w : List ℕ). old.bytes ++ w) (sym (opaque_of_words text whole));
      room = rest.room ∙ first.room;
    }

-- sheets of the same bytes and room
pub same_sheet : {bytes bytes' : List ℕ} {room room' : ℕ} → bytes ≡ bytes' → room ≡ room'
    → (let old : SheetState = record { bytes = bytes; room = room } in let new : SheetState = record { bytes = bytes'; room = room' } in old ≡ new)
same_sheet p q = rw (p, q) refl

-- a count that is written into bytes of which the first are in use
written_behind : (used rest count : List ℕ) (at : ℕ) → at + 4 ≤ length used → length count ≡ 4
    → take (length used) (take at (used ++ rest) ++ (count ++ drop (at + 4) (used ++ rest))) ≡ take at used ++ (count ++ drop (at + 4) used)
written_behind used rest count at within four =
    let front = take at used in
    let later = drop (at + 4) used in
    let whole : front ++ (count ++ (later ++ rest)) ≡ (front ++ (count ++ later)) ++ rest =
    ap (λ (w : List ℕ). front ++ w) (sym (append_assoc count later rest)) ∙ sym (append_assoc front (count ++ later) rest) in
    let size : length (front ++ (count ++ later)) ≡ length used = omega (
      arith,
      within,
      four,
      length-append front (count ++ later),
      length-append count later,
      length-take-le at used (omega (arith, within)),
      length-drop (at + 4) used,
    ) in
    rw (take-append-le at used rest (omega (arith, within)), drop-append-le (at + 4) used rest within, whole)
    (take_at (front ++ (count ++ later)) rest (length used) size)

pub written : (bytes count : List ℕ) (len at : ℕ) → at + 4 ≤ len → len ≤ length bytes → length count ≡ 4
    → take len (take at bytes ++ (count ++ drop (at + 4) bytes)) ≡ take at (take len bytes) ++ (count ++ drop (at + 4) (take len bytes))
written bytes count len at within fits four =
    let size : length (take len bytes) ≡ len = length-take-le len bytes fits in
    ap (λ (w : List ℕ). take len (take at w ++ (count ++ drop (at + 4) w))) (sym (take-append-drop len bytes))
    ∙ ap (λ (n : ℕ). take n (take at (take len bytes ++ drop len bytes) ++ (count ++ drop (at + 4) (take len bytes ++ drop len bytes)))) (sym size)
    ∙ written_behind (take len bytes) (drop len bytes) count at (omega (arith, size, within)) four
