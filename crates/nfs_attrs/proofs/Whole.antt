-- Whether bytes are a text from their first to their last.
use Rattle.std.proofs.Common.{◌≡◌, ◌≢◌, ℕ, ◌+◌, ◌%◌, Bool, true, false, List, [], ◌∷◌, ◌++◌, length, replicate, refl, sym, ap, ◌∙◌, eqb, arith}
use Rattle.std.proofs.{lemmas.List.{append-nil, length-append}, lemmas.Bool.ne_eqb, lemmas.Slice.Eq.bytes_eq-Decides}
use Rattle.std.specs.Prelude.{bytes_eq}
use Rattle.nfs_xdr.specs.Spelling.{number, opaque, padding}
use Rattle.nfs_xdr.proofs.Putting.{length_number}

false_from : (b : Bool) → (b ≡ true → ⊥) → false ≡ b
false_from true h = absurd (h refl)
false_from false h = refl

-- nothing is left behind the text, or something is
pub all_left : (old text new : List ℕ) → old ≡ text ++ new → eqb (length new) 0 ≡ bytes_eq old text
all_left old text [] e = sym ((bytes_eq-Decides old text).1 (e ∙ append-nil text))
all_left old text (x ∷ new) e =
    let some : eqb (length (x ∷ new)) 0 ≡ false = ne_eqb (length (x ∷ new)) 0 (λ (z : length (x ∷ new) ≡ 0). omega arith) in
    some
    ∙ false_from (bytes_eq old text) (λ t.
    let same = (bytes_eq-Decides old text).0 t in
    absurd (omega (arith, ap length (sym e ∙ same), length-append text (x ∷ new))))

-- the text does not stand there at all
pub none_left : (old text : List ℕ) → ((rest : List ℕ) → old ≢ text ++ rest) → false ≡ bytes_eq old text
none_left old text lacks = false_from (bytes_eq old text) (λ t. lacks [] ((bytes_eq-Decides old text).0 t ∙ sym (append-nil text)))

-- whole words need no padding
pub opaque_of_words : (text : List ℕ) → length text % 4 ≡ 0 → opaque text ≡ number (length text) ++ text
opaque_of_words text h =
    let none : padding (length text) ≡ 0 = rw h refl in
    ap (λ (w : List ℕ). number (length text) ++ w) (ap (λ (n : ℕ). text ++ replicate n 0) none ∙ append-nil text)

pub length_of_words : (text : List ℕ) → length text % 4 ≡ 0 → length (opaque text) ≡ 4 + length text
length_of_words text h = ap length (opaque_of_words text h) ∙ length-append (number (length text)) text
    ∙ ap (λ (n : ℕ). n + length text) (length_number (length text))
