-- Fragments and their marks.
use Rattle.std.proofs.Common.{◌≡◌, ℕ, ◌+◌, ◌-◌, ◌%◌, ◌^◌, ◌<◌, Bool, true, false, leb, List, [], ◌∷◌, ◌++◌, length, refl, sym, ap, ◌∙◌, append_assoc, inl, inr}
use Rattle.std.proofs.{Common.arith, lemmas.Bool.{cases_lt, leb-true, leb-false}}
use Rattle.std.proofs.{lemmas.List.{append-nil, get_or-append-add, get_or_append_left, get_or-append_right}, lemmas.List.Concat.flat_map-append}
use Rattle.nfs_xdr.specs.{Spelling.number, Text.IsBytes}
use Rattle.nfs_rpc.specs.RecordMarking.{spell_mark, fragments, joined}

-- a whole fragment that is not the last
pub more_fragments : (before : List (List ℕ)) (d : List ℕ) → fragments (before ++ d ∷ []) ≡ fragments before ++ (spell_mark false (length d) ++ d)
more_fragments before d = flat_map-append (λ x. spell_mark false (length x) ++ x) before (d ∷ [])
    ∙ ap (λ w. fragments before ++ w) (append-nil (spell_mark false (length d) ++ d))

pub more_joined : (before : List (List ℕ)) (d : List ℕ) → joined (before ++ d ∷ []) ≡ joined before ++ d
more_joined before d = flat_map-append (λ x. x) before (d ∷ []) ∙ ap (λ w. joined before ++ w) (append-nil d)

-- a word as a mark
pub word_mark : (word : ℕ) → word < 2 ^ 32 → spell_mark (leb 2147483648 word) (word % 2147483648) ≡ number word
word_mark word lt = cases (leb 2147483648 word) refl
  where
    cases : (b : Bool) → leb 2147483648 word ≡ b → spell_mark b (word % 2147483648) ≡ number word
    cases true e = ap number (omega (arith, leb-true 2147483648 word e))
    cases false e = ap number (omega (arith, leb-false 2147483648 word e))

-- bytes behind an open fragment
pub further : (stream front head begun bytes : List ℕ) → stream ≡ front ++ (head ++ begun) → stream ++ bytes ≡ front ++ (head ++ (begun ++ bytes))
further stream front head begun bytes e = ap (λ w. w ++ bytes) e
    ∙ append_assoc front (head ++ begun) bytes ∙ ap (λ w. front ++ w) (append_assoc head begun bytes)

pub IsBytes-append : (xs ys : List ℕ) → IsBytes xs → IsBytes ys → IsBytes (xs ++ ys)
IsBytes-append xs ys h k = record {
  each = λ i.
      elim (cases_lt i (length xs)) [
        | inl lt ↦ rw (get_or_append_left xs ys 0 i lt) (h.each i)
        | inr le ↦ rw (get_or-append_right xs ys (length xs) i 0 refl le) (k.each (i - length xs))
      ];
}

pub bytes_behind_front : (front back : List ℕ) → IsBytes (front ++ back) → IsBytes back
bytes_behind_front front back h = record { each = λ i. rw (sym (get_or-append-add front back i 0)) (h.each (length front + i)) }
