-- Two walks along the fragments of one stream stop at one place.
use Rattle.std.proofs.Common.{◌≡◌, ℕ, ◌+◌, ◌<◌, ◌≤◌, ◌^◌, Bool, true, false, List, [], ◌∷◌, ◌++◌, length, take, drop, refl, sym, ap, subst, ◌∙◌, append_assoc}
use Rattle.std.proofs.{Common.arith, lemmas.Option.some_pair_parts, lemmas.List.{take_at, drop_at, length-append}}
use Rattle.nfs_xdr.specs.{Spelling.number, Reading.number_at, Limits.most_record}
use Rattle.nfs_xdr.proofs.{CodecLaws.is_number, Putting.length_number}
use Rattle.nfs_rpc.specs.RecordMarking.{spell_mark, fragments, joined}

number_same : (k j : ℕ) (xs ys : List ℕ) → k < 2 ^ 32 → j < 2 ^ 32 → number k ++ xs ≡ number j ++ ys → (k ≡ j) × (xs ≡ ys)
number_same k j xs ys small smaller e = some_pair_parts k j xs ys (sym (is_number.again k xs small) ∙ ap number_at e ∙ is_number.again j ys smaller)

word_of : Bool → ℕ → ℕ
word_of false n = n
word_of true n = 2147483648 + n

word_spelled : (b : Bool) (n : ℕ) → spell_mark b n ≡ number (word_of b n)
unfolding word_of
word_spelled false n = refl
word_spelled true n = refl

word_small : (b : Bool) (n : ℕ) → n < 2147483648 → word_of b n < 2 ^ 32
unfolding word_of
word_small false n lt = omega (arith, lt)
word_small true n lt = omega (arith, lt)

word_parts : (a b : Bool) (n m : ℕ) → n < 2147483648 → m < 2147483648 → word_of a n ≡ word_of b m → (a ≡ b) × (n ≡ m)
unfolding word_of
word_parts false false n m p q e = (refl, e)
word_parts false true n m p q e = absurd (omega (arith, p, e))
word_parts true false n m p q e = absurd (omega (arith, q, e))
word_parts true true n m p q e = (refl, omega (arith, e))

length_mark : (b : Bool) (n : ℕ) → length (spell_mark b n) ≡ 4
length_mark false n = length_number n
length_mark true n = length_number (2147483648 + n)

-- a mark is read in one way
pub mark_same : (a b : Bool) (n m : ℕ) (xs ys : List ℕ) → n < 2147483648 → m < 2147483648
    → spell_mark a n ++ xs ≡ spell_mark b m ++ ys → (a ≡ b) × (n ≡ m) × (xs ≡ ys)
mark_same a b n m xs ys p q e =
    let words = number_same (word_of a n) (word_of b m) xs ys (word_small a n p) (word_small b m q)
    (ap (λ w. w ++ xs) (sym (word_spelled a n)) ∙ e ∙ ap (λ w. w ++ ys) (word_spelled b m)) in
    let parts = word_parts a b n m p q words.0 in
    (parts.0, parts.1, words.1)

pub append_same : (a b xs ys : List ℕ) → length a ≡ length b → a ++ xs ≡ b ++ ys → (a ≡ b) × (xs ≡ ys)
append_same a b xs ys len e = (
  sym (take_at a xs (length b) len) ∙ ap (take (length b)) e ∙ take_at b ys (length b) refl,
  sym (drop_at a xs (length b) len) ∙ ap (drop (length b)) e ∙ drop_at b ys (length b) refl,
)

-- behind n data bytes no fragment that is not the last and has room begins here
pub record Stops (n : ℕ) (tail : List ℕ) : Type 0 where
  pub none : (d left : List ℕ) → n + length d ≤ most_record → tail ≡ spell_mark false (length d) ++ (d ++ left) → ⊥

first : (d : List ℕ) (ds : List (List ℕ)) (tail : List ℕ) → fragments (d ∷ ds) ++ tail ≡ spell_mark false (length d) ++ (d ++ (fragments ds ++ tail))
first d ds tail = append_assoc (spell_mark false (length d) ++ d) (fragments ds) tail ∙ append_assoc (spell_mark false (length d)) d (fragments ds ++ tail)

pub meet : (xs ys : List (List ℕ)) (n : ℕ) (s t : List ℕ) → n + length (joined xs) ≤ most_record
    → n + length (joined ys) ≤ most_record → Stops (n + length (joined xs)) s → Stops (n + length (joined ys)) t
    → fragments xs ++ s ≡ fragments ys ++ t → (xs ≡ ys) × (s ≡ t)
meet [] [] n s t fits fit p q e = (refl, e)
meet [] (d ∷ ys) n s t fits fit p q e = absurd (p.none d (fragments ys ++ t) (omega (arith, fit, length-append d (joined ys))) (e ∙ first d ys t))
meet (d ∷ xs) [] n s t fits fit p q e = absurd (q.none d (fragments xs ++ s) (omega (arith, fits, length-append d (joined xs))) (sym e ∙ first d xs s))
meet (d ∷ xs) (g ∷ ys) n s t fits fit p q e =
    let long = length-append d (joined xs) in
    let longer = length-append g (joined ys) in
    let m = mark_same false false (length d) (length g) (d ++ (fragments xs ++ s)) (g ++ (fragments ys ++ t))
    (omega (arith, fits, long)) (omega (arith, fit, longer)) (sym (first d xs s) ∙ e ∙ first g ys t) in
    let same = append_same d g (fragments xs ++ s) (fragments ys ++ t) m.1 m.2 in
    let there : n + length (joined (d ∷ xs)) ≡ (n + length d) + length (joined xs) = omega (arith, long) in
    let here : n + length (joined (g ∷ ys)) ≡ (n + length d) + length (joined ys) = omega (arith, longer, m.1) in
    let rest = meet xs ys (n + length d) s t (omega (arith, there, fits)) (omega (arith, here, fit))
    (subst (λ k. Stops k s) there p) (subst (λ k. Stops k t) here q) same.1 in
    (ap (λ x. x ∷ xs) same.0 ∙ ap (λ zs. g ∷ zs) rest.0, rest.1)

-- the last fragment
pub stops_final : (n : ℕ) (final left : List ℕ) → n + length final ≤ most_record → Stops n (spell_mark true (length final) ++ (final ++ left))
stops_final n final left fits = record {
  none = λ d behind fit e.
      let m = mark_same true false (length final) (length d) (final ++ left) (d ++ behind) (omega (arith, fits)) (omega (arith, fit)) e in
      absurd (true≢false m.0);
}
  where
    true≢false : true ≡ false → ⊥
    true≢false f = cc

-- a mark that promises too much
pub stops_long : (n : ℕ) (last : Bool) (size : ℕ) (left : List ℕ) → size < 2147483648 → most_record < n + size → Stops n (spell_mark last size ++ left)
stops_long n last size left small long = record {
  none = λ d behind fit e.
      let m = mark_same last false size (length d) left (d ++ behind) small (omega (arith, fit)) e in
      omega (arith, m.1, fit, long);
}

-- a mark that is cut
pub stops_cut : (n : ℕ) (tail : List ℕ) → length tail < 4 → Stops n tail
stops_cut n tail short = record {
  none = λ d behind fit e.
      omega (arith, short, ap length e, length-append (spell_mark false (length d)) (d ++ behind), length_mark false (length d));
}

-- a fragment that is cut
pub stops_begun : (n : ℕ) (last : Bool) (begun : List ℕ) (lacking : ℕ) → n + (length begun + lacking) ≤ most_record
    → 0 < lacking → Stops n (spell_mark last (length begun + lacking) ++ begun)
stops_begun n last begun lacking fits some = record {
  none = λ d behind fit e.
      let m = mark_same last false (length begun + lacking) (length d) begun (d ++ behind) (omega (arith, fits)) (omega (arith, fit)) e in
      omega (arith, m.1, ap length m.2, length-append d behind, some);
}

-- a mark is four bytes
pub cut_is_no_mark : (tail : List ℕ) (b : Bool) (n : ℕ) (xs : List ℕ) → length tail < 4 → tail ≡ spell_mark b n ++ xs → ⊥
cut_is_no_mark tail b n xs short e = omega (arith, short, ap length e, length-append (spell_mark b n) xs, length_mark b n)
