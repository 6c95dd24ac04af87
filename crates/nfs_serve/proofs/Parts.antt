-- Lists that are read into a part, or written from a front.
use Rattle.std.proofs.Common.{◌≡◌, ℕ, ◌+◌, ◌-◌, ◌≤◌, List, ◌++◌, arith, length, take, drop, slice_range, sym, ap, ◌∙◌, le_refl, drop_at, length-take-le}
use Rattle.std.proofs.{Common.{append_assoc, take-append-drop}, lemmas.Slice.take-put_mid_below, lemmas.List.take_rest}
use borrow.Rule.Slice.PartMut.{put_mid, post_of}
use lib.Seq.{take-add, take-append-le}

take_split : (a b : ℕ) (old new : List ℕ) → a ≤ b → take a new ≡ take a old → take a old ++ slice_range new a b ≡ take b new
take_split a b old new h front =
    let same : a + (b - a) ≡ b = omega arith in
    ap (λ l. l ++ slice_range new a b) (sym front) ∙ sym (take-add a (b - a) new) ∙ ap (λ n. take n new) same

slice_range-put_mid : (a k n : ℕ) (xs ys : List ℕ) → a ≤ length xs → n ≤ length ys → slice_range (put_mid a k xs ys) a (a + n) ≡ take n ys
slice_range-put_mid a k n xs ys within fits =
    let same : (a + n) - a ≡ n = omega arith in
    let after = post_of a k xs in
    ap (take ((a + n) - a)) (drop_at (take a xs) (ys ++ after) a (length-take-le a xs within))
    ∙ ap (λ m. take m (ys ++ after)) same ∙ take-append-le n ys after fits

-- what was read behind the front `a` makes that front longer
pub take-read : (a n : ℕ) (buf part : List ℕ) → a ≤ length buf → n ≤ length part
    → take a buf ++ take n part ≡ take (a + n) (put_mid a (length buf - a) buf part)
take-read a n buf part within fits =
    ap (λ l. take a buf ++ l) (sym (slice_range-put_mid a (length buf - a) n buf part within fits))
    ∙ take_split a (a + n) buf (put_mid a (length buf - a) buf part) (omega arith) (take-put_mid_below _ _ _ _ _ (le_refl _) within)

-- the front of the rest joins what is done
pub moves_front : (all done rest : List ℕ) (n : ℕ) → all ≡ done ++ rest → all ≡ (done ++ take n rest) ++ take (length rest - n) (drop n rest)
moves_front all done rest n e =
    e ∙ ap (λ l. done ++ l) (sym (take-append-drop n rest)) ∙ sym (append_assoc done (take n rest) (drop n rest))
    ∙ ap (λ l. (done ++ take n rest) ++ l) (sym (take_rest rest n))

-- a list is its front and what stands behind it
pub front_and_rest : (rest : List ℕ) (n : ℕ) → rest ≡ take n rest ++ take (length rest - n) (drop n rest)
front_and_rest rest n = sym (take-append-drop n rest) ∙ ap (λ l. take n rest ++ l) (sym (take_rest rest n))
