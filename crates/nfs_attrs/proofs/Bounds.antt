-- How long attributes can be.
use Rattle.std.proofs.{Common.{ℕ, ◌≤◌, ◌+◌, Bool, true, false, cond, List, [], ◌∷◌, length, arith, zero, suc, ◌/◌, ◌%◌, eqb}, lemmas.List.length-append}
use Rattle.std.specs.{Fmt.{decimal, digits, digits_onto, digit_glyph}, List.flat_map}
use Rattle.nfs_xdr.specs.Spelling as spelling
use Rattle.nfs_xdr.proofs.Putting.{length_number}
use Rattle.nfs_tree.specs.{Profile.is_unix, declared.object.Object.Object, declared.profile.Profile.Profile, declared.profile.Profile.TheVariants.{Exact, Unix}}
use Rattle.nfs_attrs.specs.{Attributes.{attributes, values, supported, readable, spell_attrs}, Mask.{has, trimmed_words, common, spell_mask}, Value.asked_at}
use Rattle.nfs_attrs.specs.{Wire.bitmap4, declared.about.About.About, declared.mask.Mask.Mask}
use Rattle.nfs_attrs.proofs.{Lengths.measuring, MaskWords.{length_numbers, length-without_last_zeros}, Values.{numbers, values_by_number}}

-- the text of each number is within its width
abbrev pub EachWithin : (ℕ → List ℕ) → List ℕ → List ℕ → Type 0
EachWithin f [] widths = Unit {0}
EachWithin f (n ∷ ns) [] = ⊥
EachWithin f (n ∷ ns) (w ∷ ws) = (length (f n) ≤ w) × EachWithin f ns ws

abbrev pub total : List ℕ → ℕ
total [] = 0
total (w ∷ ws) = w + total ws

pub within_total : (f : ℕ → List ℕ) (ns ws : List ℕ) → EachWithin f ns ws → length (flat_map f ns) ≤ total ws
within_total f [] ws h = omega arith
within_total f (n ∷ ns) [] h = absurd h
within_total f (n ∷ ns) (w ∷ ws) h = let rest = within_total f ns ws h.1 in omega (arith, h.0, length-append (f n) (flat_map f ns))

-- what is asked for is within the width of what can be asked for
within_if : (b : Bool) (text : List ℕ) (w : ℕ) → length text ≤ w → length (cond b text []) ≤ w
within_if true text w h = h
within_if false text w h = omega arith

either_within : (b : Bool) (x y : List ℕ) (w : ℕ) → length x ≤ w → length y ≤ w → length (cond b x y) ≤ w
either_within true x y w hx hy = hx
either_within false x y w hx hy = hy

-- no more digits than are written at most
length_digits : (k base : ℕ) (upper : Bool) (n : ℕ) (acc : List ℕ) → length (digits_onto k base upper n acc) ≤ k + length acc
length_digits zero base upper n acc = omega arith
length_digits (suc k) base upper n acc =
    let glyph = digit_glyph upper (n % base) in
    let more = length_digits k base upper (n / base) (glyph ∷ acc) in
    either_within (eqb (n / base) 0) (glyph ∷ acc) (digits_onto k base upper (n / base) (glyph ∷ acc)) (suc k + length acc) (omega arith) (omega arith)

length_decimal : (n : ℕ) → length (decimal n) ≤ 64
unfolding digits
length_decimal n = length_digits 64 10 false n []

owner_within : (n : ℕ) → length (spelling.opaque (decimal n)) ≤ 72
owner_within n = let short = length_decimal n in simp measuring (omega arith)

mask_within : (p : Profile) → length (bitmap4 (trimmed_words (supported p))).bytes ≤ 16
mask_within Exact = simp measuring (omega arith)
mask_within Unix = simp measuring (omega arith)

-- the widths of the attributes, in the order of the table
abbrev widths : List ℕ
widths = 16 ∷ 4 ∷ 4 ∷ 8 ∷ 8 ∷ 4 ∷ 4 ∷ 4 ∷ 16 ∷ 4 ∷ 4 ∷ 4 ∷ 20 ∷ 8 ∷ 8 ∷ 8 ∷ 8 ∷ 8 ∷ 4 ∷ 4 ∷ 8 ∷ 8 ∷ 4 ∷ 4 ∷ 72 ∷ 72 ∷ 8 ∷ 8 ∷ 8 ∷ 8 ∷ 12 ∷ 0 ∷ 12 ∷ 12 ∷ 12 ∷ 0 ∷ 8 ∷ 12 ∷ []

-- each value is within its width
values_within : (asked : Mask) (a : About) (o : Object) → EachWithin (asked_at asked a o) numbers widths
unfolding attributes
values_within asked a o = (
  (within_if (has asked 0) _ 16 (mask_within a.profile)),
  (
    (within_if (has asked 1) _ 4 (simp measuring (omega arith))),
    (
      (within_if (has asked 2) _ 4 (simp measuring (omega arith))),
      (
        (within_if (has asked 3) _ 8 (simp measuring (omega arith))),
        (
          (within_if (has asked 4) _ 8 (simp measuring (omega arith))),
          (
            (within_if (has asked 5) _ 4 (simp measuring (omega arith))),
            (
              (within_if (has asked 6) _ 4 (simp measuring (omega arith))),
              (
                (within_if (has asked 7) _ 4 (simp measuring (omega arith))),
                (
                  (within_if (has asked 8) _ 16 (simp measuring (omega arith))),
                  (
                    (within_if (has asked 9) _ 4 (simp measuring (omega arith))),
                    (
                      (within_if (has asked 10) _ 4 (simp measuring (omega arith))),
                      (
                        (within_if (has asked 11) _ 4 (simp measuring (omega arith))),
                        (
                          (within_if (has asked 19) _ 20 (simp measuring (omega arith))),
                          (
                            (within_if (has asked 20) _ 8 (simp measuring (omega arith))),
                            (
                              (within_if (has asked 21) _ 8 (within_if (is_unix a.profile) _ 8 (simp measuring (omega arith)))),
                              (
                                (within_if (has asked 22) _ 8 (within_if (is_unix a.profile) _ 8 (simp measuring (omega arith)))),
                                (
                                  (within_if (has asked 23) _ 8 (within_if (is_unix a.profile) _ 8 (simp measuring (omega arith)))),
                                  (
                                    (within_if (has asked 27) _ 8 (simp measuring (omega arith))),
                                    (
                                      (within_if (has asked 28) _ 4 (simp measuring (omega arith))),
                                      (
                                        (within_if (has asked 29) _ 4 (simp measuring (omega arith))),
                                        (
                                          (within_if (has asked 30) _ 8 (simp measuring (omega arith))),
                                          (
                                            (within_if (has asked 31) _ 8 (simp measuring (omega arith))),
                                            (
                                              (within_if (has asked 33) _ 4 (simp measuring (omega arith))),
                                              (
                                                (within_if (has asked 35) _ 4 (simp measuring (omega arith))),
                                                (
                                                  (within_if (has asked 36) _ 72 (owner_within o.owner)),
                                                  (
                                                    (within_if (has asked 37) _ 72 (owner_within o.group)),
                                                    (
                                                      (within_if (has asked 42) _ 8 (within_if (is_unix a.profile) _ 8 (simp measuring (omega arith)))),
                                                      (
                                                        (within_if (has asked 43) _ 8 (within_if (is_unix a.profile) _ 8 (simp measuring (omega arith)))),
                                                        (
                                                          (within_if (has asked 44) _ 8 (within_if (is_unix a.profile) _ 8 (simp measuring (omega arith)))),
                                                          (
                                                            (within_if (has asked 45) _ 8 (simp measuring (omega arith))),
                                                            (
                                                              (within_if (has asked 47) _ 12 (simp measuring (omega arith))),
                                                              (
                                                                (within_if (has asked 48) _ 0 (omega arith)),
                                                                (
                                                                  (within_if (has asked 51) _ 12 (within_if (is_unix a.profile) _ 12 (simp measuring (omega arith)))),
                                                                  (
                                                                    (within_if (has asked 52) _ 12 (simp measuring (omega arith))),
                                                                    (
                                                                      (within_if (has asked 53) _ 12 (simp measuring (omega arith))),
                                                                      (
                                                                        (within_if (has asked 54) _ 0 (omega arith)),
                                                                        (
                                                                          (within_if (has asked 55) _ 8 (simp measuring (omega arith))),
                                                                          (
                                                                            (within_if (has asked 75) _ 12 (simp measuring (omega arith))),
                                                                            tt,
                                                                          ),
                                                                        ),
                                                                      ),
                                                                    ),
                                                                  ),
                                                                ),
                                                              ),
                                                            ),
                                                          ),
                                                        ),
                                                      ),
                                                    ),
                                                  ),
                                                ),
                                              ),
                                            ),
                                          ),
                                        ),
                                      ),
                                    ),
                                  ),
                                ),
                              ),
                            ),
                          ),
                        ),
                      ),
                    ),
                  ),
                ),
              ),
            ),
          ),
        ),
      ),
    ),
  ),
)

pub attributes_within : (asked : Mask) (a : About) (o : Object) → length (values asked a o) ≤ 416
attributes_within asked a o = rw values_by_number (within_total (asked_at asked a o) numbers widths (values_within asked a o))

-- an opaque has at most a word of count and three bytes of padding more
length_opaque : (text : List ℕ) → length (spelling.opaque text) ≤ 7 + length text
length_opaque text = simp measuring (omega arith)

pub told_within : (asked shown : Mask) → length (spell_mask (common asked shown)) ≤ 16
told_within asked shown =
    let words = trimmed_words (common asked shown) in
    omega (
      arith,
      length-without_last_zeros (common asked shown).words,
      length_numbers words,
      length_number (length words),
      length-append (spelling.number (length words)) (flat_map spelling.number words),
    )

pub attrs_within : (asked : Mask) (a : About) (o : Object) → length (spell_attrs asked a o) ≤ 632
attrs_within asked a o =
    let text = values asked a o in
    omega (
      arith,
      attributes_within asked a o,
      told_within asked (readable a.profile),
      length-append (spell_mask (common asked (readable a.profile))) (spelling.opaque text),
      length_opaque text,
    )
