-- What holds of the table of attributes as a whole.
use Rattle.std.specs.Prelude.{◌≡◌, ℕ, ◌/◌, ◌%◌, ◌^◌, ◌+◌, ◌==◌, List, [], ◌∷◌, Bool, false, map, filter, if◌then◌else◌}
use Rattle.nfs_xdr.specs.Text.{Text}
use Rattle.nfs_attrs.specs.{Attributes.{Attribute, attributes}, declared.mask.Mask.Mask}

-- word w of the mask of these numbers, each of which stands there once
abbrev pub word_of : ℕ → List ℕ → ℕ
word_of w [] = 0
word_of w (n ∷ ns) = (if n / 32 == w then 2 ^ (n % 32) else 0) + word_of w ns

abbrev pub mask_of_numbers : List ℕ → Mask
mask_of_numbers ns = record { words = word_of 0 ns ∷ word_of 1 ns ∷ word_of 2 ns ∷ []; beyond = false }

abbrev pub mask_of_lines : (Attribute → Bool) → Mask
mask_of_lines test = mask_of_numbers (map (λ line. line.number) (filter test attributes))

-- bytes that are this text and no more, and it fits
abbrev pub AreText : List ℕ → Text → Type 0
AreText bytes text = (bytes ≡ text.bytes) × text.Fits
