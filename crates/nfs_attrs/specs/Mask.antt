-- Which attributes are asked for, set or reported: bitmap4 (RFC 8881 sections 3.3.7 and 5).
use Rattle.std.specs.{Prelude.{ℕ, ◌/◌, ◌%◌, ◌==◌, ◌&&◌, ◌||◌, List, [], ◌∷◌, get_or, drop, Bool, false, not, length, map, bit_and, if◌then◌else◌}, Int.bit_at}
use Rattle.std.specs.List.{list_any, filter, range_with_len}
use Rattle.nfs_attrs.specs.{Wire.bitmap4, declared.mask.Mask.Mask}

-- the mask of a list of words, of which there may be any number
abbrev pub mask_of : List ℕ → Mask
mask_of words = record { words = get_or words 0 0 ∷ get_or words 1 0 ∷ get_or words 2 0 ∷ []; beyond = list_any (λ w. not (w == 0)) (drop 3 words) }

-- Attribute n is bit n mod 32 of word n / 32.
abbrev pub has : Mask → ℕ → Bool
has mask n = bit_at (get_or mask.words (n / 32) 0) (n % 32) == 1

-- one of the two attributes that can only be set: time_access_set and time_modify_set
abbrev pub asks_set_only : Mask → Bool
asks_set_only mask = has mask 48 || has mask 54

-- one of those that tell how many objects and bytes there may be, or how many more
abbrev pub asks_room : Mask → Bool
asks_room mask = has mask 21 || has mask 22 || has mask 23 || has mask 42 || has mask 43 || has mask 44

-- the words up to the last that is not zero
abbrev pub without_last_zeros : List ℕ → List ℕ
without_last_zeros [] = []
without_last_zeros (word ∷ words) =
    let rest : List ℕ = without_last_zeros words in if word == 0 && length rest == 0 then [] else word ∷ rest

-- the words in which a mask is written
abbrev pub trimmed_words : Mask → List ℕ
trimmed_words mask = without_last_zeros mask.words

abbrev pub spell_mask : Mask → List ℕ
spell_mask mask = (bitmap4 (trimmed_words mask)).bytes

-- each attribute of the first is one of the second
abbrev pub within : Mask → Mask → Bool
within mask others =
    not mask.beyond && bit_and (get_or mask.words 0 0) (get_or others.words 0 0) == get_or mask.words 0 0
    && bit_and (get_or mask.words 1 0) (get_or others.words 1 0) == get_or mask.words 1 0
    && bit_and (get_or mask.words 2 0) (get_or others.words 2 0) == get_or mask.words 2 0

-- the attributes below 96 of both
abbrev pub common : Mask → Mask → Mask
common mask others = record { words = map (λ w. bit_and (get_or mask.words w 0) (get_or others.words w 0)) (0 ∷ 1 ∷ 2 ∷ []); beyond = false }

-- the attributes below 96 of a mask, in rising order
unfoldable pub numbers_of : Mask → List ℕ
numbers_of mask = filter (has mask) (range_with_len 0 96)
