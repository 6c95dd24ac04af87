-- The words by which a set of attributes below 96 is spelled (bitmap4 of RFC 5662).
use Rattle.std.specs.Prelude.{ℕ, ◌==◌, List, [], ◌∷◌, get_or, if◌then◌else◌}

abbrev pub before : ℕ → List ℕ → List ℕ
before word [] = if word == 0 then [] else word ∷ []
before word (next ∷ words) = word ∷ next ∷ words

-- words up to the last that is not zero
abbrev pub trimmed : List ℕ → List ℕ
trimmed [] = []
trimmed (word ∷ words) = before word (trimmed words)

-- of three words
abbrev pub spelled : List ℕ → List ℕ
spelled words = trimmed (get_or words 0 0 ∷ get_or words 1 0 ∷ get_or words 2 0 ∷ [])
