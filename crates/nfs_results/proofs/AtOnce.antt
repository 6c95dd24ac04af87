-- Words that are put at once.
use Rattle.std.proofs.{Common.{◌≡◌, ℕ, List, [], ◌∷◌, ◌++◌, ap}, lemmas.List.append-nil}
use Rattle.std.specs.List.{flat_map}

pub three_at_once : (a b c a' b' c' : List ℕ) → a ≡ a' → b ≡ b' → c ≡ c' → flat_map (λ w. w) (a ∷ b ∷ c ∷ []) ≡ a' ++ (b' ++ c')
three_at_once a b c a' b' c' p q r = rw (p, q, r) (ap (λ (w : List ℕ). a' ++ (b' ++ w)) (append-nil c'))

pub five_at_once : (a b c d e a' b' c' d' e' : List ℕ) → a ≡ a' → b ≡ b' → c ≡ c' → d ≡ d' → e ≡ e'
    → flat_map (λ w. w) (a ∷ b ∷ c ∷ d ∷ e ∷ []) ≡ a' ++ (b' ++ (c' ++ (d' ++ e')))
five_at_once a b c d e a' b' c' d' e' p q r s t = rw (p, q, r, s, t) (ap (λ (w : List ℕ). a' ++ (b' ++ (c' ++ (d' ++ w)))) (append-nil e'))
