-- What keeps writers from standing beside other holders (RFC 8881 section 9.1).
use Rattle.std.proofs.Common.{◌≡◌, ◌⊎◌, ℕ, Some, None, sym, ◌∙◌, inl, inr}
use Rattle.nfs_ranges.specs.{declared.Kind.TheVariants.Write, Holders.{Holders, HasNoClash}}

-- the second holds nothing else than the first
abbrev pub IsFewer : Holders → Holders → Type 0
IsFewer g f = (s b : ℕ) → (g s b ≡ None) ⊎ (g s b ≡ f s b)

-- whoever holds no more than before clashes no more than before
pub fewer_keeps : (f g : Holders) → IsFewer g f → HasNoClash f → HasNoClash g
fewer_keeps f g fewer is s t b other writes =
    elim (fewer t b) [
      | inl none ↦ none
      | inr same_t ↦ elim (fewer s b) [
        | inl none ↦ absurd (let bad : Some Write ≡ None = sym writes ∙ none in cc)
        | inr same_s ↦ same_t ∙ is s t b other (sym same_s ∙ writes)
      ]
    ]
