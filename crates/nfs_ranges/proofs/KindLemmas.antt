-- The test whether a byte is held with a kind.
use Rattle.std.proofs.Common.{◌≡◌, ◌≢◌, true, false, Option, Some, None, refl, sym, ◌∙◌, ap}
use Rattle.nfs_ranges.specs.{declared.Kind.Kind, declared.Kind.TheVariants.{Read, Write}, Told.is_held_as}

pub same_is : (k j : Kind) → is_held_as k (Some j) ≡ true → j ≡ k
same_is Read Read e = refl
same_is Read Write e = absurd cc
same_is Write Read e = absurd cc
same_is Write Write e = refl

pub held_as : (k : Kind) (o : Option Kind) → is_held_as k o ≡ true → o ≡ Some k
held_as k None e = absurd cc
held_as k (Some j) e = ap Some (same_is k j e)

pub held_as-same : (k : Kind) → is_held_as k (Some k) ≡ true
held_as-same Read = refl
held_as-same Write = refl

pub held_as-not : (k : Kind) (o : Option Kind) → is_held_as k o ≡ false → o ≢ Some k
held_as-not k o e same = let held : is_held_as k o ≡ true = ap (is_held_as k) same ∙ held_as-same k in let bad : true ≡ false = sym held ∙ e in cc
