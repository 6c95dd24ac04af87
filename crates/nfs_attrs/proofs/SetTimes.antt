-- A set time is read exactly where it is spelled.
use Rattle.std.proofs.Common.{◌≡◌, ℕ, ◌<◌, ◌^◌, List, ◌++◌, Some, refl, append_assoc, arith}
use Rattle.nfs_xdr.specs.Spelling as spelling
use Rattle.nfs_xdr.specs.{Codec.choose, Lawful.IsCodec, Time.time}
use Rattle.nfs_xdr.proofs.{CodecLaws.{is_union, is_arm, is_bare}, WordLaws.is_time}
use Rattle.nfs_attrs.specs.{SetTime.{set_time, spell_set_time, FitsSetTime, set_time_arms}, declared.set_time.SetTime.SetTime}
use Rattle.nfs_attrs.specs.declared.set_time.SetTime.TheVariants.{Now, Given}

set_time_again : (y : SetTime) (rest : List ℕ) → FitsSetTime y
    → (k : ℕ) × (left : List ℕ) × (k < 2 ^ 32) × (spell_set_time y ++ rest ≡ spelling.number k ++ left) × (choose set_time_arms k left ≡ Some (
      y,
      rest,
    ))
set_time_again Now rest fits = (0, rest, omega arith, refl, refl)
set_time_again (Given t) rest fits = (
  1,
  time.spell t ++ rest,
  omega arith,
  append_assoc (spelling.number 1) (time.spell t) rest,
  rw (is_time.again t rest fits) refl,
)

pub is_set_time : IsCodec set_time
unfolding set_time
is_set_time = is_union spell_set_time FitsSetTime set_time_arms (
  is_bare _ 0 Now refl tt,
  (is_arm _ 1 Given time is_time (λ _. refl) (λ _ fits. fits), tt),
) set_time_again
