-- A time that is set: the server's own, or one that is given (settime4; RFC 8881 section 3.3.3).
use Rattle.std.specs.Prelude.{ℕ, List, [], ◌∷◌, ◌++◌, Option}
use Rattle.nfs_xdr.specs.Spelling as spelling
use Rattle.nfs_xdr.specs.{Codec.{Codec, union, bare, arm}, Time.time}
use Rattle.nfs_attrs.specs.{declared.set_time.SetTime.SetTime, declared.set_time.SetTime.TheVariants.{Now, Given}}

abbrev pub spell_set_time : SetTime → List ℕ
spell_set_time Now = spelling.number 0
spell_set_time (Given t) = spelling.number 1 ++ time.spell t

abbrev pub FitsSetTime : SetTime → Type 0
FitsSetTime Now = Unit {0}
FitsSetTime (Given t) = time.Fits t

abbrev pub set_time_arms : List (ℕ × (List ℕ → Option (SetTime × List ℕ)))
set_time_arms = (0, bare Now) ∷ (1, arm Given time) ∷ []

unfoldable pub set_time : Codec SetTime
set_time = union spell_set_time FitsSetTime set_time_arms

-- what stands at the front of bytes
abbrev pub set_time_at : List ℕ → Option (SetTime × List ℕ)
set_time_at bytes = set_time.read bytes
