-- Formats: everything that is put together from the types of RFC 4506, and the text that each stands for.
use Rattle.std.specs.Prelude.{ℕ, ◌<◌, ◌^◌, Bool, List, Option}
use Rattle.nfs_xdr.specs.Text.{Text, ◌then◌, uint32, uint64, bool, enum, fixed, opaque, array, optional, most}

pub data Format : Type 0 where
  Number : Format
  Hyper : Format
  Flag : Format
  Fixed : ℕ → Format
  Opaque : ℕ → Format
  Then : Format → Format → Format
  Optional : Format → Format
  Array : Format → Format
  AtMost : ℕ → Format → Format
  LedBy : ℕ → Format → Format

-- the values of a format
abbrev pub Meaning : Format → Type 0
Meaning Number = ℕ
Meaning Hyper = ℕ
Meaning Flag = Bool
Meaning (Fixed n) = List ℕ
Meaning (Opaque limit) = List ℕ
Meaning (Then a b) = Meaning a × Meaning b
Meaning (Optional f) = Option (Meaning f)
Meaning (Array f) = List (Meaning f)
Meaning (AtMost limit f) = List (Meaning f)
Meaning (LedBy k f) = Meaning f

abbrev pub text : (f : Format) → Meaning f → Text
text Number n = uint32 n
text Hyper n = uint64 n
text Flag b = bool b
text (Fixed n) x = fixed n x
text (Opaque limit) x = opaque limit x
text (Then a b) x = text a x.0 then text b x.1
text (Optional f) x = optional (text f) x
text (Array f) xs = array most (text f) xs
text (AtMost limit f) xs = array limit (text f) xs
text (LedBy k f) x = enum k then text f x

-- each bound and each leading number is itself a number of four bytes
abbrev pub IsFormat : Format → Type 0
IsFormat Number = Unit {0}
IsFormat Hyper = Unit {0}
IsFormat Flag = Unit {0}
IsFormat (Fixed n) = Unit {0}
IsFormat (Opaque limit) = limit < 2 ^ 32
IsFormat (Then a b) = IsFormat a × IsFormat b
IsFormat (Optional f) = IsFormat f
IsFormat (Array f) = IsFormat f
IsFormat (AtMost limit f) = (limit < 2 ^ 32) × IsFormat f
IsFormat (LedBy k f) = (k < 2 ^ 32) × IsFormat f
