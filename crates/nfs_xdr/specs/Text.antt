-- The language of RFC 4506: each of its types as the text of its values.
use Rattle.std.specs.{Prelude.{◌≡◌, ◌↔◌, ℕ, ℤ, ◌<◌, ◌≤◌, ◌^◌, Bool, List, [], ◌++◌, length, get_or, Option, Some, None}, Int.{w64, cast_unsigned}}
use Rattle.std.specs.{Int.RustNames.FitsSigned, List.{flat_map, AllByRecursion}}
use Rattle.nfs_xdr.specs.Spelling as spelling

-- each number is a byte
pub record IsBytes (bytes : List ℕ) : Type 0 where
  pub each : (i : ℕ) → get_or bytes i 0 < 256

-- The bytes of a value, and what holds of the values that have bytes.
pub record Text : Type 1 where
  pub bytes : List ℕ
  pub Fits : Type 0

-- The types of RFC 4506.

infixr 6 ◌then◌
abbrev pub ◌then◌ : Text → Text → Text
a then b = record { bytes = a.bytes ++ b.bytes; Fits = a.Fits × b.Fits }

abbrev pub void : Text
void = record { bytes = []; Fits = Unit {0} }

abbrev pub uint32 : ℕ → Text
uint32 n = record { bytes = spelling.number n; Fits = n < 2 ^ 32 }

abbrev pub uint64 : ℕ → Text
uint64 n = record { bytes = spelling.hyper n; Fits = n < 2 ^ 64 }

abbrev pub int64 : ℤ → Text
int64 z = record { bytes = spelling.hyper (cast_unsigned w64 z); Fits = FitsSigned w64 z }

abbrev pub bool : Bool → Text
bool b = record { bytes = spelling.flag b; Fits = Unit {0} }

-- a value of an enum, or the case of a union
abbrev pub enum : ℕ → Text
enum k = record { bytes = spelling.number k; Fits = Unit {0} }

-- opaque x[size]
abbrev pub fixed : ℕ → List ℕ → Text
fixed size x = record { bytes = spelling.fixed x; Fits = (length x ≡ size) × IsBytes x }

-- opaque x<limit>
abbrev pub opaque : ℕ → List ℕ → Text
opaque limit x = record { bytes = spelling.opaque x; Fits = (length x ≤ limit) × IsBytes x }

-- T xs<limit>, where T is the text of each
abbrev pub array : {A : Type 0} → ℕ → (A → Text) → List A → Text
array limit text xs = record {
  bytes = spelling.number (length xs) ++ flat_map (λ x. (text x).bytes) xs;
  Fits = (length xs ≤ limit) × AllByRecursion (λ x. (text x).Fits) xs;
}

-- T x<1>
abbrev pub optional : {A : Type 0} → (A → Text) → Option A → Text
optional text None = enum 0
optional text (Some x) = enum 1 then text x

-- the limit where none is written
abbrev pub most : ℕ
most = 4294967295

-- The text of a value stands at the front of these bytes, with others behind it.
pub record Begins {A : Type 0} (text : A → Text) (bytes : List ℕ) : Type 0 where
  pub value : A
  pub rest : List ℕ
  pub stands : bytes ≡ (text value).bytes ++ rest
  pub fits : (text value).Fits

-- no such text does
abbrev pub Lacks : {A : Type 0} → (A → Text) → List ℕ → Type 0
Lacks text bytes = Begins text bytes → ⊥

-- The text of this value stands at the front of these bytes, and the rest behind it.
abbrev pub Leads : {A : Type 0} → (A → Text) → List ℕ → A × List ℕ → Type 0
Leads text bytes x = (bytes ≡ (text x.0).bytes ++ x.1) × (text x.0).Fits

-- there is a reader that gives what stands at the front of bytes as such a text, and nothing where none stands there
abbrev pub IsReadable : {A : Type 0} → (A → Text) → Type 0
IsReadable {A} text = (read : List ℕ → Option (A × List ℕ)) × ((bytes : List ℕ) (x : A × List ℕ) → IsBytes bytes → read bytes ≡ Some x ↔ Leads text bytes x)

-- no text of these begins another
abbrev pub BeginsNoOther : {A : Type 0} → (A → Text) → Type 0
BeginsNoOther text = (x y : _) (rest : List ℕ) → (text x).Fits → (text y).Fits → (text x).bytes ≡ (text y).bytes ++ rest → (x ≡ y) × (rest ≡ [])
