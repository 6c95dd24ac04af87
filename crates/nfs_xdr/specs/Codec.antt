-- A codec of items of RFC 4506: how each value of a type is spelled, which values have a spelling, and how one is read from the front.
use Rattle.std.specs.Prelude.{◌≡◌, ℕ, ℤ, zero, suc, ◌<◌, ◌≤◌, ◌^◌, ◌==◌, List, [], ◌∷◌, ◌++◌, length, Bool, IsTrue, Option, Some, None, nat_le, map}
use Rattle.std.specs.{Prelude.{if◌then◌else◌}, Int.{w64, cast_signed, cast_unsigned}, Int.RustNames.FitsSigned, List.{flat_map, AllByRecursion}}
use Rattle.nfs_xdr.specs.Spelling as spelling
use Rattle.nfs_xdr.specs.{Text.IsBytes, Reading.{◌>>=◌, number_at, hyper_at, flag_at, opaque_at, pieces_at}}

-- A value that has a spelling is one that fits.
pub record Codec (A : Type 0) : Type 1 where
  pub spell : A → List ℕ
  pub Fits : A → Type 0
  pub read : List ℕ → Option (A × List ℕ)

abbrev pub number : Codec ℕ
number = record { spell = spelling.number; Fits = λ n. n < 2 ^ 32; read = number_at }

abbrev pub hyper : Codec ℕ
hyper = record { spell = spelling.hyper; Fits = λ n. n < 2 ^ 64; read = hyper_at }

-- a hyper that is two's complement of 64 bits (RFC 4506 section 4.5)
abbrev pub signed : Codec ℤ
signed = record {
  spell = λ z. spelling.hyper (cast_unsigned w64 z);
  Fits = FitsSigned w64;
  read = λ bytes. hyper_at bytes >>= λ n. Some (cast_signed w64 n.0, n.1);
}

abbrev pub flag : Codec Bool
flag = record { spell = spelling.flag; Fits = λ _. Unit {0}; read = flag_at }

-- at most limit bytes
abbrev pub opaque : ℕ → Codec (List ℕ)
opaque limit = record { spell = spelling.opaque; Fits = λ bytes. (length bytes ≤ limit) × IsBytes bytes; read = opaque_at limit }

-- bytes that XDR alone bounds
abbrev pub unbounded : Codec (List ℕ)
unbounded = opaque 4294967295

-- one after the other
infixr 6 ◌then◌
abbrev pub ◌then◌ : {A B : Type 0} → Codec A → Codec B → Codec (A × B)
a then b = record {
  spell = λ x. a.spell x.0 ++ b.spell x.1;
  Fits = λ x. a.Fits x.0 × b.Fits x.1;
  read = λ bytes. a.read bytes >>= λ x. b.read x.1 >>= λ y. Some ((x.0, y.0), y.1);
}

-- the same under another type
abbrev pub as_type : {A B : Type 0} → (A → B) → (B → A) → Codec A → Codec B
as_type make parts c = record {
  spell = λ y. c.spell (parts y);
  Fits = λ y. (make (parts y) ≡ y) × c.Fits (parts y);
  read = λ bytes. c.read bytes >>= λ x. Some (make x.0, x.1);
}

-- only the values that pass
abbrev pub only : {A : Type 0} → (A → Bool) → Codec A → Codec A
only test c = record {
  spell = c.spell;
  Fits = λ x. IsTrue (test x) × c.Fits x;
  read = λ bytes. c.read bytes >>= λ x. if test x.0 then Some x else None;
}

-- n of them
abbrev pub many_at : {A : Type 0} → (List ℕ → Option (A × List ℕ)) → ℕ → List ℕ → Option (List A × List ℕ)
many_at read zero bytes = Some ([], bytes)
many_at read (suc n) bytes = read bytes >>= λ x. many_at read n x.1 >>= λ xs. Some (x.0 ∷ xs.0, xs.1)

-- a count, and that many of them
abbrev pub array : {A : Type 0} → Codec A → Codec (List A)
array c = record {
  spell = λ xs. spelling.number (length xs) ++ flat_map c.spell xs;
  Fits = λ xs. (length xs < 2 ^ 32) × AllByRecursion c.Fits xs;
  read = λ bytes. number_at bytes >>= λ n. many_at c.read n.0 n.1;
}

-- the array, read as pieces of n bytes
abbrev pub pieces : {A : Type 0} → ℕ → (List ℕ → A) → Codec A → Codec (List A)
pieces n value c = record {
  spell = (array c).spell;
  Fits = (array c).Fits;
  read = λ bytes. pieces_at n bytes >>= λ x. Some (map value x.0, x.1);
}

-- the array, of at most limit items
abbrev pub at_most : {A : Type 0} → ℕ → Codec (List A) → Codec (List A)
at_most limit c = only (λ xs. nat_le (length xs) limit) c

-- behind a number that says nothing else
abbrev pub led_by : {A : Type 0} → ℕ → Codec A → Codec A
led_by k c = record {
  spell = λ x. spelling.number k ++ c.spell x;
  Fits = c.Fits;
  read = λ bytes. number_at bytes >>= λ n. if n.0 == k then c.read n.1 else None;
}

-- the arm that a number names
abbrev pub choose : {B : Type 0} → List (ℕ × (List ℕ → Option (B × List ℕ))) → ℕ → List ℕ → Option (B × List ℕ)
choose [] n bytes = None
choose (arm ∷ arms) n bytes = if n == arm.0 then arm.1 bytes else choose arms n bytes

-- a number, and the arm that it names
abbrev pub union : {B : Type 0} → (B → List ℕ) → (B → Type 0) → List (ℕ × (List ℕ → Option (B × List ℕ))) → Codec B
union spell Fits arms = record { spell = spell; Fits = Fits; read = λ bytes. number_at bytes >>= λ n. choose arms n.0 n.1 }

-- an arm with arguments, and one with none
abbrev pub arm : {A B : Type 0} → (A → B) → Codec A → List ℕ → Option (B × List ℕ)
arm make c bytes = c.read bytes >>= λ x. Some (make x.0, x.1)

abbrev pub bare : {B : Type 0} → B → List ℕ → Option (B × List ℕ)
bare y bytes = Some (y, bytes)
