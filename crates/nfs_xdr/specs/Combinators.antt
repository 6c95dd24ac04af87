-- Codecs that codecs are put together by, beside those that the head of a call is read by (`specs/Codec.antt`; RFC 4506).
use Rattle.std.specs.Prelude.{◌≡◌, ℕ, ◌≤◌, ◌-◌, ◌==◌, List, [], ◌∷◌, ◌++◌, length, true, false, Option, Some, None, nat_lt, take, MatchOption, if◌then◌else◌}
use Rattle.std.specs.List.{AllByRecursion}
use Rattle.nfs_xdr.specs.{Codec.{Codec, many_at, array, arm}, Text.IsBytes, Reading.{◌>>=◌, number_at, flag_at, fixed_at}}
use Rattle.nfs_xdr.specs.Spelling as spelling

-- n bytes
abbrev pub fixed : ℕ → Codec (List ℕ)
fixed n = record { spell = spelling.fixed; Fits = λ bytes. (length bytes ≡ n) × IsBytes bytes; read = fixed_at n }

-- no bytes
abbrev pub nothing : {A : Type 0} → A → Codec A
nothing x = record { spell = λ _. []; Fits = λ y. y ≡ x; read = λ bytes. Some (x, bytes) }

-- Values that are listed, each under its number: the first that has the number.
abbrev pub listed_at : {A : Type 0} → (A → ℕ) → List A → ℕ → Option A
listed_at number_of [] n = None
listed_at number_of (x ∷ xs) n = if n == number_of x then Some x else listed_at number_of xs n

-- one of the values that are listed, by its number (an enum, RFC 4506 section 4.3)
abbrev pub listed : {A : Type 0} → (A → ℕ) → List A → Codec A
listed number_of all = record {
  spell = λ x. spelling.number (number_of x);
  Fits = λ _. Unit {0};
  read = λ bytes. number_at bytes >>= λ n. listed_at number_of all n.0 >>= λ x. Some (x, n.1);
}

-- nothing, or one item behind a flag that says so (RFC 4506 section 4.19)
abbrev pub spell_optional : {A : Type 0} → Codec A → Option A → List ℕ
spell_optional c None = spelling.flag false
spell_optional c (Some x) = spelling.flag true ++ c.spell x

abbrev pub optional : {A : Type 0} → Codec A → Codec (Option A)
optional c = record {
  spell = spell_optional c;
  Fits = λ o. MatchOption o (Unit {0}) c.Fits;
  read = λ bytes. flag_at bytes >>= λ b. if b.0 then (c.read b.1 >>= λ x. Some (Some x.0, x.1)) else Some (None, b.1);
}

-- at most limit of them
abbrev pub few : {A : Type 0} → ℕ → Codec A → Codec (List A)
few limit c = record {
  spell = (array c).spell;
  Fits = λ xs. (length xs ≤ limit) × AllByRecursion c.Fits xs;
  read = λ bytes. number_at bytes >>= λ n. if nat_lt limit n.0 then None else many_at c.read n.0 n.1;
}

-- what is read and not looked at: its bytes as they stand
abbrev pub raw_at : {A : Type 0} → List ℕ → Option (A × List ℕ) → Option (List ℕ × List ℕ)
raw_at bytes read = read >>= λ x. Some (take (length bytes - length x.1) bytes, x.1)

abbrev pub raw : {A : Type 0} → Codec A → Codec (List ℕ)
raw {A} c = record {
  spell = λ bytes. bytes;
  Fits = λ bytes. (x : A) × (bytes ≡ c.spell x) × c.Fits x;
  read = λ bytes. raw_at bytes (c.read bytes);
}

-- what was read, as one arm of a union
abbrev pub in_arm : {A B : Type 0} → (A → B) → Option (A × List ℕ) → Option (B × List ℕ)
in_arm make read = read >>= λ x. Some (make x.0, x.1)

-- what was read, where its value is not looked at
abbrev pub passed : {A : Type 0} → Option (A × List ℕ) → Option (Unit {0} × List ℕ)
passed read = in_arm (λ _. tt) read

-- a number, and the arm that it names; a number that names none stands alone
abbrev pub choose_or : {B : Type 0} → List (ℕ × (List ℕ → Option (B × List ℕ))) → (ℕ → B) → ℕ → List ℕ → Option (B × List ℕ)
choose_or [] other n bytes = Some (other n, bytes)
choose_or (arm ∷ arms) other n bytes = if n == arm.0 then arm.1 bytes else choose_or arms other n bytes

abbrev pub union_or : {B : Type 0} → (B → List ℕ) → (B → Type 0) → List (ℕ × (List ℕ → Option (B × List ℕ))) → (ℕ → B) → Codec B
union_or spell Fits arms other = record { spell = spell; Fits = Fits; read = λ bytes. number_at bytes >>= λ n. choose_or arms other n.0 n.1 }

-- the number of a value that is listed, and the arm of that value
abbrev pub union_by : {K B : Type 0} → (K → ℕ) → List K → (B → List ℕ) → (B → Type 0) → (K → List ℕ → Option (B × List ℕ)) → Codec B
union_by number_of all spell Fits arms = record {
  spell = spell;
  Fits = Fits;
  read = λ bytes. number_at bytes >>= λ n. listed_at number_of all n.0 >>= λ k. arms k n.1;
}
