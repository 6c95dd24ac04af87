-- A linked list: each item stands behind a flag that says that one follows, and a flag ends it (RFC 4506 section 4.19).
use Rattle.std.specs.{Prelude.{ℕ, zero, suc, List, [], ◌∷◌, ◌++◌, length, true, false, Option, Some, None, if◌then◌else◌}, List.AllByRecursion}
use Rattle.nfs_xdr.specs.Spelling as spelling
use Rattle.nfs_xdr.specs.{Reading.{◌>>=◌, flag_at}, Codec.Codec}

abbrev pub spell_chain : {A : Type 0} → (A → List ℕ) → List A → List ℕ
spell_chain spell [] = spelling.flag false
spell_chain spell (x ∷ xs) = spelling.flag true ++ (spell x ++ spell_chain spell xs)

-- at most n flags are looked at
unfoldable pub chain_at : {A : Type 0} → (List ℕ → Option (A × List ℕ)) → ℕ → List ℕ → Option (List A × List ℕ)
chain_at read zero bytes = None
chain_at read (suc n) bytes =
    flag_at bytes >>= λ more. if more.0 then (read more.1 >>= λ x. chain_at read n x.1 >>= λ xs. Some (x.0 ∷ xs.0, xs.1)) else Some ([], more.1)

-- there are no more flags than bytes
abbrev pub chain : {A : Type 0} → Codec A → Codec (List A)
chain c = record { spell = spell_chain c.spell; Fits = AllByRecursion c.Fits; read = λ bytes. chain_at c.read (length bytes) bytes }
