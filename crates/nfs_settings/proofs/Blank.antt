-- A text of blanks and comments has no key.
use Rattle.std.proofs.Common.{◌≡◌, ◌≢◌, ℕ, List, Some, None, refl, sym, ◌∙◌, ap}
use Rattle.toml.specs.{Parse.{parse_document, lines}, Errors.IsBlank, Data.{Members, no_members, get_member}}

blank_is_empty : (text : List ℕ) → IsBlank text → parse_document text ≡ Some no_members
unfolding parse_document lines
blank_is_empty text blank = rw blank refl

pub no_key : (text key : List ℕ) (table : Members) → parse_document text ≡ Some table → get_member key table ≢ None → IsBlank text → ⊥
no_key text key table is there blank =
    (let empty : Some no_members ≡ Some table = sym (blank_is_empty text blank) ∙ is in
    let none : no_members ≡ table = cc in
    there (ap (get_member key) (sym none)))
