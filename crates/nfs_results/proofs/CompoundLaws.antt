-- The result of a compound is a codec.
use Rattle.std.proofs.Common.{◌≡◌, ℕ, List, ◌++◌, length, refl, sym, ap, ◌∙◌, append_assoc, arith}
use Rattle.std.specs.List.{flat_map}
use Rattle.nfs_xdr.specs.Spelling as spelling
use Rattle.nfs_xdr.specs.{Lawful.IsCodec, Status.status_number}
use Rattle.nfs_xdr.proofs.{CodecLaws.{is_opaque, is_then, is_as_type, is_array}, StatusLaws.is_status}
use Rattle.nfs_results.specs.{Results.spell_result, ResultCodec.result, CompoundResult.{CompoundResult, spell_compound, parts, compound_result}}
use Rattle.nfs_results.proofs.ResultLaws.{is_result}

is_parts : IsCodec parts
is_parts = is_as_type _ _ _ (λ _. refl) (is_then _ _ is_status (is_then _ _ (is_opaque 1024 (omega arith)) (is_array result is_result)))

pub same_spelling : (c : CompoundResult) → parts.spell c ≡ spell_compound c
same_spelling c =
    let results : List ℕ = flat_map spell_result c.results in
    sym (append_assoc (spelling.number (status_number c.status)) (spelling.opaque c.tag ++ spelling.number (length c.results)) results
    ∙ ap (λ (w : List ℕ). spelling.number (status_number c.status) ++ w) (append_assoc (spelling.opaque c.tag) (spelling.number (length c.results)) results))

pub is_compound : IsCodec compound_result
is_compound = record {
  takes = λ bytes c rest fits e. let t = is_parts.takes bytes c rest fits e in (t.0 ∙ ap (λ (w : List ℕ). w ++ rest) (same_spelling c), t.1, t.2);
  again = λ c rest fits. ap (λ (w : List ℕ). parts.read (w ++ rest)) (sym (same_spelling c)) ∙ is_parts.again c rest fits;
}
