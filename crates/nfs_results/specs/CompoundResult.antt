-- The result of a compound (RFC 8881 section 16.2.2): its status, the tag of its call and the results of the operations that were run.
use Rattle.std.specs.{Prelude.{◌≡◌, ℕ, List, ◌++◌, length, Option}, List.flat_map}
use Rattle.nfs_xdr.specs.{Limits.opaque_limit, Codec.{Codec, ◌then◌, as_type, array}, declared.status.Status.Status, StatusCodec.{status as any_status}}
use Rattle.nfs_xdr.specs.Codec as codec
use Rattle.nfs_results.specs.{declared.res.Res.Res, ResultCodec.result, Results.{spell_result, spell_compound_head}}

pub record CompoundResult : Type 0 where
  pub status : Status
  pub tag : List ℕ
  pub results : List Res

abbrev pub spell_compound : CompoundResult → List ℕ
spell_compound c = spell_compound_head c.status c.tag (length c.results) ++ flat_map spell_result c.results

-- the same item by item, and how it is read
abbrev pub parts : Codec CompoundResult
parts = as_type (λ (status, (tag, results)). record { status = status; tag = tag; results = results })
    (λ c. (c.status, (c.tag, c.results))) (any_status then codec.opaque opaque_limit then array result)

abbrev pub compound_result : Codec CompoundResult
compound_result = record { spell = spell_compound; Fits = parts.Fits; read = parts.read }

-- What stands at the front of bytes, and what is behind it: the result of a compound, and one of its results.
abbrev pub compound_result_at : List ℕ → Option (CompoundResult × List ℕ)
compound_result_at bytes = compound_result.read bytes

abbrev pub result_at : List ℕ → Option (Res × List ℕ)
result_at bytes = result.read bytes

-- The bytes are the spelling of a compound's result and nothing else.
abbrev pub IsReply : List ℕ → CompoundResult → Type 0
IsReply bytes r = (bytes ≡ spell_compound r) × compound_result.Fits r

abbrev pub IsNoReply : List ℕ → Type 0
IsNoReply bytes = (r : CompoundResult) → compound_result.Fits r → bytes ≡ spell_compound r → ⊥
