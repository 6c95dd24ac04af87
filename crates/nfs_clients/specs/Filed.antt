-- The client records as an ordered map keeps them by their ids, and the ids of each owner's records as another does by the owners.
use Rattle.std.specs.Prelude.{◌≡◌, ℕ, cond, Bool, true, false, List, map, None, find, option_map, unwrap_or, bytes_eq}
use Rattle.std.specs.{Ordering.nat_cmp, Cmp.Lexicographic.slice_cmp, BTreeMap.is_at, Map.{lookup, values_of}}
use Rattle.nfs_xdr.specs.Tables.{IsRising}
use Rattle.nfs_clients.specs.{Roster.{ClientRecord, is_confirmed_of, is_unconfirmed_of}, declared.owners.Ids.Ids}

-- each record under its id
abbrev pub entries_of : List ClientRecord → List (ℕ × ClientRecord)
entries_of records = map (λ c. (c.id, c)) records

-- entries are of records whose ids rise
pub record IsFiled (es : List (ℕ × ClientRecord)) : Type 0 where
  pub high : ℕ
  pub filed : es ≡ entries_of (values_of es)
  pub rising : IsRising (λ c. c.id) 0 (values_of es) high

-- no ids
abbrev pub no_ids : Ids
no_ids = record { confirmed = None; unconfirmed = None }

-- those of an owner's records
abbrev pub ids_in : List ClientRecord → List ℕ → Ids
ids_in records owner = record {
  confirmed = option_map (λ c. c.id) (find (is_confirmed_of owner) records);
  unconfirmed = option_map (λ c. c.id) (find (is_unconfirmed_of owner) records);
}

-- without that of its confirmed record, or of its unconfirmed one
abbrev pub ids_without : Ids → Bool → Ids
ids_without ids true = record ids { confirmed = None }
ids_without ids false = record ids { unconfirmed = None }

-- those that a map has at an owner, whose keys have these bytes
abbrev pub ids_at : {K : Type 0} → (K → List ℕ) → List (K × Ids) → List ℕ → Ids
ids_at bytes es owner = unwrap_or (lookup (is_at (λ k. slice_cmp nat_cmp owner (bytes k))) es) no_ids

-- each owner has the ids of its records
abbrev pub AreIndexed : List ClientRecord → (List ℕ → Ids) → Type 0
AreIndexed records ids = (owner : List ℕ) → ids owner ≡ ids_in records owner

-- an owner has these ids, and each other those that it had
abbrev pub OwnersAnew : (List ℕ → Ids) → (List ℕ → Ids) → List ℕ → Ids → Type 0
OwnersAnew old new owner ids = (other : List ℕ) → new other ≡ cond (bytes_eq owner other) ids (old other)
