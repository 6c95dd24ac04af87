-- A head of a compound's result whose status and count are set once the results stand behind it.
use Rattle.std.specs.Prelude.{◌≡◌, ℕ, ◌+◌, List, ◌++◌, length}
use Rattle.nfs_xdr.specs.{Spelling.opaque, declared.status.Status.Status, SheetState.SheetState}
use Rattle.nfs_results.specs.Results.{spell_compound_head}

-- where the status and the count of a head with this tag stand, behind what is before it
pub record HeadsAt (status_at count_at : ℕ) (before tag : List ℕ) : Type 0 where
  pub status : status_at ≡ length before
  pub count : count_at ≡ length before + 4 + length (opaque tag)

-- A head stands there.
pub record HasHead (status_at count_at : ℕ) (bytes : List ℕ) : Type 0 where
  pub before : List ℕ
  pub status : Status
  pub tag : List ℕ
  pub count : ℕ
  pub behind : List ℕ
  pub places : HeadsAt status_at count_at before tag
  pub spelled : bytes ≡ (before ++ spell_compound_head status tag count) ++ behind

-- The head there has this status and count now. What is before and behind it, and its tag, are the same.
pub record SetsHead (status_at count_at : ℕ) (status : Status) (count : ℕ) (old new : SheetState) : Type 0 where
  pub bytes : (before : List ℕ) (s : Status) (tag : List ℕ) (n : ℕ) (behind : List ℕ) → HeadsAt status_at count_at before tag
      → old.bytes ≡ (before ++ spell_compound_head s tag n) ++ behind → new.bytes ≡ (before ++ spell_compound_head status tag count) ++ behind
  pub room : new.room ≡ old.room
