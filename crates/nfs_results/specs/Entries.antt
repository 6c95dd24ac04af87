-- The entries of a directory as a reply lends them.
use Rattle.std.specs.{Prelude.{◌≡◌, ℕ, List, [], Option, Some, None}, List.AllByRecursion}
use Rattle.nfs_xdr.specs.Chain.{spell_chain, chain}
use Rattle.nfs_results.specs.{declared.res.Entry.Entry, Items.entry}

abbrev pub in_front : Option (List Entry × List ℕ) → List Entry
in_front None = []
in_front (Some x) = x.0

-- those that stand spelled at the front, if any do
abbrev pub entries_in : List ℕ → List Entry
entries_in bytes = in_front ((chain entry).read bytes)

-- the bytes are the spelling of entries and nothing else
pub record AreEntries (bytes : List ℕ) : Type 0 where
  pub spelled : bytes ≡ spell_chain entry.spell (entries_in bytes)
  pub fit : AllByRecursion entry.Fits (entries_in bytes)
