-- What proofs call parts of definitions by.
use Rattle.std.specs.{Prelude.{ℕ, ◌%◌, ◌^◌, true, false, List, Option, None}, Option.option_map_or}
use Rattle.nfs_clients.specs.Roster.{ClientRecord, Roster, next_id, without}

-- the counter of an id is its last four bytes
abbrev pub counter_of : ℕ → ℕ
counter_of id = id % 2 ^ 32

-- the record that is added
abbrev pub new_client : Roster → (owner verifier : List ℕ) → (uid : ℕ) → ClientRecord
new_client t owner verifier uid = record {
  id = next_id t;
  owner = owner;
  verifier = verifier;
  uid = uid;
  confirmed = false;
  number = 1;
  kept = None;
  reclaimed = false;
}

abbrev pub without_any : Roster → Option ℕ → Roster
without_any t gone = option_map_or (without t) gone t

abbrev pub confirms : ClientRecord → ClientRecord
confirms c = record c { confirmed = true }
