-- What holds over any run of changes of a client table.
use Rattle.std.specs.Prelude.{◌≡◌, ℕ, ◌<◌, ◌^◌, Bool, List, [], ◌∷◌, None}
use Rattle.nfs_clients.specs.{declared.created.CreateResult.CreateResult, Roster.{Roster, IsRoster, no_clients, next_id, client_at, without}}
use Rattle.nfs_clients.specs.{ExchangeId.{Ask, exchange}, CreateSession.{with_kept, with_confirmed}, Calls.destroyed, Marks.with_reclaimed}

-- what changes a table
pub data Change : Type 0 where
  Exchanges : Ask → Change
  Confirms : ℕ → Change
  Keeps : ℕ → CreateResult → Change
  Reclaims : ℕ → Change
  Destroys : ℕ → (has_session has_open : Bool) → Change
  Removes : ℕ → Change

abbrev pub changed : Roster → Change → Roster
changed t (Exchanges ask) = (exchange t ask).after
changed t (Confirms id) = with_confirmed t id
changed t (Keeps id result) = with_kept t id result
changed t (Reclaims id) = with_reclaimed t id
changed t (Destroys id has_session has_open) = destroyed t id has_session has_open
changed t (Removes id) = without t id

abbrev pub after_all : Roster → List Change → Roster
after_all t [] = t
after_all t (change ∷ changes) = after_all (changed t change) changes

-- An id that was given and names no record names none ever after.
abbrev pub IdsAreGivenOnce : Type 0
IdsAreGivenOnce = (t : Roster) (changes : List Change) (id : ℕ) → id < next_id t → client_at t id ≡ None → client_at (after_all t changes) id ≡ None

-- Each table that the calls reach is in rising order of its ids, has at most one confirmed and one unconfirmed record an owner, and at most as many records as
-- the first was to have.
abbrev pub TablesAreInOrder : Type 0
TablesAreInOrder = (instance most : ℕ) (changes : List Change) → instance < 2 ^ 32
    → IsRoster (after_all (no_clients instance most) changes) × ((after_all (no_clients instance most) changes).most ≡ most)
