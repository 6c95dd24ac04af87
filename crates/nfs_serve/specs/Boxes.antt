-- What contracts see of the bytes that are owed, and what a read leaves in an empty box; private contracts alone speak of it.
use Rattle.std.specs.Prelude.{◌≡◌, ℕ, ◌<◌, ◌≤◌, List, [], ◌∷◌, length, Option}
use Rattle.nfs_serve.specs.{Desk.{most_read, ReadBlocked, Failed}, Told.Logs, Deeds.Deed, declared.ports.Came.Came}
use Rattle.nfs_serve.specs.Desk as act
use Rattle.nfs_serve.specs.declared.ports.Came.TheVariants as read

-- the bytes, and how much of the room was laid out since it was last cleared
pub record OutboxModel : Type 0 where
  pub bytes : List ℕ
  pub laid : ℕ

abbrev pub Receives : ℕ → Came → List ℕ → Option (List Deed) → Option (List Deed) → Type 0
Receives port (read.Bytes n) now l0 l1 = (0 < length now) × (length now ≤ most_read) × Logs l0 l1 (record { port = port; act = act.Came now } ∷ [])
Receives port read.Blocked now l0 l1 = (now ≡ []) × Logs l0 l1 (record { port = port; act = ReadBlocked } ∷ [])
Receives port read.Ended now l0 l1 = (now ≡ []) × Logs l0 l1 (record { port = port; act = act.Ended } ∷ [])
Receives port read.Failed now l0 l1 = (now ≡ []) × Logs l0 l1 (record { port = port; act = Failed } ∷ [])
