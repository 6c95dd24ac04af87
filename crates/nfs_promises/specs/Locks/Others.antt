-- Nobody else touches what is a client's: what becomes of its opens, lock states, stateids and locked bytes while records of others come (RFC 8881
-- sections 8.2, 8.3 and 9.1).
use Rattle.std.specs.{Prelude.{◌≡◌, ℕ, ◌+◌, ◌≤◌, ◌<◌, ◌^◌, Bool, true, false, List, [], ◌∷◌}, Option.option_map_or}
use Rattle.nfs_names.specs.declared.start.Start.{Start}
use Rattle.nfs_files.specs.Own.{HasAsBefore}
use Rattle.nfs_exec.specs.Runs.Own.{IsAsBefore, is_named_by}
use Rattle.nfs_serve.specs.Step.{ServerState}
use Rattle.nfs_promises.specs.{Runs.Points.{state_after, state_after_all, reached, taken, before, asked_by}, Network.Endpoint.Arrival, Locks.LockKept.renews_by}
use Rattle.nfs_promises.specs.Locks.LockKept.{replaces_by}

-- These records are others' and come in time: none runs in a session of the client, each is taken at most one lease behind the moment `last`, and none
-- puts another id in the client's place.
abbrev pub AreOthers : ℕ → (lease last : ℕ) → ServerState → List Arrival → Type 0
AreOthers client lease last s [] = Unit {0}
AreOthers client lease last s (c ∷ more) =
    (renews_by client s c ≡ false)
    × (taken s c ≤ last + lease)
    × (replaces_by client s c ≡ false)
    × AreOthers client lease last (state_after s c) more

-- In every run of a server whose leases last so many seconds: whatever records of others come behind one that ran in a session of the client, while its
-- lease lasts, the client has what it had.
abbrev pub OthersLeaveAll : Type 0
OthersLeaveAll = (start : Start) (earlier : List Arrival) (c : Arrival) (client : ℕ) (others : List Arrival)
    → (let s = reached start earlier in
    renews_by client s c ≡ true → AreOthers client start.lease (taken s c) (state_after s c) others
    → HasAsBefore client (state_after s c).machine.store.opens (state_after_all (state_after s c) others).machine.store.opens)

-- what the record asks for names the client
abbrev pub is_named : ℕ → ServerState → Arrival → Bool
is_named client s c = option_map_or (is_named_by client (before s c)) (asked_by s c) false

-- None of these records names the client, and each is taken at most one lease behind the moment `last`.
abbrev pub AreStrangers : ℕ → (lease last : ℕ) → ServerState → List Arrival → Type 0
AreStrangers client lease last s [] = Unit {0}
AreStrangers client lease last s (c ∷ more) = (is_named client s c ≡ false) × (taken s c ≤ last + lease) × AreStrangers client lease last (state_after s c) more

-- What does not name a client leaves it all: its record, its sessions with the replies that they keep, its lease, and what it has open and locked.
abbrev pub StrangersChangeNothing : Type 0
StrangersChangeNothing = (start : Start) (earlier : List Arrival) (c : Arrival) (client : ℕ) (strangers : List Arrival) → start.instance < 2 ^ 32
    → (let s = reached start earlier in
    renews_by client s c ≡ true → AreStrangers client start.lease (taken s c) (state_after s c) strangers
    → IsAsBefore client (state_after s c).machine (state_after_all (state_after s c) strangers).machine)
