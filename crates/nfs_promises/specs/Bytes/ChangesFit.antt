-- The change of an object is told whole: it is below 2^64 in every run, so the eight bytes of attribute 3 are the change itself; and what would raise the last one is refused
-- (RFC 8881 sections 5.8.1.4, 15.1 and 18.7).
use Rattle.std.specs.Prelude.{◌≡◌, ℕ, ◌^◌, ◌-◌, ◌<◌, true, false, List}
use Rattle.nfs_xdr.specs.{Spelling.hyper, Tables.In}
use Rattle.nfs_tree.specs.Files.{is_there, change_of}
use Rattle.nfs_attrs.specs.Mask.{mask_of, has}
use Rattle.nfs_names.specs.{declared.start.Start.Start, Outcome.is_ok}
use Rattle.nfs_promises.specs.Runs.AttributesTold.{TellsValue}
use Rattle.nfs_exec.specs.{Runs.Ops.RanOp}
use Rattle.nfs_promises.specs.{Bytes.{ChangeSeen.Changes, ChangeTells.GetsOf}, Network.Endpoint.Arrival, Runs.Points.{reached, ops_of}}

-- In every run, before each operation and behind it.
abbrev pub ChangesFit : Type 0
ChangesFit = (start : Start) (records : List Arrival) (c : Arrival) (d : RanOp) (n : ℕ) → In d (ops_of (reached start records) c)
    → (change_of d.before.store.tree n < 2 ^ 64) × (change_of d.behind.store.tree n < 2 ^ 64)

-- So the number that a GETATTR of attribute 3 gives, if it is answered NFS4_OK, is the object's change.
abbrev pub ChangeIsRead : Type 0
ChangeIsRead = (start : Start) (records : List Arrival) (c : Arrival) (d : RanOp) (n : ℕ) (words : List ℕ) (change : ℕ)
    → In d (ops_of (reached start records) c) → GetsOf n words d → has (mask_of words) 3 ≡ true
    → change < 2 ^ 64 → TellsValue d.before.store.tree.profile 3 (hyper change) (mask_of words) d.result → change ≡ change_of d.before.store.tree n

-- And what would change an object that has the last one is not answered NFS4_OK.
abbrev pub LastStays : Type 0
LastStays = (start : Start) (records : List Arrival) (c : Arrival) (d : RanOp) (n : ℕ) → In d (ops_of (reached start records) c)
    → is_there d.before.store.tree n ≡ true → change_of d.before.store.tree n ≡ 2 ^ 64 - 1 → Changes n d → is_ok d.status ≡ false
