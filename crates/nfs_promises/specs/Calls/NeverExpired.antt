-- Nobody is answered NFS4ERR_EXPIRED (RFC 8881 sections 8.4.3 and 15.1.5): what a client had is gone when its lease has run out, so its session is not known then
-- (NFS4ERR_BADSESSION), and its stateids are not (NFS4ERR_BAD_STATEID).
use Rattle.std.specs.Prelude.{◌≡◌, ℕ, List, take, drop}
use Rattle.nfs_xdr.specs.{Spelling.number, Tables.In}
use Rattle.nfs_names.specs.{declared.start.Start.Start}
use Rattle.nfs_exec.specs.Runs.Ops.{RanOp}
use Rattle.nfs_promises.specs.{Network.Endpoint.Arrival, Runs.Points.{reached, ops_of}}

-- the status in an operation's result stands behind its number
abbrev pub says : List ℕ → List ℕ
says result = take 4 (drop 4 result)

-- NFS4ERR_EXPIRED is 10011
abbrev pub IsNotExpired : RanOp → Type 0
IsNotExpired d = says d.result ≡ number 10011 → ⊥

-- In every run, of every operation that a compound runs behind its SEQUENCE.
abbrev pub NoneIsExpired : Type 0
NoneIsExpired = (start : Start) (records : List Arrival) (c : Arrival) (d : RanOp) → In d (ops_of (reached start records) c) → IsNotExpired d
