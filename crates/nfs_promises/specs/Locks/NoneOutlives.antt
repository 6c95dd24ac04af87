-- No lock outlives its client: a byte is held only where its client renewed, by the records, at most a lease before (RFC 8881 sections 8.3 and 9.5).
use Rattle.std.specs.{Prelude.{◌≡◌, ℕ, ◌+◌, ◌≤◌, ◌<◌, ◌^◌, false, List, [], ◌∷◌, Bool, Option, Some, None, if◌then◌else◌}, Option.option_map_or}
use Rattle.nfs_xdr.specs.Tables.{In}
use Rattle.nfs_ranges.specs.declared.Kind.{Kind}
use Rattle.nfs_opens.specs.{declared.records.LockState.LockState, Table.Table}
use Rattle.nfs_names.specs.{declared.start.Start.Start}
use Rattle.nfs_promises.specs.Runs.Renewing.{renews_or_begins}
use Rattle.nfs_serve.specs.{Step.{ServerState, new_state}}
use Rattle.nfs_promises.specs.{Network.Endpoint.Arrival, Runs.Points.{state_after, reached, taken, before, asked_by}}

-- a record renews a client's lease, or begins it
abbrev pub renewed_by : ℕ → ServerState → Arrival → Bool
renewed_by client s c = option_map_or (renews_or_begins client (before s c)) (asked_by s c) false

-- the moment of the last of these records that did
abbrev pub last_renewal : ℕ → Option ℕ → ServerState → List Arrival → Option ℕ
last_renewal client last s [] = last
last_renewal client last s (c ∷ more) = last_renewal client (if renewed_by client s c then Some (taken s c) else last) (state_after s c) more

-- lock state n stands in the table, of a client that renewed its lease by these moments at most a lease ago
pub record IsInTime (t : Table) (n lease now : ℕ) (renewal : ℕ → Option ℕ) : Type 0 where
  pub lock : LockState
  pub there : In lock t.locks
  pub number : lock.number ≡ n
  pub last : ℕ
  pub renewed : renewal lock.client ≡ Some last
  pub within : now ≤ last + lease

-- In every run, when a record's compound begins: whoever holds a byte of a file.
abbrev pub NoneOutlives : Type 0
NoneOutlives = (start : Start) (records : List Arrival) (c : Arrival) (file n byte : ℕ) (kind : Kind) → start.instance < 2 ^ 32
    → (let s = reached start records in
    (before s c).store.opens.held file n byte ≡ Some kind
    → IsInTime (before s c).store.opens n start.lease (taken s c) (λ client. last_renewal client None (new_state start) records))
