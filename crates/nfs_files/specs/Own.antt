-- What a client has open and locked: its opens, its lock states and the bytes that these hold (RFC 8881 sections 8.2, 9.1 and 9.7).
use Rattle.std.specs.Prelude.{◌≡◌, ℕ, ◌==◌, List, filter}
use Rattle.nfs_xdr.specs.Tables.{In}
use Rattle.nfs_opens.specs.{declared.records.OpenState.OpenState, declared.records.LockState.LockState, Table.Table}

abbrev pub opens_of : ℕ → Table → List OpenState
opens_of client t = filter (λ o. o.client == client) t.opens

abbrev pub locks_of : ℕ → Table → List LockState
locks_of client t = filter (λ l. l.client == client) t.locks

-- The client has the same in both tables: no open and no lock state less, more or changed, so that each stateid of it stands with its seqid; and each
-- of its lock states holds the same bytes in the same way.
pub record HasAsBefore (client : ℕ) (before behind : Table) : Type 0 where
  pub opens : opens_of client behind ≡ opens_of client before
  pub locks : locks_of client behind ≡ locks_of client before
  pub bytes : (l : LockState) → In l before.locks → l.client ≡ client → (file byte : ℕ) → behind.held file l.number byte ≡ before.held file l.number byte
  pub instance : behind.instance ≡ before.instance
