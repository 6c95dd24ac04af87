-- What runs out and what stays: expiry ends all that a client has whose lease has run out, and leaves every other client what it has (RFC 8881 section 8.3).
use Rattle.std.specs.Prelude.{◌≡◌, ℕ, true, false, [], Some, None}
use Rattle.nfs_xdr.specs.Tables.{In}
use Rattle.nfs_clients.specs.Roster.{client_at}
use Rattle.nfs_lease.specs.Renewals.{has_run_out}
use Rattle.nfs_ranges.specs.declared.Kind.{Kind}
use Rattle.nfs_opens.specs.declared.records.LockState.{LockState}
use Rattle.nfs_files.specs.Own.{opens_of, locks_of}
use Rattle.nfs_exec.specs.{Step.Machine.Machine, Step.Expiry.expired, Runs.Own.{sessions_of, IsAsBefore}}

-- it has no record, no session, no lease, no open and no lock state
pub record HasNothing (client : ℕ) (m : Machine) : Type 0 where
  pub known : client_at m.clients client ≡ None
  pub sessions : sessions_of client m.sessions ≡ []
  pub lease : m.leases client ≡ None
  pub opens : opens_of client m.store.opens ≡ []
  pub locks : locks_of client m.store.opens ≡ []

-- a lock state of a client whose lease had not run out
pub record StaysBy (m : Machine) (now n : ℕ) : Type 0 where
  pub lock : LockState
  pub there : In lock m.store.opens.locks
  pub number : lock.number ≡ n
  pub lasts : has_run_out m.store.lease m.leases now lock.client ≡ false

-- At a moment, of a machine: by whether a client's lease has run out; and each byte that is held then is held by a lock state that stays.
pub record EndsOnlyThose (m : Machine) (now : ℕ) : Type 0 where
  pub ended : (client : ℕ) → has_run_out m.store.lease m.leases now client ≡ true → HasNothing client (expired now m)
  pub spared : (client : ℕ) → has_run_out m.store.lease m.leases now client ≡ false → IsAsBefore client m (expired now m)
  pub held : (file n byte : ℕ) (kind : Kind) → (expired now m).store.opens.held file n byte ≡ Some kind → StaysBy m now n

abbrev pub WhatRunsOutEnds : Type 0
WhatRunsOutEnds = (m : Machine) (now : ℕ) → EndsOnlyThose m now
