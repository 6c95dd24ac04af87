-- An open that is kept, worked by hand (RFC 8881 sections 9.7, 18.16 and 18.18), with the records of `LockKeptWorked`. A client `A` opens the
-- file `f`, which is made, for reading and writing, and denies others to write. It renews its lease with SEQUENCEs alone. A client `B` comes meanwhile, and asks
-- to open `f` for writing, 90 seconds behind the last renewal of A: it is denied. Then A opens `f` once more, for reading alone, which takes nothing from its
-- open; so B is denied again. Then A downgrades its open to reading, and B's OPEN is answered NFS4_OK.
use Rattle.std.specs.Prelude.{◌≡◌, ℕ, ◌+◌, ◌*◌, ◌^◌, true, false, List, [], ◌∷◌, ◌++◌}
use Rattle.nfs_xdr.specs.declared.status.Status.TheVariants.{Nfs4Ok, ShareDenied}
use Rattle.nfs_compound.specs.declared.op.Op.{Op}
use Rattle.nfs_opens.specs.Share.{neither}
use Rattle.nfs_files.specs.OpenTold.{OpenTold, Bits}
use Rattle.nfs_exec.specs.{Runs.Ops.RanOp}
use Rattle.nfs_promises.specs.Runs.{Requests.{handle, stateid, in_session, unchecked, opening_by}, OpenHeld.TellsOpen}
use Rattle.nfs_serve.specs.{Step.ServerState}
use Rattle.nfs_promises.specs.{Network.Endpoint.Arrival, Runs.Points.{state_after, state_after_all, ops_of}, Locks.{OpenKept.LeaveOpen, LockKeptWorked.came}}
use Rattle.nfs_promises.specs.Locks.LockKeptWorked.{waits, outset, statuses}

abbrev pub opening : (access deny : ℕ) → List Op
opening access deny = Op.PutRootFh ∷ opening_by (0x6f ∷ []) access deny unchecked (0x66 ∷ []) ∷ []

abbrev pub downgrading : List Op
downgrading = Op.PutFh (handle 2) ∷ Op.OpenDowngrade (record { open_stateid = stateid 2 1; seqid = 0; share_access = 1; share_deny = 0 }) ∷ []

-- for reading and writing, and nobody else may write
abbrev pub opens : Arrival
opens = came 102 3 (in_session 1 1 (opening 3 2))

-- B asks to write, at the last second of A's lease, and again
abbrev pub asks : Arrival
asks = came 372 8 (in_session 2 1 (opening 2 0))

abbrev pub opens_again : Arrival
opens_again = came 372 9 (in_session 1 4 (opening 1 0))

abbrev pub asks_again : Arrival
asks_again = came 372 10 (in_session 2 2 (opening 2 0))

abbrev pub downgrades : Arrival
downgrades = came 372 11 (in_session 1 5 downgrading)

abbrev pub asks_last : Arrival
asks_last = came 372 12 (in_session 2 3 (opening 2 0))

-- open 1 of client 1, whose owner is `o`, of object 2
abbrev pub its_open : OpenTold
its_open = record { number = 1; client = 7 * 2 ^ 32 + 1; owner = 0x6f ∷ []; file = 2 }

abbrev pub first_bits : Bits
first_bits = record { access = record { reads = true; writes = true }; deny = record { reads = false; writes = true } }

abbrev pub last_bits : Bits
last_bits = record { access = record { reads = true; writes = false }; deny = neither }

abbrev pub opened : ServerState
opened = state_after outset opens

abbrev pub asked : ServerState
asked = state_after_all opened waits

abbrev pub asked_again : ServerState
asked_again = state_after (state_after asked asks) opens_again

abbrev pub downgraded : ServerState
downgraded = state_after (state_after asked_again asks_again) downgrades

-- The run meets the premises of the promise, and computes to what it says.
pub record IsOpenTo : Type 0 where
  -- OPEN is the last operation of its compound, and tells the open
  pub front : List RanOp
  pub told : RanOp
  pub ops : ops_of outset opens ≡ front ++ told ∷ []
  pub tells : TellsOpen its_open first_bits told
  -- what follows comes in time, from that compound on, and does not close the open; and these are the bits that it has behind it
  pub kept : LeaveOpen its_open first_bits 90 102 opened (waits ++ asks ∷ opens_again ∷ asks_again ∷ downgrades ∷ []) (λ b last s. b ≡ last_bits)
  -- so B is denied while the open denies others to write, and then is not
  pub denied : statuses (ops_of asked asks) ≡ Nfs4Ok ∷ ShareDenied ∷ []
  pub joined : statuses (ops_of (state_after asked asks) opens_again) ≡ Nfs4Ok ∷ Nfs4Ok ∷ []
  pub again : statuses (ops_of asked_again asks_again) ≡ Nfs4Ok ∷ ShareDenied ∷ []
  pub narrowed : statuses (ops_of (state_after asked_again asks_again) downgrades) ≡ Nfs4Ok ∷ Nfs4Ok ∷ []
  pub granted : statuses (ops_of downgraded asks_last) ≡ Nfs4Ok ∷ Nfs4Ok ∷ []
