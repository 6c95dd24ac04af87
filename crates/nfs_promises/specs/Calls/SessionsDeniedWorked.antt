-- A session that ends, worked by hand over the run of `LockKeptWorked` (RFC 8881 sections 8.3, 18.36, 18.37 and 18.46). Client 1 of instance 7 makes its
-- session 1 and renews its lease in it in time. Where it is silent, or ends the session, the answer is NFS4ERR_BADSESSION; and no stateid of the client is known then.
use Rattle.std.specs.Prelude.{◌≡◌, List, [], ◌∷◌}
use Rattle.nfs_xdr.specs.declared.status.Status.TheVariants.{Nfs4Ok, BadStateId}
use Rattle.nfs_compound.specs.declared.op.Op.{Op}
use Rattle.nfs_exec.specs.Runs.Ops.{RanOp}
use Rattle.nfs_serve.specs.{Step.ServerState}
use Rattle.nfs_promises.specs.Runs.{Requests.{words, compound, session, stateid, exchange_id, create_session, in_session, reading}, Started.hasty_start}
use Rattle.nfs_promises.specs.{Runs.{Started.usual, Points.{state_after_all, reached, ops_of}}, Network.Endpoint.Arrival, Calls.NeverExpired.IsNotExpired}
use Rattle.nfs_promises.specs.{Calls.{SessionStaysWorked.{id, forgetful}, SessionsDenied.{IsBadSession, HasEnded, Stands}}, Locks.LockKeptWorked.{came, outset}}
use Rattle.nfs_promises.specs.Locks.{LockKeptWorked.{locks, renewal, waits, last_of, statuses}, OpenKeptWorked.opened}

-- behind EXCHANGE_ID of `A`, its CREATE_SESSION
abbrev pub known : ServerState
known = reached usual (came 100 1 (exchange_id 1 (0x41 ∷ [])) ∷ [])

abbrev pub creates : Arrival
creates = came 101 2 (create_session 1 1)

-- a SEQUENCE alone: at the last second of the client's lease, and 91 seconds behind its LOCK
abbrev pub goes_on : Arrival
goes_on = came 372 9 (in_session 1 4 [])

abbrev pub too_late : Arrival
too_late = came 193 4 (in_session 1 2 [])

-- a server whose leases last a second, behind A's LOCK
abbrev pub hasty : ServerState
hasty = reached hasty_start (came 100 1 (exchange_id 1 (0x41 ∷ [])) ∷ came 101 2 (create_session 1 1) ∷ locks ∷ [])

-- DESTROY_SESSION of session 1, and once more
abbrev pub destroys : Arrival
destroys = came 103 4 (compound (Op.DestroySession (session 1) ∷ []))

abbrev pub destroys_again : Arrival
destroys_again = came 104 5 (compound (Op.DestroySession (session 1) ∷ []))

-- A comes back when its lease has run out, and is given the client id 2
abbrev pub comes_back : List Arrival
comes_back = came 200 5 (exchange_id 1 (0x41 ∷ [])) ∷ came 201 6 (create_session 2 1) ∷ []

-- in its new session
abbrev pub reads : Arrival
reads = came 202 7 (in_session 2 1 (Op.PutRootFh ∷ Op.Lookup (0x66 ∷ []) ∷ reading (stateid 1 1) 0 8 ∷ []))

-- A restarts within its lease: EXCHANGE_ID of the same owner with another verifier, and CREATE_SESSION of the client id 2 that it is given
abbrev pub restarts : List Arrival
restarts = came 103 4 (exchange_id 2 (0x41 ∷ [])) ∷ came 104 5 (create_session 2 1) ∷ []

-- behind these records, which follow the CREATE_SESSION that made the session, the next one is denied for it; and one of them ended it, or the lease ran out
pub record IsDenied (between : List Arrival) (d : Arrival) : Type 0 where
  pub denied : IsBadSession id (state_after_all outset between) d
  pub ended : HasEnded id 90 101 outset between d

-- The runs meet the premises: the session was made, and its call is denied where the lease has run out, behind DESTROY_SESSION, and behind the client's restart; and a second
-- DESTROY_SESSION is.
pub record IsLeft : Type 0 where
  pub made : Stands id known creates
  pub left : HasEnded id 90 101 outset (locks ∷ waits) goes_on → ⊥
  pub run_out : IsDenied (locks ∷ []) too_late
  pub destroyed : IsDenied (locks ∷ destroys ∷ []) renewal
  pub again : IsDenied (locks ∷ destroys ∷ []) destroys_again
  pub restarted : IsDenied (locks ∷ restarts) renewal
  -- and NFS4ERR_BAD_STATEID where the open is gone with the lease
  pub back : statuses (ops_of (state_after_all opened comes_back) reads) ≡ Nfs4Ok ∷ Nfs4Ok ∷ BadStateId ∷ []

-- an operation that is answered NFS4ERR_EXPIRED: of READ
abbrev pub expired : RanOp → RanOp
expired d = record d { result = words (25 ∷ 10011 ∷ []) }

-- The promises refuse these.
pub record EndsAreRefused : Type 0 where
  -- a server that forgot the session denies A's first renewal, where nothing has ended it
  pub forgotten : IsBadSession id forgetful renewal × (HasEnded id 90 102 forgetful [] renewal → ⊥)
  -- one whose leases last a second denies it too, where the lease that attribute 10 gives has not run out
  pub early : IsBadSession id hasty renewal × (HasEnded id 90 102 hasty [] renewal → ⊥)
  -- a READ by the stateid of an open that went with its client's lease is answered NFS4ERR_EXPIRED
  pub expired : (d : RanOp) → IsNotExpired (expired (last_of d (ops_of (state_after_all opened comes_back) reads))) → ⊥
