-- A lock that is kept, worked by hand (RFC 8881 sections 8.3, 18.10, 18.12 and 18.16). To a new server of instance 7,
-- whose leases last 90 seconds, comes a client `A`, which makes the file `f` and locks its first byte. It renews its lease with SEQUENCEs
-- alone, each 90 seconds behind the last. A client `B` comes meanwhile, opens `f`, and asks for the byte 90 seconds behind the last renewal:
-- it is denied. Then A unlocks.
use Rattle.std.specs.Prelude.{◌≡◌, ℕ, ◌+◌, ◌*◌, ◌^◌, ◌≤◌, List, [], ◌∷◌, ◌++◌, map, Some, None}
use Rattle.nfs_xdr.specs.{declared.status.Status.Status, declared.status.Status.TheVariants.{Nfs4Ok, Denied}}
use Rattle.nfs_compound.specs.declared.op.Op.{Op}
use Rattle.nfs_ranges.specs.declared.Kind.TheVariants.{Write}
use Rattle.nfs_opens.specs.declared.locking.Wish.{Wish}
use Rattle.nfs_files.specs.LockTold.{LockTold}
use Rattle.nfs_exec.specs.{Runs.Ops.RanOp, Runs.LockHeld.{LocksFor, AreSpared, Tells}}
use Rattle.nfs_serve.specs.{Step.{ServerState, new_state}}
use Rattle.nfs_promises.specs.Runs.Requests.{in_session, words, handle, stateid, current_stateid, exchange_id, create_session, unchecked, opening_by, locking}
use Rattle.nfs_promises.specs.Runs.{Requests.unlocking, Started.usual, Points.{state_after, state_after_all, reached, taken, before, ops_of}}
use Rattle.nfs_promises.specs.{Network.{Endpoint.Arrival, LostReply.call}, Locks.{LockKept.AreInTime, NoneOutlives.last_renewal}}

abbrev pub came : (now xid : ℕ) → List ℕ → Arrival
came now xid args = record { bytes = call xid args; now = now; choice = None }

abbrev pub opens_and_locks : (offset : ℕ) → List Op
opens_and_locks offset = Op.PutRootFh ∷ opening_by (0x6f ∷ []) 3 0 unchecked (0x66 ∷ []) ∷ locking (0x6c ∷ []) current_stateid offset 1 ∷ []

abbrev pub unlocks : List Op
unlocks = Op.PutFh (handle 2) ∷ unlocking (stateid 1 2) 0 1 ∷ []

abbrev pub earlier : List Arrival
earlier = came 100 1 (exchange_id 1 (0x41 ∷ [])) ∷ came 101 2 (create_session 1 1) ∷ []

abbrev pub locks : Arrival
locks = came 102 3 (in_session 1 1 (opens_and_locks 0))

-- the first renewal of A is at the last second, and so is the second
abbrev pub renewal : Arrival
renewal = came 192 4 (in_session 1 2 [])

abbrev pub waits : List Arrival
waits = renewal ∷ came 200 5 (exchange_id 1 (0x42 ∷ [])) ∷ came 282 6 (in_session 1 3 []) ∷ came 283 7 (create_session 2 1) ∷ []

-- B asks at the last second of A's lease
abbrev pub clashes : Arrival
clashes = came 372 8 (in_session 2 1 (opens_and_locks 0))

-- or B asks for the byte behind it
abbrev pub goes_beside : Arrival
goes_beside = came 372 8 (in_session 2 1 (opens_and_locks 1))

abbrev pub gives_up : Arrival
gives_up = came 372 9 (in_session 1 4 unlocks)

abbrev pub outset : ServerState
outset = reached usual earlier

abbrev pub locked : ServerState
locked = state_after outset locks

abbrev pub asked : ServerState
asked = state_after_all locked waits

-- Lock state 2 of client 1, under open 1: byte 0 of object 2, as Write.
abbrev pub told : LockTold
told = record { state = 2; client = 7 * 2 ^ 32 + 1; opened = 1; file = 2; kind = Write; first = 0; last = 0 }

-- what a LOCK of a client asks for, and what it answers behind NFS4_OK: the stateid of a lock state, whose seqid is 1
abbrev pub wish : (client offset : ℕ) → Wish
wish client offset = record { client = 7 * 2 ^ 32 + client; file = 2; kind = Write; first = offset; last = offset }

abbrev pub stateid_of_lock : (number : ℕ) → List ℕ
stateid_of_lock number = words (1 ∷ 7 ∷ 0 ∷ number ∷ [])

-- the last of these operations; what stands in front of them is of no account
abbrev pub last_of : RanOp → List RanOp → RanOp
last_of d [] = d
last_of d (e ∷ ds) = last_of e ds

abbrev pub statuses : List RanOp → List Status
statuses ds = map (λ d. d.status) ds

-- The run meets the premises of the promise, and computes to what it says.
pub record IsHeldTo : Type 0 where
  -- LOCK is the last operation of its compound, and tells the lock
  pub front : List RanOp
  pub lock : RanOp
  pub ops : ops_of outset locks ≡ front ++ lock ∷ []
  pub tells : Tells told lock
  -- what follows comes in time, from that compound on, and spares the lock
  pub kept : AreInTime told 90 102 locked (waits ++ clashes ∷ []) (λ last t. Unit {0})
  -- so the byte is held when B asks for it, and it is denied
  pub held : asked.machine.store.opens.held 2 2 0 ≡ Some Write
  pub denied : statuses (ops_of asked clashes) ≡ Nfs4Ok ∷ Nfs4Ok ∷ Denied ∷ []
  -- it is held until A unlocks, and then by nobody
  pub still : (state_after asked clashes).machine.store.opens.held 2 2 0 ≡ Some Write
  pub unlocked : (state_after (state_after asked clashes) gives_up).machine.store.opens.held 2 2 0 ≡ None

-- The premises of the other promises are met in that run: the byte is still held when B asks, 90 seconds behind the last renewal of A; and where B asks for the
-- byte beside it, both are told.
pub record AreBothTold : Type 0 where
  pub renewed : last_renewal told.client None (new_state usual) (earlier ++ locks ∷ waits) ≡ Some 282
  pub moment : taken asked clashes ≡ 372
  pub held : (before asked clashes).store.opens.held 2 2 0 ≡ Some Write
  pub until : List RanOp
  pub second : RanOp
  pub locks : LocksFor second 4 (wish 2 1)
  pub between : AreInTime told 90 102 locked waits
      (λ last t. (ops_of t goes_beside ≡ until ++ second ∷ []) × (taken t goes_beside ≤ last + 90) × AreSpared told until)
