-- Denials worked by hand: one that is true, and wrong servers that the promise refuses (RFC 8881 sections 8.3 and 18.10). They are over the run of `LockKeptWorked`: A locks the
-- first byte of the file, and B asks for it.
use Rattle.std.specs.Prelude.{◌≡◌, ℕ, ◌+◌, ◌*◌, ◌^◌, true, List, [], ◌∷◌, ◌++◌, take}
use Rattle.nfs_xdr.specs.declared.status.Status.TheVariants.{Denied}
use Rattle.nfs_compound.specs.declared.lock_args.LockType.TheVariants as LockTypes
use Rattle.nfs_compound.specs.declared.op.Op.{Op}
use Rattle.nfs_results.specs.declared.res.Res.TheVariants as Res
use Rattle.nfs_results.specs.Results.{spell_result}
use Rattle.nfs_exec.specs.Runs.Ops.{RanOp}
use Rattle.nfs_promises.specs.Runs.{Requests.{handle, stateid, exchange_id, create_session, in_session, locking}, Started.usual, Points.{reached, ops_of}}
use Rattle.nfs_promises.specs.{Network.Endpoint.Arrival, Locks.LockKeptWorked.{came, opens_and_locks, earlier, locks, waits, clashes, outset, asked, last_of}}
use Rattle.nfs_promises.specs.Locks.{Denials.asks_for_lock, NoIsTrue.IsTrue}

abbrev pub before_clash : List Arrival
before_clash = earlier ++ locks ∷ waits

-- The run meets the premises: B's LOCK is denied.
pub record IsDeniedTruly : Type 0 where
  pub until : List RanOp
  pub lock : RanOp
  pub ops : ops_of (reached usual before_clash) clashes ≡ until ++ lock ∷ []
  pub asks : asks_for_lock lock.item ≡ true
  pub denied : lock.status ≡ Denied

-- an operation that answers NFS4ERR_DENIED, and these bytes
abbrev pub denies : List ℕ → RanOp → RanOp
denies result d = record d { status = Denied; result = result }

-- a report that gives the first byte to an owner of B, which asks
abbrev pub blames_another : List ℕ
blames_another = spell_result (Res.LockDenied (record {
  offset = 0;
  length = 1;
  locktype = LockTypes.Write;
  owner = record { clientid = 7 * 2 ^ 32 + 2; owner = 0x6c ∷ [] };
}))

-- A is silent from its LOCK on; B comes, and asks for the byte when A's lease has run out
abbrev pub silence : List Arrival
silence = earlier ++ locks ∷ came 200 5 (exchange_id 1 (0x42 ∷ [])) ∷ came 201 6 (create_session 2 1) ∷ []

abbrev pub asks_late : Arrival
asks_late = came 202 7 (in_session 2 1 (opens_and_locks 0))

-- A asks for its byte once more, for the same lock owner
abbrev pub asks_again : Arrival
asks_again = came 103 4 (in_session 1 2 (Op.PutFh (handle 2) ∷ locking (0x6c ∷ []) (stateid 1 1) 0 1 ∷ []))

abbrev pub before_again : List Arrival
before_again = earlier ++ locks ∷ []

pub record DenialsRefused : Type 0 where
  -- A's LOCK is denied, whatever is reported, where nobody locked a byte
  pub nobody : (d : RanOp) (result : List ℕ) → IsTrue usual earlier locks (take 2 (ops_of outset locks)) (denies result (last_of d (ops_of outset locks))) → ⊥
  -- B's LOCK is denied, whatever is reported, 100 seconds behind A's last renewal
  pub run_out : (d : RanOp) (result : List ℕ)
      → (let ds = ops_of (reached usual silence) asks_late in IsTrue usual silence asks_late (take 2 ds) (denies result (last_of d ds))) → ⊥
  -- the report gives B's own client for A's lock
  pub another : (d : RanOp)
      → (let ds = ops_of asked clashes in IsTrue usual before_clash clashes (take 2 ds) (denies blames_another (last_of d ds))) → ⊥
  -- A's second LOCK is denied, whatever is reported, where A's own lock alone is in its way
  pub own : (d : RanOp) (result : List ℕ)
      → (let ds = ops_of (reached usual before_again) asks_again in IsTrue usual before_again asks_again (take 1 ds) (denies result (last_of d ds))) → ⊥
