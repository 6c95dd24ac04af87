-- Refusals for an open's sake, worked by hand: some that are true, and wrong servers that the promises refuse (RFC 8881 sections 9.7, 18.16 and 18.32). They are over the
-- run of `OpenKeptWorked`: A opens the file `f`, and denies others to write; B asks to open it for writing, and A writes to it under the anonymous stateid.
use Rattle.std.specs.Prelude.{◌≡◌, List, [], ◌∷◌, ◌++◌, take, Some}
use Rattle.nfs_xdr.specs.declared.status.Status.TheVariants.{ShareDenied, Locked}
use Rattle.nfs_compound.specs.{declared.open_args.Open.Open, declared.op.Item.TheVariants.Operation, declared.stateid.Stateid.Stateid}
use Rattle.nfs_compound.specs.declared.op.Op.TheVariants as Op
use Rattle.nfs_opens.specs.declared.share.Share.{Share}
use Rattle.nfs_files.specs.Bytes.{writing}
use Rattle.nfs_exec.specs.Runs.Ops.{RanOp}
use Rattle.nfs_promises.specs.Runs.{Requests.{words, exchange_id, create_session, in_session}, Started.usual, Points.{reached, ops_of}}
use Rattle.nfs_promises.specs.{Network.Endpoint.Arrival, Locks.{OpenKeptWorked.{opening, opens, asks}, LockKeptWorked.{came, earlier, waits, outset, last_of}}}
use Rattle.nfs_promises.specs.Locks.{WrongOpens.reads_too, SharesDenied.{IsForbidden, by_stateid, IsShut}}
use Rattle.nfs_promises.specs.Network.SeenWrite as seen

abbrev pub before_asks : List Arrival
before_asks = earlier ++ opens ∷ waits

-- A writes to `f` under the anonymous stateid, which its own open denies too
abbrev pub writes : Arrival
writes = came 103 4 (in_session 1 2 seen.writes)

abbrev pub before_writes : List Arrival
before_writes = earlier ++ opens ∷ []

-- to open the file for writing, by the owner `o`, and denying nothing
abbrev pub to_write : Open
to_write = record reads_too { share_access = 2 }

-- The runs meet the premises: B's OPEN is answered NFS4ERR_SHARE_DENIED, and A's WRITE NFS4ERR_LOCKED.
pub record AreRefusedTruly : Type 0 where
  pub until : List RanOp
  pub opening : RanOp
  pub ops : ops_of (reached usual before_asks) asks ≡ until ++ opening ∷ []
  pub asked : opening.item ≡ Operation (Op.Open to_write)
  pub denied : opening.status ≡ ShareDenied
  pub before : List RanOp
  pub write : RanOp
  pub wrote : ops_of (reached usual before_writes) writes ≡ before ++ write ∷ []
  pub given : Stateid
  pub by : by_stateid write.item ≡ Some (given, writing)
  pub locked : write.status ≡ Locked

-- A is silent from its OPEN on; B comes, and asks to open the file, and to write to it, when A's lease has run out
abbrev pub silence : List Arrival
silence = earlier ++ opens ∷ came 200 5 (exchange_id 1 (0x42 ∷ [])) ∷ came 201 6 (create_session 2 1) ∷ []

abbrev pub asks_late : Arrival
asks_late = came 202 7 (in_session 2 1 (opening 2 0))

abbrev pub writes_late : Arrival
writes_late = came 202 7 (in_session 2 1 seen.writes)

-- A's owner asks to open the file once more, for writing
abbrev pub asks_again : Arrival
asks_again = came 103 4 (in_session 1 2 (opening 2 0))

-- the stateid of open 1
abbrev pub of_open : Stateid
of_open = record { seqid = 1; other = words (7 ∷ 0 ∷ 1 ∷ []) }

pub record SharesRefused : Type 0 where
  -- A's first OPEN is answered NFS4ERR_SHARE_DENIED, where nobody opened a file
  pub nobody : (d : RanOp) (a : Open) → IsForbidden usual earlier opens (take 1 (ops_of outset opens)) d a → ⊥
  -- B's OPEN is, 100 seconds behind A's last renewal
  pub run_out : (d : RanOp) (a : Open) → IsForbidden usual silence asks_late (take 1 (ops_of (reached usual silence) asks_late)) d a → ⊥
  -- A's second OPEN is, where the open of its own owner alone denies it
  pub own : (d : RanOp)
      → (let ds = ops_of (reached usual before_writes) asks_again in IsForbidden usual before_writes asks_again (take 1 ds) (last_of d ds) to_write → ⊥)
  -- a WRITE is answered NFS4ERR_LOCKED, where nobody opened a file
  pub unopened : (d : RanOp) (given : Stateid) (wanted : Share) → IsShut usual earlier opens (take 1 (ops_of outset opens)) d given wanted → ⊥
  -- B's WRITE is, 100 seconds behind A's last renewal
  pub late : (d : RanOp) (given : Stateid) (wanted : Share) → IsShut usual silence writes_late (take 2 (ops_of (reached usual silence) writes_late)) d given wanted → ⊥
  -- a WRITE by the stateid of an open is
  pub by_open : (records : List Arrival) (c : Arrival) (until : List RanOp) (d : RanOp) (wanted : Share) → IsShut usual records c until d of_open wanted → ⊥
