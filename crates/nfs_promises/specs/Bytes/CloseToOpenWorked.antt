-- Close-to-open, worked by hand (RFC 8881 section 10.3.1), with the records of `WrittenStaysWorked`. A client `A` makes the file `f`. A client `B` asks for
-- its change, and reads it: it has no bytes. Then A writes four bytes, and closes. B opens the file, and finds another change; it reads the four bytes. It opens the file
-- once more, and finds the change that it has kept.
use Rattle.std.specs.Prelude.{◌≡◌, ℕ, List, [], ◌∷◌, ◌++◌}
use Rattle.nfs_compound.specs.declared.op_num.OpNum.TheVariants as Num
use Rattle.nfs_compound.specs.declared.op.Op.{Op}
use Rattle.nfs_compound.specs.declared.open_args.OpenHow.TheVariants.{NoCreate}
use Rattle.nfs_results.specs.Results.{done_head}
use Rattle.nfs_files.specs.Written.{GivesIt, bytes_in}
use Rattle.nfs_exec.specs.Runs.Ops.{RanOp}
use Rattle.nfs_serve.specs.{Step.{ServerState, new_state}}
use Rattle.nfs_promises.specs.Runs.{Requests.{words, handle, stateid, exchange_id, create_session, in_session, opening_by, closing}, Started.usual}
use Rattle.nfs_promises.specs.{Runs.Points.{state_after, ops_of}, Bytes.{CloseToOpen.{TellsChange, Keeps, IsWritten}, WrittenStaysWorked.{makes, made, byte}}}
use Rattle.nfs_promises.specs.{Network.Endpoint.Arrival, Locks.LockKeptWorked.{came, last_of}, Names.ListsAll.all_ops}
use Rattle.nfs_promises.specs.Network.SeenWrite as seen

-- attribute 3, change
abbrev pub the_change : List ℕ
the_change = 8 ∷ []

abbrev pub comes : Arrival
comes = came 103 4 (exchange_id 1 (0x42 ∷ []))

abbrev pub begins : Arrival
begins = came 104 5 (create_session 2 1)

abbrev pub looks : Arrival
looks = came 105 6 (in_session 2 1 (Op.PutRootFh ∷ Op.Lookup (0x66 ∷ []) ∷ Op.GetAttr (8 ∷ []) ∷ []))

abbrev pub reads_early : Arrival
reads_early = came 106 7 (in_session 2 2 seen.reads)

abbrev pub writes : Arrival
writes = came 107 8 (in_session 1 2 seen.writes)

abbrev pub closes : Arrival
closes = came 108 9 (in_session 1 3 (Op.PutFh (handle 2) ∷ closing (stateid 1 1) ∷ []))

abbrev pub opens : (now xid number : ℕ) → Arrival
opens now xid number = came now xid (in_session 2 number (Op.PutRootFh ∷ opening_by (0x70 ∷ []) 1 0 NoCreate (0x66 ∷ []) ∷ Op.GetAttr (8 ∷ []) ∷ []))

abbrev pub first_open : Arrival
first_open = opens 109 10 3

abbrev pub reads : Arrival
reads = came 110 11 (in_session 2 4 seen.reads)

abbrev pub second_open : Arrival
second_open = opens 111 12 5

abbrev pub records : List Arrival
records =
    came 100 1 (exchange_id 1 (0x41 ∷ []))
    ∷ came 101 2 (create_session 1 1)
    ∷ makes
    ∷ comes
    ∷ begins
    ∷ looks
    ∷ reads_early
    ∷ writes
    ∷ closes
    ∷ first_open
    ∷ reads
    ∷ second_open
    ∷ []

-- the states between them
abbrev pub there : ServerState
there = state_after made comes

abbrev pub ready : ServerState
ready = state_after there begins

abbrev pub looked : ServerState
looked = state_after ready looks

abbrev pub read_early : ServerState
read_early = state_after looked reads_early

abbrev pub written : ServerState
written = state_after read_early writes

abbrev pub closed : ServerState
closed = state_after written closes

abbrev pub opened : ServerState
opened = state_after closed first_open

abbrev pub read_again : ServerState
read_again = state_after opened reads

-- The run meets the premises of the promise: the second OPEN finds the change that the first one found, which is 2. B has kept the four bytes.
pub record IsKept : Type 0 where
  pub until : List RanOp
  pub asks : RanOp
  pub run : all_ops (new_state usual) records ≡ until ++ asks ∷ []
  pub kept : Keeps byte 2 until
  pub wrote : IsWritten byte until
  pub tells : TellsChange 2 2 asks
  pub given : bytes_in kept.reads.text ≡ words (0x7365_656e ∷ [])

-- a GETATTR of the change that is answered NFS4_OK and this change
abbrev pub telling : ℕ → RanOp → RanOp
telling change d = record d { result = done_head Num.GetAttr ++ words (1 ∷ 8 ∷ 8 ∷ 0 ∷ change ∷ []) }

-- A server whose WRITE keeps the change gives 1 to the first OPEN, which B has kept; but what it has kept is no byte of A. So the promise refuses such a server.
pub record StaleIsRefused (asks : RanOp) : Type 0 where
  pub until : List RanOp
  pub kept : Keeps byte 1 until
  pub wrote : IsWritten byte until
  pub tells : TellsChange 2 1 (telling 1 asks)
  pub old : GivesIt byte kept.read.context kept.read.item kept.read.result kept.reads → ⊥

abbrev pub StaleBytesRefused : Type 0
StaleBytesRefused = (d : RanOp) → StaleIsRefused (last_of d (ops_of closed first_open))
