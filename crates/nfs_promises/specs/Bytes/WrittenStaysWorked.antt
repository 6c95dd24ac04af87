-- A byte that stays, worked by hand (RFC 8881 sections 18.2, 18.16, 18.22 and 18.32). To a new server of instance 7 comes a client `A`,
-- which makes the file `f`, writes four bytes to it, writes two more behind a gap, closes the file and reads it.
use Rattle.std.specs.Prelude.{◌≡◌, ℕ, List, [], ◌∷◌, ◌++◌}
use Rattle.nfs_compound.specs.declared.op_num.OpNum.TheVariants as Num
use Rattle.nfs_compound.specs.declared.op.Op.{Op}
use Rattle.nfs_results.specs.Results.{done_head}
use Rattle.nfs_names.specs.Context.{anonymous}
use Rattle.nfs_files.specs.Written.{Byte, Reads, bytes_in}
use Rattle.nfs_exec.specs.{Runs.Ops.RanOp, Runs.WrittenRun.{WritesIt, AreSpared, StandsBefore}}
use Rattle.nfs_serve.specs.{Step.ServerState}
use Rattle.nfs_promises.specs.{Runs.{Requests.{words, handle, stateid, in_session, closing, writing}, Points.{state_after, ops_of}}, Network.Endpoint.Arrival}
use Rattle.nfs_promises.specs.Locks.LockKeptWorked.{came, outset, last_of}
use Rattle.nfs_promises.specs.Network.SeenWrite as seen

abbrev pub makes : Arrival
makes = came 102 3 (in_session 1 1 seen.makes)

-- `seen` from byte 0 on
abbrev pub writes : Arrival
writes = came 103 4 (in_session 1 2 seen.writes)

abbrev pub goes_on : Arrival
goes_on = came 104 5 (in_session 1 3 (Op.PutRootFh ∷ Op.Lookup (0x66 ∷ []) ∷ writing anonymous 6 (0x6d ∷ 0x6f ∷ []) ∷ []))

abbrev pub closes : Arrival
closes = came 105 6 (in_session 1 4 (Op.PutFh (handle 2) ∷ closing (stateid 1 1) ∷ []))

-- at most 8 bytes from byte 0 on
abbrev pub reads : Arrival
reads = came 106 7 (in_session 1 5 seen.reads)

abbrev pub made : ServerState
made = state_after outset makes

abbrev pub written : ServerState
written = state_after made writes

abbrev pub grown : ServerState
grown = state_after written goes_on

abbrev pub closed : ServerState
closed = state_after grown closes

-- the first `e` of `seen`
abbrev pub byte : Byte
byte = record { file = 2; place = 1; value = 0x65 }

-- The run meets the premises of the promise, and computes to what it says.
pub record StaysTo : Type 0 where
  pub front : List RanOp
  pub write : RanOp
  pub ops : ops_of made writes ≡ front ++ write ∷ []
  pub tells : WritesIt byte write
  pub beside : AreSpared byte (ops_of written goes_on)
  pub shut : AreSpared byte (ops_of grown closes)
  -- READ is the last operation of its compound
  pub until : List RanOp
  pub read : RanOp
  pub last : ops_of closed reads ≡ until ++ read ∷ []
  pub spared : AreSpared byte until
  pub given : Reads byte.file byte.place read.context read.item read.result
  pub bytes : bytes_in given.text ≡ words (0x7365_656e ∷ 0x0000_6d6f ∷ [])

-- a READ that answers NFS4_OK and this
abbrev pub answering : List ℕ → RanOp → RanOp
answering text d = record d { result = done_head Num.Read ++ text }

-- the same in a state whose objects are gone, while their names are not
abbrev pub without_objects : RanOp → RanOp
without_objects d = record d { before = record d.before { store = record d.before.store { tree = record d.before.store.tree { objects = [] } } } }

-- The promise refuses these.
pub record BytesRefused : Type 0 where
  -- a server that answers zeros
  pub zeros : (d : RanOp) → StandsBefore byte (answering (words (1 ∷ 8 ∷ 0 ∷ 0 ∷ [])) (last_of d (ops_of closed reads))) → ⊥
  -- one that answers no byte, and that the file ends there
  pub none : (d : RanOp) → StandsBefore byte (answering (words (1 ∷ 0 ∷ [])) (last_of d (ops_of closed reads))) → ⊥
  -- one that has dropped the file at its last CLOSE
  pub gone : (d : RanOp) → StandsBefore byte (without_objects (last_of d (ops_of closed reads))) → ⊥
