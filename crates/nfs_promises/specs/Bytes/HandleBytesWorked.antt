-- Bytes that are read by a filehandle, worked by hand (RFC 8881 sections 18.19, 18.22 and 18.32).
use Rattle.std.specs.Prelude.{◌≡◌, ℕ, List, [], ◌∷◌, ◌++◌, Some}
use Rattle.nfs_compound.specs.declared.op.Op.{Op}
use Rattle.nfs_results.specs.Results.{done_head}
use Rattle.nfs_names.specs.Context.{anonymous}
use Rattle.nfs_files.specs.Written.{Reads}
use Rattle.nfs_exec.specs.Runs.{Ops.RanOp, WrittenRun.WritesIt}
use Rattle.nfs_serve.specs.Step.{ServerState}
use Rattle.nfs_promises.specs.{Runs.{Requests.{words, in_session, reading, writing}, Points.{state_after, ops_of}}, Network.Endpoint.Arrival}
use Rattle.nfs_promises.specs.{Names.{HandlesWorked.given, KnownHandles.{starts, known_after}, KnownHandlesWorked.found}, Locks.LockKeptWorked.came}
use Rattle.nfs_promises.specs.Bytes.HandleBytes.{ByteAt, in_file, ReadsBack}
use Rattle.nfs_compound.specs.declared.op_num.OpNum.TheVariants as Num

abbrev pub writes : Arrival
writes = came 105 5 (in_session 1 3 (Op.PutFh given ∷ writing anonymous 0 (0x73 ∷ 0x65 ∷ 0x65 ∷ 0x6e ∷ []) ∷ []))

abbrev pub reads : Arrival
reads = came 106 6 (in_session 1 4 (Op.PutFh given ∷ reading anonymous 0 8 ∷ []))

abbrev pub written : ServerState
written = state_after found writes

-- the first `e` of `seen`
abbrev pub byte : ByteAt
byte = record { handle = given; place = 1; value = 0x65 }

-- a READ that answers NFS4_OK and this
abbrev pub answering : List ℕ → RanOp → RanOp
answering text d = record d { result = done_head Num.Read ++ text }

-- The run meets the premises, and its READ is given the byte. The promise refuses a server that answers zeros, as one does whose PUTFH leads to another file.
pub record AreReadBack : Type 0 where
  pub put : RanOp
  pub write : RanOp
  pub wrote : ops_of found writes ≡ put ∷ write ∷ []
  pub known : (top : List ℕ) → (known_after top (starts []) put).current ≡ Some given
  pub brings : WritesIt (in_file 2 byte) write
  pub again : RanOp
  pub read : RanOp
  pub looked : ops_of written reads ≡ again ∷ read ∷ []
  pub given_it : Reads 2 byte.place read.context read.item read.result
  pub zeros : (top : List ℕ) → ReadsBack top byte (starts []) (again ∷ answering (words (1 ∷ 8 ∷ 0 ∷ 0 ∷ [])) read ∷ []) → ⊥
