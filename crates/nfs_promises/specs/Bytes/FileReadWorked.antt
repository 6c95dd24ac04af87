-- A file that is read, worked by hand over the run of `WrittenStaysWorked`, and wrong answers that the promise refuses (RFC 8881 sections 18.22, 18.30 and 18.32). The file `f`
-- is made, four bytes are written, and two more behind a gap; it is closed and read. Then it is cut to two bytes, grows to six, and is read once more.
use Rattle.std.specs.Prelude.{◌≡◌, ℕ, List, [], ◌∷◌, ◌++◌}
use Rattle.nfs_compound.specs.declared.op.Op.{Op}
use Rattle.nfs_names.specs.Context.{anonymous}
use Rattle.nfs_files.specs.FileImage.{Image, unwritten, bytes_read, read_answer}
use Rattle.nfs_exec.specs.Runs.Ops.{RanOp}
use Rattle.nfs_serve.specs.{Step.ServerState}
use Rattle.nfs_promises.specs.{Runs.{Requests.{words, in_session}, Points.{state_after, ops_of}}, Network.Endpoint.Arrival, Locks.LockKeptWorked.came}
use Rattle.nfs_promises.specs.{Locks.LockKeptWorked.{outset, last_of}, Bytes.WrittenStaysWorked.{makes, made, writes, written, goes_on, grown, closes, closed}}
use Rattle.nfs_promises.specs.Bytes.{WrittenStaysWorked.{reads, answering}, FileRead.{image_after_all, ReadsImage, MakesFile}}
use Rattle.nfs_promises.specs.Network.SeenWrite as seen

abbrev pub sets : (now xid number size : ℕ) → Arrival
sets now xid number size =
    came now xid (in_session 1 number (Op.PutRootFh ∷ Op.Lookup (0x66 ∷ [])
    ∷ Op.SetAttr (record { stateid = anonymous; obj_attributes = record { attrmask = 0x10 ∷ []; attr_vals = words (0 ∷ size ∷ []) } }) ∷ []))

abbrev pub cuts : Arrival
cuts = sets 107 8 6 2

abbrev pub grows : Arrival
grows = sets 108 9 7 6

-- at most 8 bytes from byte 0 on, once more
abbrev pub reads_hole : Arrival
reads_hole = came 109 10 (in_session 1 8 seen.reads)

abbrev pub read_once : ServerState
read_once = state_after closed reads

abbrev pub short : ServerState
short = state_after read_once cuts

abbrev pub longer : ServerState
longer = state_after short grows

-- what the file has by the answers: when it is closed, and behind the second growth
abbrev pub as_closed : Image
as_closed = image_after_all 2 (image_after_all 2 (image_after_all 2 (unwritten 0) (ops_of made writes)) (ops_of written goes_on)) (ops_of grown closes)

abbrev pub as_longer : Image
as_longer = image_after_all 2 (image_after_all 2 (image_after_all 2 as_closed (ops_of closed reads)) (ops_of read_once cuts)) (ops_of short grows)

-- The run meets the premises of the promise, and computes to what it says.
pub record IsReadWhole : Type 0 where
  -- OPEN and both READs are the last operations of their compounds
  pub front : List RanOp
  pub opening : RanOp
  pub ops : ops_of outset makes ≡ front ++ opening ∷ []
  pub file : MakesFile 2 0 opening
  pub until : List RanOp
  pub read : RanOp
  pub last : ops_of closed reads ≡ until ++ read ∷ []
  pub before : List RanOp
  pub again : RanOp
  pub end : ops_of longer reads_hole ≡ before ++ again ∷ []
  -- `seen`, two zeros of the gap and `mo`; then `se` and four zeros
  pub bytes : bytes_read as_closed 0 8 ≡ words (0x7365_656e ∷ 0x0000_6d6f ∷ [])
  pub fewer : bytes_read as_longer 0 8 ≡ 0x73 ∷ 0x65 ∷ 0 ∷ 0 ∷ 0 ∷ 0 ∷ []
  pub told : read.result ≡ read_answer as_closed 0 8
  pub after : again.result ≡ read_answer as_longer 0 8

-- The promise refuses these.
pub record ReadsAreRefused : Type 0 where
  -- a gap with other bytes
  pub gap : (d : RanOp) → ReadsImage 2 as_closed (answering (words (1 ∷ 8 ∷ 0x7365_656e ∷ 0x7878_6d6f ∷ [])) (last_of d (ops_of closed reads))) → ⊥
  -- a file that grew over what was cut off shows the old bytes
  pub old : (d : RanOp) → ReadsImage 2 as_longer (answering (words (1 ∷ 6 ∷ 0x7365_656e ∷ 0 ∷ [])) (last_of d (ops_of longer reads_hole))) → ⊥
  -- the whole file is given, and that it goes on
  pub goes_on : (d : RanOp) → ReadsImage 2 as_closed (answering (words (0 ∷ 8 ∷ 0x7365_656e ∷ 0x0000_6d6f ∷ [])) (last_of d (ops_of closed reads))) → ⊥
  -- fewer bytes than the file has, and that it ends there
  pub few : (d : RanOp) → ReadsImage 2 as_closed (answering (words (1 ∷ 4 ∷ 0x7365_656e ∷ [])) (last_of d (ops_of closed reads))) → ⊥
