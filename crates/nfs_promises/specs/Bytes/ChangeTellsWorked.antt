-- A change that tells, worked by hand over the run of `WrittenStaysWorked`, and wrong steps that the promise refuses (RFC 8881 section 5.8.1.4). The file `f` is written, and
-- its change rises; then it is read twice, and its change is the same, and so is the answer. Then its attributes are asked for twice.
use Rattle.std.specs.Prelude.{◌≡◌, ℕ, ◌<◌, ◌-◌, ◌==◌, true, List, [], ◌∷◌, ◌++◌, map, if◌then◌else◌}
use Rattle.nfs_compound.specs.declared.op_num.OpNum.TheVariants as Num
use Rattle.nfs_compound.specs.declared.op.Op.{Op}
use Rattle.nfs_results.specs.Results.{done_head}
use Rattle.nfs_tree.specs.{declared.stored.Stored.Stored, Files.{Files, root, is_there, change_of}}
use Rattle.nfs_exec.specs.Runs.Ops.{RanOp}
use Rattle.nfs_serve.specs.{Step.ServerState}
use Rattle.nfs_promises.specs.{Runs.{Requests.{words, in_session}, Points.{state_after, ops_of}}, Network.Endpoint.Arrival, Locks.LockKeptWorked.came}
use Rattle.nfs_promises.specs.{Locks.LockKeptWorked.last_of, Bytes.{WrittenStaysWorked.{made, writes, closed, reads, answering}, ChangeTells.{Tells, ReadsOf}}}
use Rattle.nfs_promises.specs.Bytes.ChangeTells.{GetsOf, RunsIn}
use Rattle.nfs_promises.specs.Network.SeenWrite as seen

-- the same READ once more
abbrev pub reads_again : Arrival
reads_again = came 107 8 (in_session 1 6 seen.reads)

abbrev pub read_once : ServerState
read_once = state_after closed reads

abbrev pub gets : (now xid number : ℕ) → Arrival
gets now xid number = came now xid (in_session 1 number (Op.PutRootFh ∷ Op.Lookup (0x66 ∷ []) ∷ Op.GetAttr (0x18 ∷ 0xa ∷ []) ∷ []))

abbrev pub got_once : ServerState
got_once = state_after read_once (gets 107 8 6)

-- It meets the premises of what GETATTR promises, and computes to what that says.
pub record ToldByAttributes : Type 0 where
  -- both GETATTRs are the last operations of their compounds
  pub front : List RanOp
  pub asked : RanOp
  pub ops : ops_of read_once (gets 107 8 6) ≡ front ++ asked ∷ []
  pub again : RanOp
  pub late : RunsIn got_once (gets 108 9 7 ∷ []) again
  pub same : change_of again.before.store.tree 2 ≡ change_of asked.before.store.tree 2
  pub first : GetsOf 2 (0x18 ∷ 0xa ∷ []) asked
  pub second : GetsOf 2 (0x18 ∷ 0xa ∷ []) again
  -- 24 bytes: the change, 3 behind two WRITEs; the size 8; the mode 0o644; and one name
  pub told : asked.result ≡ done_head Num.GetAttr ++ words (2 ∷ 0x18 ∷ 0xa ∷ 24 ∷ 0 ∷ 3 ∷ 0 ∷ 8 ∷ 420 ∷ 1 ∷ [])
  pub alike : again.result ≡ asked.result

-- The run meets the premises of the promises, and computes to what they say.
pub record ToldByChange : Type 0 where
  -- WRITE and both READs are the last operations of their compounds
  pub front : List RanOp
  pub write : RanOp
  pub ops : ops_of made writes ≡ front ++ write ∷ []
  pub until : List RanOp
  pub read : RanOp
  pub last : ops_of closed reads ≡ until ++ read ∷ []
  pub again : RanOp
  pub late : RunsIn read_once (reads_again ∷ []) again
  pub there : is_there write.before.store.tree 2 ≡ true
  pub stays : is_there read.before.store.tree 2 ≡ true
  pub still : is_there again.before.store.tree 2 ≡ true
  -- WRITE raised the change, and READ did not
  pub raised : change_of write.before.store.tree 2 < change_of read.before.store.tree 2
  pub same : change_of again.before.store.tree 2 ≡ change_of read.before.store.tree 2
  -- up to 8 bytes from byte 0 on
  pub first : ReadsOf 2 0 8 read
  pub second : ReadsOf 2 0 8 again
  pub told : again.result ≡ read.result

-- the tree with another change of one object
abbrev pub with_change : ℕ → ℕ → Files → Files
with_change n change t = record t {
  objects = map (λ (s : Stored). if s.number == n then record s { object = record s.object { change = change } } else s) t.objects;
}

-- the tree where the file has a second name
abbrev pub with_second_name : Files → Files
with_second_name t = record t { rows = t.rows ++ record { directory = root; name = 0x67 ∷ []; object = 2; cookie = 9 } ∷ [] }

-- the tree before the last operation of a compound, and behind it; what stands in front of that operation is of no account
module _ (d : RanOp) where
  abbrev pub unwritten : Files
  unwritten = (last_of d (ops_of made writes)).before.store.tree

  abbrev pub written : Files
  written = (last_of d (ops_of made writes)).behind.store.tree

  abbrev pub as_read : Files
  as_read = (last_of d (ops_of closed reads)).before.store.tree

-- The promises refuse these.
pub record ChangesAreRefused : Type 0 where
  -- a WRITE that keeps the change
  pub kept : (d : RanOp) → Tells 2 (unwritten d) (with_change 2 (change_of (unwritten d) 2) (written d)) → ⊥
  -- a SETATTR that sets the change back by two
  pub back : (d : RanOp) → Tells 2 (as_read d) (with_change 2 (change_of (as_read d) 2 - 2) (as_read d)) → ⊥
  -- a REMOVE that takes the name from the root, and keeps the root's change
  pub unlisted : (d : RanOp) → Tells root (as_read d) (record (as_read d) { rows = [] }) → ⊥
  -- a LINK that gives the file a second name, and keeps its change
  pub linked : (d : RanOp) → Tells 2 (as_read d) (with_second_name (as_read d)) → ⊥
  -- the second READ is answered zeros
  pub zeros : (d : RanOp) → (answering (words (1 ∷ 8 ∷ 0 ∷ 0 ∷ [])) (last_of d (ops_of read_once reads_again))).result ≡ (last_of d (ops_of closed reads)).result → ⊥
