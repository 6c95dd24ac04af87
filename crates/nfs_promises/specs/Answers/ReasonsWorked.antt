-- Refusals with a reason and without one, worked by hand over the runs of `LockKeptWorked`, `FileStaysWorked` and `WrittenStaysWorked` (RFC 8881 sections 8.2.2, 15.1,
-- 18.12, 18.16, 18.25 and 18.26): a guarded create of a name that is there is refused, and so is a RENAME in a root that only its owner may change, and a
-- SETATTR of its mode by another user.
use Rattle.std.specs.Prelude.{◌≡◌, ℕ, ◌+◌, [], ◌∷◌}
use Rattle.nfs_xdr.specs.declared.status.Status.{Status}
use Rattle.nfs_xdr.specs.declared.status.Status.TheVariants.{Nfs4Ok, Perm, OldStateId, BadStateId, Exist, NoEnt, IsDir, Access, NotDir, Denied, RepTooBig, NoSpc, Delay}
use Rattle.nfs_compound.specs.declared.open_args.{OpenHow.OpenHow, OpenHow.TheVariants.{NoCreate, Create}, CreateHow.TheVariants.Guarded}
use Rattle.nfs_compound.specs.declared.op.Op.TheVariants as Op
use Rattle.nfs_compound.specs.declared.name_args.CreateType.TheVariants.{Other}
use Rattle.nfs_names.specs.Context.{anonymous}
use Rattle.nfs_exec.specs.Runs.Ops.{RanOp}
use Rattle.nfs_serve.specs.Step.{ServerState}
use Rattle.nfs_promises.specs.{Runs.{Requests.{words, handle, stateid, in_session, opening_by, locking, unchecked}, Started.usual, Points.{reached, ops_of}}, Network.Endpoint.Arrival, Answers.Reasons.AnswersSo}
use Rattle.nfs_promises.specs.Locks.LockKeptWorked.{came, earlier, asked, gives_up, last_of, statuses}
use Rattle.nfs_promises.specs.{Bytes.WrittenStaysWorked.made, Names.FileStaysWorked.{with_status, missed, closes}, Permission.{PermittedWorked.{to_group, runs, asks}, NoSetUidWorked.{given, other_writes}}}

-- PUTROOTFH, and an OPEN of `f` for reading by another open owner
abbrev pub opens : OpenHow → Arrival
opens how = came 103 4 (in_session 1 2 (Op.PutRootFh ∷ opening_by (0x70 ∷ []) 1 0 how (0x66 ∷ []) ∷ []))

abbrev pub guarded : OpenHow
guarded = Create (Guarded (record { attrmask = []; attr_vals = [] }))

abbrev pub removes : Arrival
removes = came 103 4 (in_session 1 2 (Op.PutRootFh ∷ Op.Remove (0x66 ∷ []) ∷ []))

-- PUTROOTFH, and a CREATE of the directory `d`
abbrev pub creates : Arrival
creates = came 103 4 (in_session 1 2 (Op.PutRootFh ∷ Op.Create (record { objtype = Other 2; objname = 0x64 ∷ []; createattrs = record { attrmask = []; attr_vals = [] } }) ∷ []))

-- PUTROOTFH, and a SETATTR of the root's mode by a user that does not own it
abbrev pub opens_up : Arrival
opens_up = came 103 4 (in_session 1 2 (Op.PutRootFh
    ∷ Op.SetAttr (record { stateid = anonymous; obj_attributes = record { attrmask = 0 ∷ 2 ∷ []; attr_vals = words (32 ∷ []) } }) ∷ []))

-- a root of which others than its owner may read and search: 555
abbrev pub shut : ServerState
shut = reached (record usual { mode = 365 }) earlier

abbrev pub moves : (now number : ℕ) → Arrival
moves now number = came (100 + now) now (in_session 1 number (Op.PutRootFh ∷ Op.SaveFh ∷ Op.Rename (record { oldname = 0x66 ∷ []; newname = 0x67 ∷ [] }) ∷ []))

-- `A` asks once more for the byte that it has locked
abbrev pub locks_again : Arrival
locks_again = came 372 9 (in_session 1 4 (Op.PutFh (handle 2) ∷ locking (0x6c ∷ []) (stateid 1 1) 0 1 ∷ []))

-- The runs compute to what the promise says.
pub record AreAnsweredSo : Type 0 where
  pub unlocked : statuses (ops_of asked gives_up) ≡ Nfs4Ok ∷ Nfs4Ok ∷ []
  pub opened : statuses (ops_of made (opens NoCreate)) ≡ Nfs4Ok ∷ Nfs4Ok ∷ []
  pub made_before : statuses (ops_of made (opens guarded)) ≡ Nfs4Ok ∷ Exist ∷ []
  pub closed : statuses (ops_of missed closes) ≡ Nfs4Ok ∷ Nfs4Ok ∷ []
  pub made_now : statuses (ops_of made creates) ≡ Nfs4Ok ∷ Nfs4Ok ∷ []
  pub set : statuses (ops_of made to_group) ≡ Nfs4Ok ∷ Nfs4Ok ∷ Nfs4Ok ∷ []
  pub forbidden : statuses (ops_of made opens_up) ≡ Nfs4Ok ∷ Perm ∷ []
  pub denied : statuses (ops_of shut (moves 3 1)) ≡ Nfs4Ok ∷ Nfs4Ok ∷ Access ∷ []
  pub locked_again : statuses (ops_of asked locks_again) ≡ Nfs4Ok ∷ Nfs4Ok ∷ []

-- with another status the last operation of a compound does not answer so
abbrev pub Refused : ServerState → Arrival → Status → Type 0
Refused s c status = (d : RanOp) → AnswersSo (with_status status (last_of d (ops_of s c))) → ⊥

-- The promise refuses these.
pub record AnswersRefused : Type 0 where
  -- a LOCKU by the stateid that LOCK answered
  pub old : Refused asked gives_up OldStateId
  pub bad : Refused asked gives_up BadStateId
  -- a CLOSE by the stateid that OPEN answered
  pub old_open : Refused missed closes OldStateId
  pub bad_open : Refused missed closes BadStateId
  -- an OPEN of a file that is there: it is there already, it is not there, it is a directory
  pub taken : Refused made (opens NoCreate) Exist
  pub retaken : Refused made (opens unchecked) Exist
  pub missing : Refused made (opens NoCreate) NoEnt
  pub directory : Refused made (opens NoCreate) IsDir
  -- a REMOVE and a RENAME of a name that is there
  pub unremoved : Refused made removes NoEnt
  pub unrenamed : Refused made (moves 4 2) NoEnt
  pub unplaced : Refused made (moves 4 2) NotDir
  -- a CREATE of a name that is free
  pub occupied : Refused made creates Exist
  -- a SETATTR of a file by its owner, and one of the root's mode by another user
  pub unset : Refused made to_group Perm
  pub set_by_all : Refused made opens_up Nfs4Ok
  -- a guarded create of a name that is there opens it
  pub found : Refused made (opens guarded) Nfs4Ok
  -- the RENAME asks nobody's permission
  pub moved : Refused shut (moves 3 1) Nfs4Ok
  -- in `unix`, a READ of a program by who may execute it
  pub unread : Refused runs asks Access
  -- a LOCK of what its owner has locked
  pub own : Refused asked locks_again Denied

-- The promise refuses these, too, in a session whose replies have 4,100 bytes: of a REMOVE, a LOCKU and a READ.
pub record CutsRefused : Type 0 where
  -- the reply has no room
  pub big : Refused made removes RepTooBig
  pub big_unlock : Refused asked gives_up RepTooBig
  pub big_read : Refused runs asks RepTooBig
  -- there is no memory, where none was refused
  pub delayed : Refused made removes Delay
  -- so in `unix`, of a WRITE; and its client is told to wait
  pub full : Refused given other_writes NoSpc
  pub waits : Refused given other_writes Delay
