-- A wrong answer for each row of the table of refusals, worked by hand over the runs of `LockKeptWorked` and `WrittenStaysWorked`: the request is answered, and the row's
-- status in its place has no reason (RFC 8881 sections 15.1, 18.3, 18.9, 18.10, 18.13, 18.15, 18.16, 18.23, 18.25, 18.30 to 18.32, 18.38 and 18.51).
use Rattle.std.specs.Prelude.{◌≡◌, false, [], ◌∷◌}
use Rattle.nfs_xdr.specs.{Spelling.number, declared.status.Status.TheVariants.Nfs4Ok}
use Rattle.nfs_xdr.specs.declared.status.Status.TheVariants as S
use Rattle.nfs_compound.specs.declared.open_args.OpenHow.TheVariants.{NoCreate}
use Rattle.nfs_compound.specs.declared.op.Op.TheVariants as Op
use Rattle.nfs_exec.specs.Runs.Ops.{RanOp}
use Rattle.nfs_serve.specs.Step.{ServerState}
use Rattle.nfs_promises.specs.{Runs.{Requests.{handle, stateid, in_session, listing_from}, Points.{state_after, ops_of}}, Network.Endpoint.Arrival}
use Rattle.nfs_promises.specs.Locks.LockKeptWorked.{came, asked, opens_and_locks, gives_up, last_of, statuses}
use Rattle.nfs_promises.specs.{Bytes.WrittenStaysWorked.{made, writes}, Permission.PermittedWorked.to_group}
use Rattle.nfs_promises.specs.{Names.FileStaysWorked.{first_of, with_status}, Answers.{Granted.IsNotRefused, Reasons.AnswersSo}}
use Rattle.nfs_promises.specs.Answers.{ReasonsWorked.{Refused, opens, creates, removes}, YesIsTrueWorked.{asks, of_file, lists, reads_link}}

-- `f` is looked up, put by its filehandle, and gets the name `g` too
abbrev pub finds : Arrival
finds = asks (Op.PutRootFh ∷ Op.Lookup (0x66 ∷ []) ∷ [])

abbrev pub puts : Arrival
puts = asks (Op.PutFh (handle 2) ∷ [])

abbrev pub links : Arrival
links = asks (Op.PutRootFh ∷ Op.Lookup (0x66 ∷ []) ∷ Op.SaveFh ∷ Op.PutRootFh ∷ Op.Link (0x67 ∷ []) ∷ [])

abbrev pub completes : Arrival
completes = asks (Op.ReclaimComplete false ∷ [])

-- its mode is 644, and not 600
abbrev pub verifies : Arrival
verifies = of_file (Op.Verify (record { attrmask = 0 ∷ 2 ∷ []; attr_vals = number 420 }))

abbrev pub differs : Arrival
differs = of_file (Op.NVerify (record { attrmask = 0 ∷ 2 ∷ []; attr_vals = number 384 }))

-- the root is listed with as many bytes as its one entry takes, and the verifier and the flags
abbrev pub lists_one : Arrival
lists_one = asks (Op.PutRootFh ∷ listing_from 0 56 (0x10_0000 ∷ []) ∷ [])

-- by another OPEN its first byte is locked, which nobody has locked
abbrev pub locks : Arrival
locks = came 103 4 (in_session 1 2 (opens_and_locks 0))

-- `A` has unlocked, and frees the lock state
abbrev pub free : ServerState
free = state_after asked gives_up

abbrev pub frees : Arrival
frees = came 373 10 (in_session 1 5 (Op.FreeStateid (stateid 0 2) ∷ []))

-- The runs.
pub record AreGranted : Type 0 where
  pub found : statuses (ops_of made finds) ≡ Nfs4Ok ∷ Nfs4Ok ∷ []
  pub put : statuses (ops_of made puts) ≡ Nfs4Ok ∷ []
  pub linked : statuses (ops_of made links) ≡ Nfs4Ok ∷ Nfs4Ok ∷ Nfs4Ok ∷ Nfs4Ok ∷ Nfs4Ok ∷ []
  pub complete : statuses (ops_of made completes) ≡ Nfs4Ok ∷ []
  pub verified : statuses (ops_of made verifies) ≡ Nfs4Ok ∷ Nfs4Ok ∷ Nfs4Ok ∷ []
  pub differed : statuses (ops_of made differs) ≡ Nfs4Ok ∷ Nfs4Ok ∷ Nfs4Ok ∷ []
  pub listed : statuses (ops_of made lists_one) ≡ Nfs4Ok ∷ Nfs4Ok ∷ []
  pub locked : statuses (ops_of made locks) ≡ Nfs4Ok ∷ Nfs4Ok ∷ Nfs4Ok ∷ []

-- The promise refuses these.
pub record RowsRefused : Type 0 where
  -- a LOOKUP of a name that is there, in a directory that all may search
  pub no_handle : Refused made finds S.NoFileHandle
  pub stale : Refused made finds S.Stale
  pub symlink : Refused made finds S.Symlink
  pub denied : Refused made finds S.Access
  pub long : Refused made finds S.NameTooLong
  pub odd : Refused made finds S.BadChar
  pub dots : Refused made finds S.BadName
  pub invalid : Refused made finds S.Inval
  pub out_of_order : Refused made finds S.SequencePos
  -- a PUTFH of a filehandle that was given
  pub no_form : Refused made puts S.BadHandle
  -- a READLINK of a link, a CREATE of a directory, a REMOVE of a file, a LINK of one that has one name
  pub no_link : Refused made reads_link S.WrongType
  pub no_type : Refused made creates S.BadType
  pub full : Refused made creates S.NoSpc
  pub spent : Refused made creates S.ServerFault
  pub filled : Refused made removes S.NotEmpty
  pub many_names : Refused made links S.MLink
  -- an OPEN of a file that another owner has open and denies nobody
  pub share : Refused made (opens NoCreate) S.ShareDenied
  pub grace : Refused made (opens NoCreate) S.NoGrace
  pub unsupported : Refused made (opens NoCreate) S.NotSupp
  -- a WRITE of four bytes under the anonymous stateid
  pub locked : Refused made writes S.Locked
  pub mode : Refused made writes S.OpenMode
  pub big : Refused made writes S.FBig
  -- a LOCK of a byte that nobody has locked, under an open for writing
  pub clash : Refused made locks S.Denied
  pub lock_mode : Refused made locks S.OpenMode
  -- a FREE_STATEID of a lock state without bytes, and a first RECLAIM_COMPLETE
  pub in_use : (d : RanOp) → AnswersSo (with_status S.LocksHeld (first_of d (ops_of free frees))) → ⊥
  pub completed : Refused made completes S.CompleteAlready
  -- a READDIR from the beginning
  pub cookie : Refused made lists S.BadCookie
  pub other_listing : Refused made lists S.NotSame
  pub small : Refused made lists_one S.TooSmall
  -- a SETATTR of the mode, a VERIFY of the mode that is, and an NVERIFY of another one
  pub unknown : Refused made to_group S.AttrNotSupp
  pub nobody : Refused made to_group S.BadOwner
  pub cut : Refused made to_group S.BadXdr
  pub unequal : Refused made verifies S.NotSame
  pub equal : Refused made differs S.Same

-- `each_is_granted` refuses these.
pub record GrantsRefused : Type 0 where
  -- a LOCKU by the stateid that LOCK answered is refused for it
  pub old : (d : RanOp) → IsNotRefused (with_status S.OldStateId (last_of d (ops_of asked gives_up))) → ⊥
  pub bad : (d : RanOp) → IsNotRefused (with_status S.BadStateId (last_of d (ops_of asked gives_up))) → ⊥
  -- a LOCK of a byte that nobody has locked is denied
  pub denied : (d : RanOp) → IsNotRefused (with_status S.Denied (last_of d (ops_of made locks))) → ⊥
