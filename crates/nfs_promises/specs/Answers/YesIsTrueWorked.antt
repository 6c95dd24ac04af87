-- Answers that are true and answers that are not, worked by hand over the runs of `LockKeptWorked`, `FileStaysWorked` and `WrittenStaysWorked` (RFC 8881 sections 5, 18.1 to
-- 18.3, 18.7, 18.11 to 18.13, 18.24, 18.32 and 18.48).
use Rattle.std.specs.Prelude.{◌≡◌, ℕ, ◌+◌, true, List, [], ◌∷◌, ◌++◌, replicate}
use Rattle.nfs_xdr.specs.{Spelling.{number, hyper}, declared.status.Status.TheVariants.{Nfs4Ok, Denied, NoEnt}}
use Rattle.nfs_compound.specs.{declared.file_args.StableHow.TheVariants.Unstable, declared.lock_args.LockType.TheVariants.Write, declared.name_args.CreateType.TheVariants.Symlink, declared.open_args.OpenHow.TheVariants.NoCreate, declared.stateid.Stateid.Stateid}
use Rattle.nfs_compound.specs.declared.op.Op.{Op}
use Rattle.nfs_results.specs.{declared.res.{Res.Res, Entry.Entry, ReadDirOk.ReadDirOk}, Results.spell_result}
use Rattle.nfs_opens.specs.Holding.{FileHolders}
use Rattle.nfs_exec.specs.Runs.Ops.{RanOp}
use Rattle.nfs_promises.specs.{Runs.{Requests.{handle, in_session, stateid, listing_from}, Points.ops_of}, Network.Endpoint.Arrival, Answers.{ReasonsWorked.opens, YesIsTrue.TellsSo}}
use Rattle.nfs_promises.specs.{Locks.{LockKeptWorked.{came, asked, gives_up, last_of, locks, outset, statuses}, OpenKeptWorked.opened}, Bytes.WrittenStaysWorked.{made, writes}, Names.FileStaysWorked.{with_status, missed, closes}}

-- `B` asks who holds the first byte of `f`, which `A` has locked
abbrev pub tests : Arrival
tests = came 372 8 (in_session 2 1 (Op.PutRootFh ∷ Op.Lookup (0x66 ∷ [])
    ∷ Op.LockT (record { locktype = Write; offset = 0; length = 1; owner = record { clientid = 0; owner = 0x6c ∷ [] } }) ∷ []))

abbrev pub asks : List Op → Arrival
asks ops = came 103 4 (in_session 1 2 ops)

-- an operation on `f`
abbrev pub of_file : Op → Arrival
of_file op = asks (Op.PutRootFh ∷ Op.Lookup (0x66 ∷ []) ∷ op ∷ [])

-- attribute 20 is the fileid, and 33 the mode
abbrev pub fileid : Arrival
fileid = of_file (Op.GetAttr (0x10_0000 ∷ []))

abbrev pub mode : Arrival
mode = of_file (Op.GetAttr (0 ∷ 2 ∷ []))

-- whether it may be read
abbrev pub may_read : Arrival
may_read = of_file (Op.Access 1)

-- a link `l` to `f` is made, and read
abbrev pub reads_link : Arrival
reads_link = asks (Op.PutRootFh ∷ Op.Create (record { objtype = Symlink (0x66 ∷ []); objname = 0x6c ∷ []; createattrs = record { attrmask = []; attr_vals = [] } })
    ∷ Op.ReadLink ∷ [])

abbrev pub tests_stateid : Arrival
tests_stateid = asks (Op.TestStateid (stateid 1 1 ∷ []) ∷ [])

abbrev pub misses : Arrival
misses = asks (Op.PutRootFh ∷ Op.Lookup (0x67 ∷ []) ∷ [])

abbrev pub commits : Arrival
commits = of_file (Op.Commit (record { offset = 0; count = 0 }))

-- the root is listed, with fileids
abbrev pub lists : Arrival
lists = asks (Op.PutRootFh ∷ listing_from 0 512 (0x10_0000 ∷ []) ∷ [])

-- `f`, with a fileid, as the one entry of a listing
abbrev pub entry : (fileid : ℕ) → Entry
entry n = record { cookie = 3; name = 0x66 ∷ []; attrs = record { attrmask = 0x10_0000 ∷ []; attr_vals = hyper n } }

abbrev pub page : (fileid : ℕ) → ReadDirOk
page n = record { cookieverf = replicate 8 0; entries = entry n ∷ []; eof = true }

-- `A` has `f` open for reading and writing, and denies others to write: it downgrades that to reading
abbrev pub narrows : Arrival
narrows = came 103 4 (in_session 1 2 (Op.PutFh (handle 2) ∷ Op.OpenDowngrade (record { open_stateid = stateid 1 1; seqid = 0; share_access = 1; share_deny = 0 }) ∷ []))

-- The runs.
pub record AreAsked : Type 0 where
  pub denied : statuses (ops_of asked tests) ≡ Nfs4Ok ∷ Nfs4Ok ∷ Denied ∷ []
  pub told : statuses (ops_of made fileid) ≡ Nfs4Ok ∷ Nfs4Ok ∷ Nfs4Ok ∷ []
  pub judged : statuses (ops_of made may_read) ≡ Nfs4Ok ∷ Nfs4Ok ∷ Nfs4Ok ∷ []
  pub read : statuses (ops_of made reads_link) ≡ Nfs4Ok ∷ Nfs4Ok ∷ Nfs4Ok ∷ []
  pub tested : statuses (ops_of made tests_stateid) ≡ Nfs4Ok ∷ []
  pub committed : statuses (ops_of made commits) ≡ Nfs4Ok ∷ Nfs4Ok ∷ Nfs4Ok ∷ []
  pub listed : (d : RanOp) → (last_of d (ops_of made lists)).result ≡ spell_result (Res.ReadDir (page 2))
  pub missed : statuses (ops_of made misses) ≡ Nfs4Ok ∷ NoEnt ∷ []
  pub narrowed : statuses (ops_of opened narrows) ≡ Nfs4Ok ∷ Nfs4Ok ∷ []

-- an operation that changes nothing
abbrev pub unchanging : RanOp → RanOp
unchanging d = record d { behind = d.before }

-- an operation that answers NFS4_OK and this
abbrev pub telling : Res → RanOp → RanOp
telling r d = record d { status = Nfs4Ok; result = spell_result r }

-- an OPEN that answers this stateid
abbrev pub opens_as : Stateid → Res
opens_as id = Res.Open (record { stateid = id; cinfo = record { atomic = true; before = 0; after = 0 }; rflags = 12; attrset = [] })

-- an operation that leaves other bytes locked
abbrev pub with_held : FileHolders → RanOp → RanOp
with_held held d = record d { behind = record d.behind { store = record d.behind.store { opens = record d.behind.store.opens { held = held } } } }

-- .. each the byte behind
abbrev pub shifted : RanOp → RanOp
shifted d = with_held (λ f s b. d.behind.store.opens.held f s (b + 1)) d

-- The promise refuses these.
pub record YesesRefused : Type 0 where
  -- LOCKT finds no lock
  pub free : (d : RanOp) → TellsSo (with_status Nfs4Ok (last_of d (ops_of asked tests))) → ⊥
  -- GETATTR answers the root's fileid, and another mode
  pub another : (d : RanOp) → TellsSo (telling (Res.GetAttr (record { attrmask = 0x10_0000 ∷ []; attr_vals = hyper 1 })) (last_of d (ops_of made fileid))) → ⊥
  pub unset : (d : RanOp) → TellsSo (telling (Res.GetAttr (record { attrmask = 0 ∷ 2 ∷ []; attr_vals = number 384 })) (last_of d (ops_of made mode))) → ⊥
  -- READDIR answers the root's fileid
  pub other_entry : (d : RanOp) → TellsSo (telling (Res.ReadDir (page 1)) (last_of d (ops_of made lists))) → ⊥
  -- ACCESS grants nothing to the owner, who may read
  pub nothing : (d : RanOp) → TellsSo (telling (Res.Access (record { supported = 1; access = 0 })) (last_of d (ops_of made may_read))) → ⊥
  -- READLINK answers no text
  pub empty : (d : RanOp) → TellsSo (telling (Res.ReadLink []) (last_of d (ops_of made reads_link))) → ⊥
  -- TEST_STATEID calls an open's stateid bad
  pub bad : (d : RanOp) → TellsSo (telling (Res.TestStateid (10025 ∷ [])) (last_of d (ops_of made tests_stateid))) → ⊥
  -- OPEN by another owner opens nothing, or tells the first owner's stateid
  pub unopened : (d : RanOp) → TellsSo (unchanging (last_of d (ops_of made (opens NoCreate)))) → ⊥
  pub other_open : (d : RanOp) → TellsSo (telling (opens_as (stateid 1 1)) (last_of d (ops_of made (opens NoCreate)))) → ⊥
  -- OPEN_DOWNGRADE leaves the access
  pub unnarrowed : (d : RanOp) → TellsSo (unchanging (last_of d (ops_of opened narrows))) → ⊥
  -- LOCK locks nothing, or the byte behind, or tells the seqid after the lock state's
  pub free_still : (d : RanOp) → TellsSo (unchanging (last_of d (ops_of outset locks))) → ⊥
  pub beside : (d : RanOp) → TellsSo (shifted (last_of d (ops_of outset locks))) → ⊥
  pub early : (d : RanOp) → TellsSo (telling (Res.Lock (stateid 2 2)) (last_of d (ops_of outset locks))) → ⊥
  -- LOCKU tells the seqid that it was given, and CLOSE the stateid
  pub late : (d : RanOp) → TellsSo (telling (Res.LockU (stateid 1 2)) (last_of d (ops_of asked gives_up))) → ⊥
  pub again : (d : RanOp) → TellsSo (telling (Res.Close (stateid 1 1)) (last_of d (ops_of missed closes))) → ⊥
  -- LOCKU unlocks nothing, and CLOSE closes nothing
  pub still_locked : (d : RanOp) → TellsSo (unchanging (last_of d (ops_of asked gives_up))) → ⊥
  pub still_open : (d : RanOp) → TellsSo (unchanging (last_of d (ops_of missed closes))) → ⊥
  -- WRITE answers UNSTABLE4, and COMMIT another verifier
  pub unstable : (d : RanOp)
      → TellsSo (telling (Res.Write (record { count = 4; committed = Unstable; writeverf = number 7 ++ replicate 4 0 })) (last_of d (ops_of made writes))) → ⊥
  pub restarted : (d : RanOp) → TellsSo (telling (Res.Commit (replicate 8 0)) (last_of d (ops_of made commits))) → ⊥
  -- a LOOKUP finds a name that is not there
  pub found : (d : RanOp) → TellsSo (with_status Nfs4Ok (last_of d (ops_of made misses))) → ⊥
