-- An entry that tells what a GETATTR told, worked by hand over the run of `ChangeTellsWorked`, and wrong entries that the promise refuses (RFC 8881 sections 5.8, 18.7 and
-- 18.23). The file `f` was written twice. A GETATTR asks for its change, size, mode and number of names; a later READDIR of the root asks for the same.
use Rattle.std.specs.Prelude.{◌≡◌, ℕ, true, List, [], ◌∷◌, ◌++◌}
use Rattle.nfs_compound.specs.declared.name_args.ReadDir.{ReadDir}
use Rattle.nfs_compound.specs.declared.op_num.OpNum.TheVariants as Num
use Rattle.nfs_compound.specs.declared.op.Op.{Op}
use Rattle.nfs_results.specs.{declared.res.Entry.Entry, declared.res.Fattr.Fattr, declared.res.ReadDirOk.ReadDirOk, Results.{done_head, spell_result}}
use Rattle.nfs_results.specs.declared.res.Res.TheVariants as Res
use Rattle.nfs_xdr.specs.Spelling.{hyper}
use Rattle.nfs_tree.specs.Files.{change_of}
use Rattle.nfs_attrs.specs.Mask.{mask_of}
use Rattle.nfs_names.specs.ReadDir.{zeros}
use Rattle.nfs_promises.specs.Runs.{Requests.{words, in_session, listing_from}, AttributesTold.TellsValue}
use Rattle.nfs_exec.specs.{Runs.Ops.RanOp}
use Rattle.nfs_promises.specs.{Network.Endpoint.Arrival, Locks.LockKeptWorked.{came, last_of}, Runs.Points.ops_of, Bytes.ChangeTellsWorked.{read_once, gets}}
use Rattle.nfs_promises.specs.Bytes.{ChangeTellsWorked.got_once, ChangeTells.{RunsIn, GetsOf}, EntriesAlike.TellsOf}

-- change, size, mode and numlinks, which are attributes 3, 4, 33 and 35
abbrev pub asked_for : List ℕ
asked_for = 0x18 ∷ 0xa ∷ []

abbrev pub lists : Arrival
lists = came 108 9 (in_session 1 7 (Op.PutRootFh ∷ listing_from 0 512 (0x18 ∷ 0xa ∷ []) ∷ []))

abbrev pub asked : ReadDir
asked = record { cookie = 0; cookieverf = zeros; dircount = 512; maxcount = 512; attr_request = asked_for }

abbrev pub attributes : (change size mode links : ℕ) → Fattr
attributes change size mode links = record { attrmask = asked_for; attr_vals = words (0 ∷ change ∷ 0 ∷ size ∷ mode ∷ links ∷ []) }

-- `f`, which has cookie 3, with these attributes; and that the directory ends
abbrev pub entry : Fattr → Entry
entry attrs = record { cookie = 3; name = 0x66 ∷ []; attrs = attrs }

abbrev pub listing : Fattr → ReadDirOk
listing attrs = record { cookieverf = zeros; entries = entry attrs ∷ []; eof = true }

-- the attributes as a GETATTR answers them
abbrev pub spelled : Fattr → List ℕ
spelled attrs = spell_result (Res.GetAttr attrs)

-- 24 bytes: the change, 3 behind two WRITEs; the size 8; the mode 0o644; and one name
abbrev pub told : List ℕ
told = done_head Num.GetAttr ++ words (2 ∷ 0x18 ∷ 0xa ∷ 24 ∷ 0 ∷ 3 ∷ 0 ∷ 8 ∷ 420 ∷ 1 ∷ [])

-- The run meets the premises of the promise, and computes to what it says.
pub record IsToldAlike : Type 0 where
  -- GETATTR is the last operation of its compound
  pub front : List RanOp
  pub got : RanOp
  pub ops : ops_of read_once (gets 107 8 6) ≡ front ++ got ∷ []
  pub listed : RanOp
  pub late : RunsIn got_once (lists ∷ []) listed
  pub same : change_of listed.before.store.tree 2 ≡ change_of got.before.store.tree 2
  pub first : TellsOf 2 asked_for got told
  pub second : TellsOf 2 asked_for listed told

-- the READDIR of the run, answered NFS4_OK with another entry
abbrev pub listing_op : RanOp → Fattr → RanOp
listing_op d attrs = record (last_of d (ops_of got_once lists)) { result = spell_result (Res.ReadDir (listing attrs)) }

-- It tells of the file, so it meets the premises; and it tells something else.
pub record TellsOther (d : RanOp) (attrs : Fattr) : Type 0 where
  pub tells : TellsOf 2 asked_for (listing_op d attrs) (spelled attrs)
  pub other : spelled attrs ≡ told → ⊥

-- The promise refuses these.
pub record EntriesAreRefused : Type 0 where
  -- the size that the file had before its second WRITE
  pub stale : (d : RanOp) → TellsOther d (attributes 3 4 420 1)
  -- change 1, which every object is made with
  pub constant : (d : RanOp) → TellsOther d (attributes 1 8 420 1)
  -- the attributes of the root: it has one entry, no bytes, and the mode 0o777
  pub another : (d : RanOp) → TellsOther d (attributes 2 0 511 1)

-- the GETATTR of the run, answered NFS4_OK with other attributes
abbrev pub getting : RanOp → Fattr → RanOp
getting d attrs = record (last_of d (ops_of read_once (gets 107 8 6))) { result = spelled attrs }

-- What GETATTR promises refuses these.
pub record AttributesAreRefused : Type 0 where
  -- one GETATTR of the change that the file has gives the mode 0o600
  pub mode : (d : RanOp) → GetsOf 2 asked_for (getting d (attributes 3 8 384 1)) × ((getting d (attributes 3 8 384 1)).result ≡ told → ⊥)
  -- it gives change 1
  pub constant : (d : RanOp) → (let e = getting d (attributes 1 8 420 1) in
      GetsOf 2 asked_for e × (TellsValue e.before.store.tree.profile 3 (hyper (change_of e.before.store.tree 2)) (mask_of asked_for) e.result → ⊥))
