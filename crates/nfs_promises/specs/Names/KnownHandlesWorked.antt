-- What is known of filehandles, worked by hand (RFC 8881 sections 18.8, 18.9, 18.13, 18.19, 18.21 and 18.26 to 18.28). To a new server of instance 7
-- comes a client `A`, which makes the file `f`, finds it and gets its filehandle. It links the file as `g`, and renames `f` to `h`; both lead to that filehandle.
use Rattle.std.specs.Prelude.{◌≡◌, ℕ, suc, zero, List, [], ◌∷◌}
use Rattle.nfs_xdr.specs.declared.status.Status.TheVariants.{NoFileHandle}
use Rattle.nfs_compound.specs.declared.op_num.OpNum.TheVariants as Num
use Rattle.nfs_compound.specs.OpNum.{op_number}
use Rattle.nfs_compound.specs.declared.op.Op.{Op}
use Rattle.nfs_results.specs.declared.res.Res.TheVariants as Res
use Rattle.nfs_results.specs.Results.{spell_result, refusal}
use Rattle.nfs_exec.specs.Runs.Ops.{RanOp}
use Rattle.nfs_serve.specs.{Step.ServerState}
use Rattle.nfs_promises.specs.{Runs.{Requests.{words, in_session}, Points.{state_after, ops_of}}, Network.Endpoint.Arrival, Names.HandlesWorked.given}
use Rattle.nfs_promises.specs.{Names.{KnownHandles.{KnownName, starts, Follow, names_after}, NameStays.finds_none}, Locks.LockKeptWorked.came}
use Rattle.nfs_promises.specs.Bytes.WrittenStaysWorked.{made}

abbrev pub finds : Arrival
finds = came 104 4 (in_session 1 2 (Op.PutRootFh ∷ Op.GetFh ∷ Op.Lookup (0x66 ∷ []) ∷ Op.GetFh ∷ []))

abbrev pub links : Arrival
links = came 105 5 (in_session 1 3 (Op.PutFh given ∷ Op.GetFh ∷ Op.SaveFh ∷ Op.PutRootFh ∷ Op.Link (0x67 ∷ []) ∷ Op.Lookup (0x67 ∷ []) ∷ Op.GetFh ∷ []))

abbrev pub renames : Arrival
renames = came 106 6 (in_session 1 4 (Op.PutRootFh ∷ Op.SaveFh ∷ Op.Rename (record { oldname = 0x66 ∷ []; newname = 0x68 ∷ [] }) ∷ Op.Lookup (0x68 ∷ [])
    ∷ Op.GetFh ∷ Op.RestoreFh ∷ Op.GetFh ∷ []))

abbrev pub found : ServerState
found = state_after made finds

abbrev pub linked : ServerState
linked = state_after found links

-- the filehandle of object 1, the root, and of object 3
abbrev pub root : List ℕ
root = words (7 ∷ 0 ∷ 0 ∷ 1 ∷ [])

abbrev pub another : List ℕ
another = words (7 ∷ 0 ∷ 0 ∷ 3 ∷ [])

-- a name of one byte in the root, which leads to the file
abbrev pub in_root : ℕ → KnownName
in_root byte = record { place = record { directory = root; name = byte ∷ [] }; object = given }

abbrev pub f : KnownName
f = in_root 0x66

abbrev pub g : KnownName
g = in_root 0x67

abbrev pub h : KnownName
h = in_root 0x68

-- the names that are known behind each of the three
pub record IsKnown : Type 0 where
  pub found_f : names_after root [] made finds ≡ f ∷ []
  pub linked_g : names_after root (f ∷ []) found links ≡ g ∷ f ∷ []
  pub renamed_h : names_after root (g ∷ f ∷ []) linked renames ≡ h ∷ g ∷ []

-- so many operations are as they are, and the next one is another
abbrev pub but_for : ℕ → (RanOp → RanOp) → List RanOp → List RanOp
but_for n turn [] = []
but_for zero turn (d ∷ ds) = turn d ∷ ds
but_for (suc n) turn (d ∷ ds) = d ∷ but_for n turn ds

-- it answers this
abbrev pub answering : List ℕ → RanOp → RanOp
answering result d = record d { result = result }

abbrev pub no_handle : List ℕ
no_handle = spell_result (refusal (op_number Num.GetFh) NoFileHandle)

-- it is a GETFH that gives this
abbrev pub giving : List ℕ → RanOp → RanOp
giving handle = answering (spell_result (Res.GetFh handle))

-- The promise refuses these.
pub record HandlesRefused : Type 0 where
  -- a PUTFH of the file that leads to another object
  pub misled : Follow 7 root (starts (f ∷ [])) (but_for 1 (giving another) (ops_of found links)) → ⊥
  -- a PUTFH that leads nowhere: the GETFH is answered NFS4ERR_NOFILEHANDLE
  pub unset : Follow 7 root (starts (f ∷ [])) (but_for 1 (answering no_handle) (ops_of found links)) → ⊥
  -- a LINK that makes another object: by the new name it gives another filehandle
  pub copied : Follow 7 root (starts (f ∷ [])) (but_for 6 (giving another) (ops_of found links)) → ⊥
  -- a LOOKUP of the new name that is answered NFS4ERR_NOENT
  pub lost : Follow 7 root (starts (f ∷ [])) (but_for 5 (answering finds_none) (ops_of found links)) → ⊥
  -- a RENAME that gives the file another filehandle
  pub renewed : Follow 7 root (starts (g ∷ f ∷ [])) (but_for 4 (giving another) (ops_of linked renames)) → ⊥
  -- a RESTOREFH that leaves the file's
  pub kept : Follow 7 root (starts (g ∷ f ∷ [])) (but_for 6 (giving given) (ops_of linked renames)) → ⊥
  -- a root whose filehandle changes
  pub unsettled : Follow 7 root (starts []) (but_for 1 (giving another) (ops_of made finds)) → ⊥
