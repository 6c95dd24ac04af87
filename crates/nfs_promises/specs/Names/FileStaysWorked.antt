-- A file that is open and loses its name, worked by hand over the run of `WrittenStaysWorked` (RFC 8881 sections 18.2, 18.16, 18.19, 18.22 and 18.25):
-- `A` makes and opens the file `f`, writes four bytes, asks for its filehandle and removes `f`. By the filehandle the bytes are read; the name is not found. Then A closes
-- the file, and the filehandle is stale.
use Rattle.std.specs.Prelude.{◌≡◌, true, false, List, [], ◌∷◌, ◌++◌, Option, Some}
use Rattle.nfs_xdr.specs.{declared.status.Status.Status, declared.status.Status.TheVariants.{Nfs4Ok, NoEnt, Stale}}
use Rattle.nfs_compound.specs.declared.op_num.OpNum.TheVariants as Num
use Rattle.nfs_compound.specs.declared.op.Op.{Op}
use Rattle.nfs_results.specs.Results.{done_head}
use Rattle.nfs_tree.specs.Files.{is_there, has_row}
use Rattle.nfs_opens.specs.Share.{neither}
use Rattle.nfs_names.specs.declared.context.Context.{Context}
use Rattle.nfs_files.specs.{FileImage.{Image, unwritten}, OpenTold.Bits}
use Rattle.nfs_promises.specs.Runs.{Requests.{words, handle, stateid, in_session, closing, reading}, Started.usual, OpenHeld.TellsOpen, Points.state_after}
use Rattle.nfs_promises.specs.{Runs.Points.ops_of, Network.Endpoint.Arrival, Bytes.{FileRead.{image_after_all, ReadsImage}, WrittenStaysWorked.{makes, made}}}
use Rattle.nfs_promises.specs.{Bytes.WrittenStaysWorked.{writes, written, answering, without_objects}, Names.FileStays.{IsHandleOf, IsThere, IsNameless}}
use Rattle.nfs_promises.specs.{Names.{HandlesWorked.given, NameStaysWorked.{looks_up, with_names}, OpenReads.CanBeHad}, Locks.LockKeptWorked.{came, outset}}
use Rattle.nfs_promises.specs.Locks.{LockKeptWorked.{last_of, statuses}, OpenKeptWorked.its_open, OpenKept.LeaveOpen}
use Rattle.nfs_exec.specs.{Runs.Ops.RanOp}
use Rattle.nfs_serve.specs.{Step.ServerState}

-- PUTROOTFH, LOOKUP of `f`, and GETFH
abbrev pub finds : Arrival
finds = looks_up 5 3 (0x66 ∷ [])

abbrev pub removes : Arrival
removes = came 106 6 (in_session 1 4 (Op.PutRootFh ∷ Op.Remove (0x66 ∷ []) ∷ []))

abbrev pub reads : Arrival
reads = came 107 7 (in_session 1 5 (Op.PutFh (handle 2) ∷ reading (stateid 0 1) 0 8 ∷ []))

abbrev pub misses : Arrival
misses = looks_up 8 6 (0x66 ∷ [])

abbrev pub closes : Arrival
closes = came 109 9 (in_session 1 7 (Op.PutFh (handle 2) ∷ closing (stateid 1 1) ∷ []))

abbrev pub returns : Arrival
returns = came 110 10 (in_session 1 8 (Op.PutFh (handle 2) ∷ []))

abbrev pub found : ServerState
found = state_after written finds

abbrev pub removed : ServerState
removed = state_after found removes

abbrev pub read_once : ServerState
read_once = state_after removed reads

abbrev pub missed : ServerState
missed = state_after read_once misses

abbrev pub closed : ServerState
closed = state_after missed closes

-- open 1 is for reading and writing, and denies nothing
abbrev pub its_bits : Bits
its_bits = record { access = record { reads = true; writes = true }; deny = neither }

-- the first of these operations; what is behind it is of no account
abbrev pub first_of : RanOp → List RanOp → RanOp
first_of d [] = d
first_of d (a ∷ ds) = a

-- what the file has, by the answers
abbrev pub as_written : Image
as_written = image_after_all 2 (unwritten 0) (ops_of made writes)

-- The run meets the premises of the promises, and computes to what they say.
pub record IsKeptOpen : Type 0 where
  -- OPEN is the last operation of its compound
  pub front : List RanOp
  pub told : RanOp
  pub ops : ops_of outset makes ≡ front ++ told ∷ []
  pub tells : TellsOpen its_open its_bits told
  pub handle : IsHandleOf usual 2 given
  pub kept : LeaveOpen its_open its_bits 90 102 made (writes ∷ finds ∷ removes ∷ reads ∷ misses ∷ []) (λ b last s. b ≡ its_bits)
  -- REMOVE is the last of its compound, and takes the only name of the file
  pub until : List RanOp
  pub remove : RanOp
  pub last : ops_of found removes ≡ until ++ remove ∷ []
  pub there : is_there remove.before.store.tree 2 ≡ true
  pub named : has_row remove.before.store.tree.rows 2 ≡ true
  pub unnamed : has_row remove.behind.store.tree.rows 2 ≡ false
  -- the bytes are read, and the name is not found
  pub read : (d : RanOp) → (last_of d (ops_of removed reads)).result ≡ done_head Num.Read ++ words (1 ∷ 4 ∷ 0x7365_656e ∷ [])
  pub none : statuses (ops_of read_once misses) ≡ Nfs4Ok ∷ NoEnt ∷ []
  -- behind the CLOSE the filehandle is stale
  pub shut : statuses (ops_of missed closes) ≡ Nfs4Ok ∷ Nfs4Ok ∷ []
  pub gone : statuses (ops_of closed returns) ≡ Stale ∷ []

-- an operation that answers this status
abbrev pub with_status : Status → RanOp → RanOp
with_status status d = record d { status = status }

-- the context behind it, with the file
abbrev pub at_file : RanOp → Option Context
at_file d = Some (record d.context { current = Some 2 })

-- The promises refuse these.
pub record LossesAreRefused : Type 0 where
  -- the filehandle is stale once the name is gone
  pub stale : (d : RanOp) → IsThere 2 given (with_status Stale (first_of d (ops_of removed reads))) → ⊥
  -- a READ is answered NFS4ERR_STALE
  pub unread : (d : RanOp) → IsThere 2 given (with_status Stale (last_of d (ops_of removed reads))) → ⊥
  -- the CLOSE is
  pub unclosed : (d : RanOp) → IsThere 2 given (with_status Stale (last_of d (ops_of missed closes))) → ⊥
  -- a READ by the open is answered NFS4ERR_NOENT
  pub failed : (d : RanOp) → CanBeHad its_open its_bits (with_status NoEnt (last_of d (ops_of removed reads))) → ⊥
  -- the file is dropped with its name
  pub dropped : (d : RanOp) → IsThere 2 given (without_objects (last_of d (ops_of removed reads))) → ⊥
  -- its bytes are: READ answers that it is empty
  pub emptied : (d : RanOp) → ReadsImage 2 as_written (answering (words (1 ∷ 0 ∷ [])) (last_of d (ops_of removed reads))) → ⊥
  -- the name is there again
  pub named : (d : RanOp) (next : Option Context)
      → IsNameless 2 (with_names (last_of d (ops_of found removes)).before.store.tree.rows (last_of d (ops_of closed returns))) next → ⊥
  -- the LOOKUP of it leads to the file
  pub shown : (d : RanOp) → (let e = last_of d (ops_of read_once misses) in IsNameless 2 (record e { result = done_head Num.Lookup }) (at_file e) → ⊥)
