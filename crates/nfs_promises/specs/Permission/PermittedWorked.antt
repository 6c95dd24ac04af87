-- A file whose mode gives its owner nothing, worked by hand over the run of `WrittenStaysWorked` (RFC 8881 sections 6.2.4, 18.16, 18.22 and 18.30). The
-- user 5, whose group is 6, makes the file `f`, and sets its mode to `r` for its group alone. The user's READ under the anonymous stateid is refused by NFS4ERR_ACCESS: the
-- owner's digit alone decides. Then the mode is `r` for the owner alone, and the READ is answered. In `unix` the READ is answered where the owner may execute the file, and
-- refused where the owner may write it alone.
use Rattle.std.specs.Prelude.{◌≡◌, ℕ, ◌+◌, true, List, [], ◌∷◌, ◌++◌, Some}
use Rattle.nfs_xdr.specs.declared.status.Status.TheVariants.{Nfs4Ok, Access}
use Rattle.nfs_rpc.specs.{CallHead.caller_of, Laws.Names}
use Rattle.nfs_compound.specs.declared.op.Op.{Op}
use Rattle.nfs_tree.specs.declared.profile.Profile.TheVariants.{Exact, Unix}
use Rattle.nfs_names.specs.Context.{anonymous}
use Rattle.nfs_exec.specs.Runs.Ops.{RanOp}
use Rattle.nfs_serve.specs.{Step.ServerState}
use Rattle.nfs_promises.specs.{Runs.{Requests.{words, in_session}, Started.usual, Points.{reached, state_after, ops_of}}, Network.Endpoint.Arrival}
use Rattle.nfs_promises.specs.{Names.FileStaysWorked.with_status, Locks.LockKeptWorked.{came, earlier, outset, last_of, statuses}, Permission.Permitted.{Rights, IsAt}}
use Rattle.nfs_promises.specs.Permission.{Permitted.{IsGranted, IsRefused}, RightsTold.{Subject, rights_after_all, HasRights, MakesWith}}
use Rattle.nfs_promises.specs.Bytes.WrittenStaysWorked.{makes, made}
use Rattle.nfs_promises.specs.Network.SeenWrite as seen

abbrev pub sets : (now number mode : ℕ) → Arrival
sets now number mode = came (100 + now) now (in_session 1 number (Op.PutRootFh ∷ Op.Lookup (0x66 ∷ [])
    ∷ Op.SetAttr (record { stateid = anonymous; obj_attributes = record { attrmask = 0 ∷ 2 ∷ []; attr_vals = words (mode ∷ []) } }) ∷ []))

-- PUTROOTFH, LOOKUP of `f`, and READ under the anonymous stateid
abbrev pub reads : (now number : ℕ) → Arrival
reads now number = came (100 + now) now (in_session 1 number seen.reads)

-- the group may read: 040; and then the owner: 400
abbrev pub to_group : Arrival
to_group = sets 4 2 32

abbrev pub asks : Arrival
asks = reads 5 3

abbrev pub to_owner : Arrival
to_owner = sets 6 4 256

abbrev pub asks_again : Arrival
asks_again = reads 7 5

-- and before the mode is set
abbrev pub asks_early : Arrival
asks_early = reads 4 2

abbrev pub shut : ServerState
shut = state_after made to_group

abbrev pub refused : ServerState
refused = state_after shut asks

abbrev pub free : ServerState
free = state_after refused to_owner

-- and x for the owner alone: 100; and then w: 200
abbrev pub to_run : Arrival
to_run = sets 4 2 64

abbrev pub to_write : Arrival
to_write = sets 6 4 128

-- in `exact`
abbrev pub unread : ServerState
unread = state_after made to_run

-- in `unix`
abbrev pub runs : ServerState
runs = state_after (state_after (reached (record usual { profile = Unix }) earlier) makes) to_run

abbrev pub only_written : ServerState
only_written = state_after (state_after runs asks) to_write

-- the file, in `exact`
abbrev pub it : Subject
it = record { number = 2; regular = true; profile = Exact }

-- user 5's and group 6's, with a mode
abbrev pub with_mode : ℕ → Rights
with_mode mode = record { mode = mode; owner = 5; group = 6 }

-- a credential of AUTH_SYS: stamp 1, machine `m`, user 4242, group 6 and no further one (RFC 5531, appendix A)
abbrev pub credential : List ℕ
credential = words (1 ∷ 1 ∷ 0x6d00_0000 ∷ 4242 ∷ 6 ∷ 0 ∷ [])

-- The run meets the premises of the promises, and computes to what they say.
pub record IsAskedOfTheOwner : Type 0 where
  -- OPEN is the last operation of its compound, and made the file with rw-r--r--
  pub front : List RanOp
  pub opening : RanOp
  pub ops : ops_of outset makes ≡ front ++ opening ∷ []
  pub making : MakesWith it (with_mode 420) opening
  -- what it has by the answers, behind each SETATTR
  pub set : rights_after_all it (with_mode 420) (ops_of made to_group) ≡ with_mode 32
  pub again : rights_after_all it (with_mode 32) (ops_of refused to_owner) ≡ with_mode 256
  -- that the READs find, and so they are answered
  pub at : (d : RanOp) → IsAt 2 (with_mode 32) (last_of d (ops_of shut asks))
  pub denied : statuses (ops_of shut asks) ≡ Nfs4Ok ∷ Nfs4Ok ∷ Access ∷ []
  pub at_last : (d : RanOp) → IsAt 2 (with_mode 256) (last_of d (ops_of free asks_again))
  pub given : statuses (ops_of free asks_again) ≡ Nfs4Ok ∷ Nfs4Ok ∷ Nfs4Ok ∷ []
  -- in `unix` x lets the owner read, and w does not; in `exact` r alone does
  pub at_x : (d : RanOp) → IsAt 2 (with_mode 64) (last_of d (ops_of runs asks))
  pub given_by_x : statuses (ops_of runs asks) ≡ Nfs4Ok ∷ Nfs4Ok ∷ Nfs4Ok ∷ []
  pub at_w : (d : RanOp) → IsAt 2 (with_mode 128) (last_of d (ops_of only_written asks_again))
  pub denied_by_w : statuses (ops_of only_written asks_again) ≡ Nfs4Ok ∷ Nfs4Ok ∷ Access ∷ []
  pub denied_exactly : statuses (ops_of unread asks) ≡ Nfs4Ok ∷ Nfs4Ok ∷ Access ∷ []
  -- the user is the credential's
  pub named : caller_of credential ≡ Some (record { uid = 4242; gid = 6; gids = [] })

-- The promises refuse these.
pub record GrantsAreRefused : Type 0 where
  -- the group's digit is asked for the owner too: the first READ is answered NFS4_OK
  pub other_class : (d : RanOp) → IsGranted Exact (with_status Nfs4Ok (last_of d (ops_of shut asks))) → ⊥
  -- the second READ is refused, though the owner may read
  pub needless : (d : RanOp) → IsRefused Exact (with_status Access (last_of d (ops_of free asks_again))) → ⊥
  -- in `unix` the READ is refused for want of r, though the owner may execute the file; or answered, though the owner may only write it
  pub unread_program : (d : RanOp) → IsRefused Unix (with_status Access (last_of d (ops_of runs asks))) → ⊥
  pub read_by_w : (d : RanOp) → IsGranted Unix (with_status Nfs4Ok (last_of d (ops_of only_written asks_again))) → ⊥
  -- and in `exact` it is answered for x
  pub read_by_x : (d : RanOp) → IsGranted Exact (with_status Nfs4Ok (last_of d (ops_of unread asks))) → ⊥
  -- the user 4242 is taken for user 0, which may do all
  pub as_root : Names credential (record { uid = 0; gid = 6; gids = [] }) → ⊥
  -- the SETATTR set nothing
  pub unset : (d : RanOp) → HasRights 2 (with_mode 32) (last_of d (ops_of made asks_early)) → ⊥
