-- A lease that is listed, worked by hand over the run of `LockKeptWorked` (RFC 8881 sections 5.8.1.11 and 18.23).
use Rattle.std.specs.Prelude.{◌≡◌, ℕ, true, List, [], ◌∷◌, ◌++◌}
use Rattle.nfs_xdr.specs.Spelling.{number}
use Rattle.nfs_compound.specs.declared.{name_args.ReadDir.ReadDir, op.{Item.TheVariants.Operation, Op.Op}}
use Rattle.nfs_results.specs.{declared.res.Fattr.Fattr, Results.done_head}
use Rattle.nfs_attrs.specs.Mask.{mask_of, has}
use Rattle.nfs_names.specs.Outcome.{is_ok}
use Rattle.nfs_exec.specs.Runs.Ops.{RanOp}
use Rattle.nfs_tree.specs.declared.profile.Profile.TheVariants.{Exact}
use Rattle.nfs_promises.specs.{Runs.{Requests.{words, in_session, listing_from}, AttributesTold.HasValue, Points.ops_of}, Network.Endpoint.Arrival}
use Rattle.nfs_promises.specs.Locks.LockKeptWorked.{came, locked}
use Rattle.nfs_compound.specs.declared.op_num.OpNum.TheVariants as Num

abbrev pub lists : Arrival
lists = came 103 4 (in_session 1 2 (Op.PutRootFh ∷ listing_from 0 512 (0x400 ∷ []) ∷ []))

-- an entry's attributes, of which attribute 10 was asked for
abbrev pub told : (seconds : ℕ) → Fattr
told seconds = record { attrmask = 0x400 ∷ []; attr_vals = number seconds }

-- The run meets the premises, and computes to what the promise says: one entry, cookie 3, `f`, with 90 seconds. The promise refuses an entry that says 91.
pub record IsListed : Type 0 where
  pub asked : ReadDir
  pub front : List RanOp
  pub read : RanOp
  pub ops : ops_of locked lists ≡ front ++ read ∷ []
  pub is : read.item ≡ Operation (Op.ReadDir asked)
  pub ten : has (mask_of asked.attr_request) 10 ≡ true
  pub ok : is_ok read.status ≡ true
  pub answers : read.result ≡ done_head Num.ReadDir ++ words (0 ∷ 0 ∷ 1 ∷ 0 ∷ 3 ∷ 1 ∷ 0x6600_0000 ∷ 1 ∷ 0x400 ∷ 4 ∷ 90 ∷ 0 ∷ 1 ∷ [])
  pub right : HasValue Exact 10 (number 90) (mask_of asked.attr_request) (told 90)
  pub wrong : HasValue Exact 10 (number 90) (mask_of asked.attr_request) (told 91) → ⊥
