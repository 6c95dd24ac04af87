-- A filehandle that leads back, worked by hand behind the run of `LockKeptWorked` (RFC 8881 sections 4.2, 18.8 and 18.19).
use Rattle.std.specs.Prelude.{◌≡◌, ℕ, List, [], ◌∷◌, ◌++◌, Some}
use Rattle.nfs_xdr.specs.declared.status.Status.TheVariants.{Stale}
use Rattle.nfs_compound.specs.{declared.op.{Item.TheVariants.Operation, Op.Op}, OpNum.op_number}
use Rattle.nfs_results.specs.Results.{spell_result, refusal}
use Rattle.nfs_exec.specs.Runs.Ops.{RanOp}
use Rattle.nfs_serve.specs.Step.{ServerState}
use Rattle.nfs_promises.specs.{Runs.{Requests.{words, in_session}, Handles.{Gives, Leads}, Points.{state_after, ops_of}}, Network.Endpoint.Arrival}
use Rattle.nfs_promises.specs.Locks.LockKeptWorked.{came, locked}
use Rattle.nfs_compound.specs.declared.op_num.OpNum.TheVariants as Num

abbrev pub finds : Arrival
finds = came 103 4 (in_session 1 2 (Op.PutRootFh ∷ Op.Lookup (0x66 ∷ []) ∷ Op.GetFh ∷ []))

-- the filehandle that it gives: instance 7, object 2
abbrev pub given : List ℕ
given = words (7 ∷ 0 ∷ 0 ∷ 2 ∷ [])

abbrev pub returns : Arrival
returns = came 104 5 (in_session 1 3 (Op.PutFh given ∷ Op.GetFh ∷ []))

abbrev pub found : ServerState
found = state_after locked finds

-- the operation finds another object
abbrev pub led_to : ℕ → RanOp → RanOp
led_to n d = record d { context = record d.context { current = Some n } }

-- it answers that the filehandle is stale
abbrev pub stale : RanOp → RanOp
stale d = record d { result = spell_result (refusal (op_number Num.PutFh) Stale) }

-- The run meets the premises, and computes to what the promise says. The promise refuses a PUTFH that leads to the next object, and one that answers
-- NFS4ERR_STALE while the file has a name.
pub record IsLedBack : Type 0 where
  pub front : List RanOp
  pub get : RanOp
  pub finds : ops_of locked finds ≡ front ++ get ∷ []
  pub gives : Gives 2 given get
  pub put : RanOp
  pub next : RanOp
  pub ops : ops_of found returns ≡ put ∷ next ∷ []
  pub is : put.item ≡ Operation (Op.PutFh given)
  pub at : next.context.current ≡ Some 2
  pub another : Leads 2 given (put ∷ led_to 3 next ∷ []) → ⊥
  pub forgotten : Leads 2 given (stale put ∷ []) → ⊥
