-- A filehandle is a file: what a GETFH gave for an object leads back to it, and never to another (RFC 8881 sections 4.2, 18.8 and 18.19).
use Rattle.std.specs.Prelude.{◌≡◌, ℕ, ◌≤◌, true, List, [], ◌∷◌, length, Some}
use Rattle.nfs_xdr.specs.{Limits.fhsize, declared.status.Status.TheVariants.{BadHandle, Stale}}
use Rattle.nfs_compound.specs.{declared.op.Item.TheVariants.Operation, OpNum.op_number}
use Rattle.nfs_compound.specs.declared.op.Op.TheVariants as Op
use Rattle.nfs_compound.specs.declared.op_num.OpNum.TheVariants as Num
use Rattle.nfs_results.specs.declared.res.Res.TheVariants as Res
use Rattle.nfs_results.specs.Results.{spell_result, refusal}
use Rattle.nfs_names.specs.State.{is_used}
use Rattle.nfs_exec.specs.Runs.Ops.{RanOp}

-- A GETFH of object n that answered NFS4_OK gave this filehandle, which is as long as a filehandle can be at most.
pub record Gives (n : ℕ) (h : List ℕ) (d : RanOp) : Type 0 where
  pub is : d.item ≡ Operation Op.GetFh
  pub at : d.context.current ≡ Some n
  pub short : length h ≤ fhsize
  pub answers : d.result ≡ spell_result (Res.GetFh h)

-- A PUTFH of it leads the operation behind it to the object. While the object has a name or an open it does not answer NFS4ERR_STALE, and it never answers
-- NFS4ERR_BADHANDLE.
pub record LeadsFrom (n : ℕ) (h : List ℕ) (d : RanOp) (behind : List RanOp) : Type 0 where
  pub leads : d.item ≡ Operation (Op.PutFh h) → (next : RanOp) (more : List RanOp) → behind ≡ next ∷ more → next.context.current ≡ Some n
  pub found : d.item ≡ Operation (Op.PutFh h) → is_used d.before.store n ≡ true → d.result ≡ spell_result (refusal (op_number Num.PutFh) Stale) → ⊥
  pub known : d.item ≡ Operation (Op.PutFh h) → d.result ≡ spell_result (refusal (op_number Num.PutFh) BadHandle) → ⊥

-- each PUTFH of it among these operations, which are run one after the other
abbrev pub Leads : ℕ → List ℕ → List RanOp → Type 0
Leads n h [] = Unit {0}
Leads n h (d ∷ behind) = LeadsFrom n h d behind × Leads n h behind
