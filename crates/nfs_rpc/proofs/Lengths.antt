-- How long the replies are.
use Rattle.std.proofs.{Common.{◌≡◌, ℕ, ◌≤◌, length, arith}, lemmas.List.length-append}
use Rattle.nfs_xdr.proofs.Putting.{length_number}
use Rattle.nfs_rpc.specs.{declared.refusal.Refusal.Refusal, declared.refusal.Refusal.TheVariants.{Silent, Mismatch, Auth, Accept}}
use Rattle.nfs_rpc.specs.{declared.refusal.AcceptStat.TheVariants.{ProgUnavail, ProgMismatch, ProcUnavail, GarbageArgs}, Reply.{spell_head, spell_refusal}}

pub length_head : (xid : ℕ) → length (spell_head xid) ≡ 24
unfolding spell_head
length_head xid = simp (length-append, length_number) (omega arith)

pub length_refusal : (refusal : Refusal) → length (spell_refusal refusal) ≤ 32
unfolding spell_refusal
length_refusal Silent = omega arith
length_refusal (Mismatch xid) = simp (length-append, length_number) (omega arith)
length_refusal (Auth xid stat) = simp (length-append, length_number) (omega arith)
length_refusal (Accept xid ProgUnavail) = simp (length-append, length_number) (omega arith)
length_refusal (Accept xid ProgMismatch) = simp (length-append, length_number) (omega arith)
length_refusal (Accept xid ProcUnavail) = simp (length-append, length_number) (omega arith)
length_refusal (Accept xid GarbageArgs) = simp (length-append, length_number) (omega arith)

pub ruleset lengths = (length_head, length_refusal)
