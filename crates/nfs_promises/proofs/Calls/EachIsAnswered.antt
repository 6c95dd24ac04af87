-- Each call is answered under its xid.
use Rattle.std.proofs.{Common.{◌≡◌, ℕ, List, ◌++◌, Option, Some, None, ◌∙◌, ap}, lemmas.List.append_assoc}
use Rattle.nfs_xdr.specs.Spelling.{number}
use Rattle.nfs_rpc.specs.{declared.refusal.Refusal.TheVariants.{Silent, Mismatch, Auth, Accept}, declared.call.Procedure.Procedure}
use Rattle.nfs_rpc.specs.{CallHead.{Call, Called, Accepted, Refused, call_of}, Reply.{spell_head, spell_refusal}}
use Rattle.nfs_rpc.specs.declared.call.Procedure.TheVariants as Procedures
use Rattle.nfs_compound.specs.{Request.Request, ReadRequest.request_at}
use Rattle.nfs_exec.specs.Step.Compound.{compound}
use Rattle.nfs_serve.specs.{Step.{ServerState, with_arguments, by_procedure, reply_to, step}}
use Rattle.nfs_promises.specs.Calls.EachIsAnswered.{xid_of, IsUnder, EachIsAnswered}

-- what begins with an xid and REPLY does so with more behind it
front : (xid rest more : List ℕ) → (xid ++ (number 1 ++ rest)) ++ more ≡ xid ++ (number 1 ++ (rest ++ more))
front xid rest more = append_assoc xid (number 1 ++ rest) more ∙ ap (λ (k : List ℕ). xid ++ k) (append_assoc (number 1) rest more)

by_request : (s : ServerState) (call : Call) (size : ℕ) (choice : Option ℕ) (o : Option Request) → IsUnder (with_arguments s call size choice o).reply (Some call.xid)
unfolding spell_head spell_refusal
by_request s call size choice None = (_, front (number call.xid) _ _)
by_request s call size choice (Some r) =
    let text = (compound s.machine r call.who size s.moment choice).text in
    (_, ap (λ (k : List ℕ). k ++ text) (front (number call.xid) (number 0 ++ (number 0 ++ number 0)) (number 0)) ∙ front (number call.xid) _ text)

by_call : (s : ServerState) (call : Call) (size : ℕ) (choice : Option ℕ) (p : Procedure) → IsUnder (by_procedure s call size choice p).reply (Some call.xid)
unfolding spell_head
by_call s call size choice Procedures.Null = (_, front (number call.xid) _ _)
by_call s call size choice Procedures.Compound = by_request s call size choice (request_at call.args)

by_called : (s : ServerState) (size : ℕ) (choice : Option ℕ) (c : Called) → IsUnder (reply_to s size choice c).reply (xid_of c)
unfolding spell_refusal
by_called s size choice (Refused Silent) = tt
by_called s size choice (Refused (Mismatch xid)) = (_, front (number xid) _ _)
by_called s size choice (Refused (Auth xid stat)) = (_, front (number xid) _ _)
by_called s size choice (Refused (Accept xid stat)) = (_, front (number xid) _ _)
by_called s size choice (Accepted call) = by_call s call size choice call.procedure

pub each_is_answered : EachIsAnswered
unfolding step
each_is_answered s bytes now choice = by_called _ _ choice (call_of bytes)
