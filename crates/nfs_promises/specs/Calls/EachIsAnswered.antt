-- Each call is answered under its xid, whatever it asks for and in whatever state; and what is no call is not answered (RFC 5531 sections 8.2 and 9).
use Rattle.std.specs.Prelude.{◌≡◌, ℕ, List, ◌++◌, Option, Some, None, ⊤}
use Rattle.nfs_xdr.specs.Spelling.{number}
use Rattle.nfs_rpc.specs.{declared.refusal.Refusal.TheVariants.{Silent, Mismatch, Auth, Accept}, CallHead.{Called, Accepted, Refused, call_of}}
use Rattle.nfs_serve.specs.Step.{ServerState, step}

-- the xid of a record that is a call, as far as it can be read
abbrev pub xid_of : Called → Option ℕ
xid_of (Accepted call) = Some call.xid
xid_of (Refused Silent) = None
xid_of (Refused (Mismatch xid)) = Some xid
xid_of (Refused (Auth xid stat)) = Some xid
xid_of (Refused (Accept xid stat)) = Some xid

-- a reply is a message REPLY 1 of this xid; without one there is none
abbrev pub IsUnder : Option (List ℕ) → Option ℕ → Type 0
IsUnder None None = ⊤
IsUnder (Some reply) (Some xid) = (rest : List ℕ) × (reply ≡ number xid ++ (number 1 ++ rest))
IsUnder reply xid = ⊥

abbrev pub EachIsAnswered : Type 0
EachIsAnswered = (s : ServerState) (bytes : List ℕ) (now : ℕ) (choice : Option ℕ) → IsUnder (step s bytes now choice).reply (xid_of (call_of bytes))
