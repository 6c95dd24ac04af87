-- The head of a call (RFC 5531 sections 8.2 and 9, appendix A): from the bytes of a record to the call, or to the first refusal
-- by this server's order of checks.
use Rattle.std.specs.Prelude.{ℕ, ◌==◌, ◌&&◌, List, [], ◌∷◌, length, Bool, Option, Some, None, Result, Ok, Err, nat_lt, if◌then◌else◌, not}
use Rattle.std.specs.Prelude.{option_and_then, ok_or}
use Rattle.nfs_xdr.specs.{Caller.Caller, Checks.{first_fault, judged}, AuthSys.AuthSys}
use Rattle.nfs_rpc.specs.{Wire.{OpaqueAuth, Header}, HeadCodec.{message_at, header_at, auth_sys_at}, declared.refusal.Refusal.Refusal}
use Rattle.nfs_rpc.specs.declared.refusal.Refusal.TheVariants.{Silent, Mismatch, Auth, Accept}
use Rattle.nfs_rpc.specs.declared.refusal.AuthStat.TheVariants.{BadCred, RejectedCred, TooWeak}
use Rattle.nfs_rpc.specs.{declared.refusal.AcceptStat.TheVariants.{ProgUnavail, ProgMismatch, ProcUnavail, GarbageArgs}, declared.call.Procedure.Procedure}
use Rattle.nfs_rpc.specs.declared.call.Procedure.TheVariants as Procedures

-- under AUTH_NONE
abbrev pub nobody : Caller
nobody = record { uid = 65534; gid = 65534; gids = [] }

-- who is named by the body of an AUTH_SYS credential
abbrev pub named_by : AuthSys → Caller
named_by s = record { uid = s.uid; gid = s.gid; gids = s.gids }

-- under AUTH_SYS, where the body is spelled so and nothing stands behind it
unfoldable pub caller_of : List ℕ → Option Caller
caller_of body = option_and_then (λ (s, rest). if length rest == 0 then Some (named_by s) else None) (auth_sys_at body)

-- Who calls by a credential: AUTH_NONE 0, whose body is not looked at, or AUTH_SYS 1. No other flavor is known.
abbrev pub caller_by : ℕ → OpaqueAuth → Result Caller Refusal
caller_by xid credential =
    if credential.flavor == 0 then Ok nobody
    else if credential.flavor == 1 then ok_or (caller_of credential.body) (Auth xid BadCred)
    else Err (Auth xid RejectedCred)

pub record Call : Type 0 where
  pub xid : ℕ
  pub procedure : Procedure
  pub who : Caller
  pub args : List ℕ

pub data Called : Type 0 where
  Accepted : Call → Called
  Refused : Refusal → Called

-- the first refusal decides
infixl 10 ◌>>=◌
abbrev pub ◌>>=◌ : {A : Type 0} → Result A Refusal → (A → Called) → Called
(Err refusal) >>= go = Refused refusal
(Ok x) >>= go = go x

-- The checks of a call of a known caller, in order.
abbrev pub checks : ℕ → Header → List ℕ → List (Bool × Refusal)
checks xid h args =
    (not (h.program == 100003), Accept xid ProgUnavail)
    ∷ (not (h.version == 4), Accept xid ProgMismatch)
    ∷ (not (h.procedure == 0) && not (h.procedure == 1), Accept xid ProcUnavail)
    ∷ (h.procedure == 1 && h.credential.flavor == 0, Auth xid TooWeak)
    ∷ (h.procedure == 0 && nat_lt 0 (length args), Accept xid GarbageArgs)
    ∷ []

-- behind a header that can be read: first the credential, then these checks
unfoldable pub behind_header : ℕ → Header → List ℕ → Called
behind_header xid h args = do
  who ← caller_by xid h.credential
  _ ← judged (first_fault (checks xid h args))
  Accepted (record { xid = xid; procedure = if h.procedure == 0 then Procedures.Null else Procedures.Compound; who = who; args = args })

-- The call, or the first refusal.
unfoldable pub call_of : List ℕ → Called
call_of bytes = do
  ((xid, rpcvers), behind) ← ok_or (message_at bytes) Silent
  _ ← judged (first_fault ((not (rpcvers == 2), Mismatch xid) ∷ []))
  (h, args) ← ok_or (header_at behind) Silent
  behind_header xid h args
