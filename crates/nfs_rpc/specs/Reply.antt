-- The head of a reply, and the replies of calls that are not run (RFC 5531 sections 9 and 8.2).
use Rattle.std.specs.Prelude.{ℕ, List, [], ◌++◌}
use Rattle.nfs_xdr.specs.Spelling.{number}
use Rattle.nfs_rpc.specs.{declared.refusal.Refusal.Refusal, declared.refusal.Refusal.TheVariants.{Silent, Mismatch, Auth, Accept}}
use Rattle.nfs_rpc.specs.{declared.refusal.AuthStat.AuthStat, declared.refusal.AuthStat.TheVariants.{BadCred, RejectedCred, TooWeak}}
use Rattle.nfs_rpc.specs.{declared.refusal.AcceptStat.AcceptStat, declared.refusal.AcceptStat.TheVariants.{ProgUnavail, ProgMismatch, ProcUnavail, GarbageArgs}}

-- REPLY 1, MSG_ACCEPTED 0, and a verifier of flavor AUTH_NONE with no bytes
abbrev pub spell_accepted : ℕ → List ℕ
spell_accepted xid = number xid ++ (number 1 ++ (number 0 ++ (number 0 ++ number 0)))

-- behind it SUCCESS 0, and then the results
unfoldable pub spell_head : ℕ → List ℕ
spell_head xid = spell_accepted xid ++ number 0

-- REPLY 1, MSG_DENIED 1
abbrev pub spell_denied : ℕ → List ℕ
spell_denied xid = number xid ++ (number 1 ++ number 1)

abbrev pub auth_number : AuthStat → ℕ
auth_number BadCred = 1
auth_number RejectedCred = 2
auth_number TooWeak = 5

-- a wrong version is reported with the lowest and the highest that are served
abbrev pub spell_stat : AcceptStat → List ℕ
spell_stat ProgUnavail = number 1
spell_stat ProgMismatch = number 2 ++ (number 4 ++ number 4)
spell_stat ProcUnavail = number 3
spell_stat GarbageArgs = number 4

-- The reply to a call that is refused, and nothing where nobody is answered.
unfoldable pub spell_refusal : Refusal → List ℕ
spell_refusal Silent = []
spell_refusal (Mismatch xid) = spell_denied xid ++ (number 0 ++ (number 2 ++ number 2))
spell_refusal (Auth xid stat) = spell_denied xid ++ (number 1 ++ number (auth_number stat))
spell_refusal (Accept xid stat) = spell_accepted xid ++ spell_stat stat
