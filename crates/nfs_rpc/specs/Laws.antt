-- What the laws of a call's head say (RFC 5531 section 9 and appendix A).
use Rattle.std.specs.Prelude.{◌≡◌, ℕ, List}
use Rattle.nfs_xdr.specs.{AuthSys.AuthSys, Caller.Caller, Text.Leads, Wire.authsys_parms}
use Rattle.nfs_rpc.specs.{CallHead.{Call, Accepted, behind_header}, Wire.{Header, call}}

-- the head of the call stands in front of its arguments, and passes each check
abbrev pub HasHead : List ℕ → Call → Type 0
HasHead bytes c = (h : Header) × Leads (call c.xid) bytes (h, c.args) × (behind_header c.xid h c.args ≡ Accepted c)

-- the user and the groups of these parameters of AUTH_SYS
abbrev pub IsUser : AuthSys → Caller → Type 0
IsUser s who = (who.uid ≡ s.uid) × (who.gid ≡ s.gid) × (who.gids ≡ s.gids)

-- the body is the text of parameters of AUTH_SYS, whose user the caller is
abbrev pub Names : List ℕ → Caller → Type 0
Names body who = (s : AuthSys) × (authsys_parms s).Fits × (body ≡ (authsys_parms s).bytes) × IsUser s who
