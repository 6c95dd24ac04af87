-- The head of a call on the wire (RFC 5531 sections 8.2 and 9), each field under its type.
use Rattle.std.specs.Prelude.{ℕ, List}
use Rattle.nfs_xdr.specs.Text.{Text, ◌then◌, uint32, enum, opaque}

-- a credential or a verifier: how it is to be understood, and its bytes (RFC 5531 section 8.2)
pub record OpaqueAuth : Type 0 where
  pub flavor : ℕ
  pub body : List ℕ

abbrev pub opaque_auth : OpaqueAuth → Text
opaque_auth a = uint32 a.flavor then opaque 400 a.body

-- what stands behind the version of RPC (RFC 5531 section 9)
pub record Header : Type 0 where
  pub program : ℕ
  pub version : ℕ
  pub procedure : ℕ
  pub credential : OpaqueAuth
  pub verifier : OpaqueAuth

abbrev pub call_body : Header → Text
call_body h = uint32 h.program then uint32 h.version then uint32 h.procedure then opaque_auth h.credential then opaque_auth h.verifier

-- in front of it: the xid of a message whose type is CALL, which is 0, and its version of RPC
abbrev pub rpc_msg : ℕ × ℕ → Text
rpc_msg (xid, rpcvers) = uint32 xid then enum 0 then uint32 rpcvers

-- the head of a call of RPC version 2
abbrev pub call : ℕ → Header → Text
call xid h = rpc_msg (xid, 2) then call_body h
