-- Reading the head of a call. That the readers give what the texts of the wire (Wire) have is a law.
use Rattle.std.specs.Prelude.{ℕ, List, ◌++◌, Option}
use Rattle.nfs_xdr.specs.{Codec.{Codec, number, opaque, ◌then◌, as_type, led_by}, AuthSys.{AuthSys, auth_sys}}
use Rattle.nfs_rpc.specs.Wire.{OpaqueAuth, Header}

unfoldable pub opaque_auth : Codec OpaqueAuth
opaque_auth = as_type (λ (flavor, body). record { flavor = flavor; body = body }) (λ a. (a.flavor, a.body)) (number then opaque 400)

unfoldable pub header : Codec Header
header = as_type
    (λ (prog, (vers, (proc, (cred, verf)))). record { program = prog; version = vers; procedure = proc; credential = cred; verifier = verf })
    (λ h. (h.program, (h.version, (h.procedure, (h.credential, h.verifier)))))
    (number then number then number then opaque_auth then opaque_auth)

abbrev pub message : Codec (ℕ × ℕ)
message = number then led_by 0 number

-- the bytes of a call of RPC version 2, whose message type is CALL 0
abbrev pub spell_call : ℕ → Header → List ℕ → List ℕ
spell_call xid h args = number.spell xid ++ (number.spell 0 ++ (number.spell 2 ++ (header.spell h ++ args)))

-- What stands at the front of bytes, and what is behind it: the xid and the version of RPC of a message that is a call ..
abbrev pub message_at : List ℕ → Option ((ℕ × ℕ) × List ℕ)
message_at bytes = message.read bytes

-- .. the rest of the head of a call ..
abbrev pub header_at : List ℕ → Option (Header × List ℕ)
header_at bytes = header.read bytes

-- .. and the parameters of AUTH_SYS
abbrev pub auth_sys_at : List ℕ → Option (AuthSys × List ℕ)
auth_sys_at bytes = auth_sys.read bytes
