-- What the structs of a call are as values, wherever their bytes lie in memory.
use Rattle.std.specs.Prelude.{◌≡◌, Result, Ok, Err}
use Rattle.nfs_xdr.specs.{Caller.{Caller, caller}, declared.who.Who.Who}
use Rattle.nfs_rpc.specs.declared.call.Call as rust_call
use Rattle.nfs_rpc.specs.declared.call.OpaqueAuth as rust_opaque_auth
use Rattle.nfs_rpc.specs.declared.call.Header as rust_header
use Rattle.nfs_rpc.specs.{declared.refusal.Refusal.Refusal, CallHead.{Called, Accepted, Refused}}
use Rattle.nfs_rpc.specs.Wire as wire
use Rattle.nfs_rpc.specs.CallHead as head

abbrev pub opaque_auth : rust_opaque_auth.OpaqueAuth → wire.OpaqueAuth
opaque_auth a = record { flavor = a.flavor; body = a.body.now }

abbrev pub header : rust_header.Header → wire.Header
header h = record {
  program = h.program;
  version = h.version;
  procedure = h.procedure;
  credential = opaque_auth h.credential;
  verifier = opaque_auth h.verifier;
}

abbrev pub call : rust_call.Call → head.Call
call c = record { xid = c.xid; procedure = c.procedure; who = caller c.who; args = c.args.now }

-- what `Call::read` answers
abbrev pub IsCalled : Result rust_call.Call Refusal → Called → Type 0
IsCalled (Ok c) called = called ≡ Accepted (call c)
IsCalled (Err refusal) called = called ≡ Refused refusal

-- who calls, or why nobody does
abbrev pub IsCaller : Result Who Refusal → Result Caller Refusal → Type 0
IsCaller (Ok w) called = called ≡ Ok (caller w)
IsCaller (Err refusal) called = called ≡ Err refusal
