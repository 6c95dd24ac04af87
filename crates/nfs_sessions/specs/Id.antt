-- How a session's id is spelled: sessionid4, 16 bytes (RFC 8881 section 3.2).
use Rattle.std.specs.{Prelude.{ℕ, List, ◌++◌, take, drop}, Int.{w64, from_be_bytes}}
use Rattle.nfs_xdr.specs.Spelling.{hyper}
use Rattle.nfs_sessions.specs.declared.id.SessionId.{SessionId}

abbrev pub id_bytes : SessionId → List ℕ
id_bytes id = hyper id.client ++ hyper id.counter

-- the id that 16 bytes spell
abbrev pub id_of : List ℕ → SessionId
id_of bytes = record { client = from_be_bytes w64 (take 8 bytes); counter = from_be_bytes w64 (drop 8 bytes) }
