-- The laws of the arguments of a compound (RFC 8881 section 16.2): each list of bytes is a request or garbage and never both, and it is one request at most.
use Rattle.std.specs.Prelude.{◌≡◌, ◌↔◌, ℕ, ◌⊎◌, List, Some, None}
use Rattle.nfs_xdr.specs.Text.{IsBytes}
use Rattle.nfs_compound.specs.{Request.{Request, IsRequest, IsGarbage}, ReadRequest.request_at}

abbrev pub HasOneReading : Type 0
HasOneReading = (bytes : List ℕ) → IsBytes bytes → ((r : Request) × IsRequest bytes r) ⊎ IsGarbage bytes

abbrev pub HasNoOther : Type 0
HasNoOther = (bytes : List ℕ) (r : Request) → IsBytes bytes → IsRequest bytes r → IsGarbage bytes → ⊥

abbrev pub IsOneRequest : Type 0
IsOneRequest = (bytes : List ℕ) (r s : Request) → IsBytes bytes → IsRequest bytes r → IsRequest bytes s → r ≡ s

-- the function reads the requests, and refuses garbage
abbrev pub ReadsRequests : Type 0
ReadsRequests = (bytes : List ℕ) (r : Request) → IsBytes bytes → request_at bytes ≡ Some r ↔ IsRequest bytes r

abbrev pub RefusesGarbage : Type 0
RefusesGarbage = (bytes : List ℕ) → IsBytes bytes → request_at bytes ≡ None ↔ IsGarbage bytes
