-- What the operations of a compound hand on to one another (RFC 8881 section 16.2.3.1): the current filehandle and the
-- current stateid, and the saved ones.
use Rattle.std.specs.Prelude.{ℕ, Some, None, replicate}
use Rattle.nfs_xdr.specs.Caller.{Caller}
use Rattle.nfs_compound.specs.declared.stateid.Stateid.{Stateid}
use Rattle.nfs_names.specs.declared.context.Context.{Context}

-- the anonymous stateid (RFC 8881 section 8.2.3)
abbrev pub anonymous : Stateid
anonymous = record { seqid = 0; other = replicate 12 0 }

-- in front of the first operation: no filehandle, and the anonymous stateid
abbrev pub begins : ℕ → Caller → Context
begins client who = record { current = None; stateid = anonymous; saved = None; client = client; who = who }

-- an object becomes the current filehandle's, and the current stateid is anonymous
abbrev pub at_object : Context → ℕ → Context
at_object x n = record x { current = Some n; stateid = anonymous }
