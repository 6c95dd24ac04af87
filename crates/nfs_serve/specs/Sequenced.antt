-- Whether a session's SEQUENCE was answered (RFC 5531 section 9, RFC 8881 sections 16.2 and 18.46): what is put out for a record tells it.
use Rattle.std.specs.Prelude.{ℕ, ◌==◌, ◌&&◌, List, Bool, false, Option, Some, None}
use Rattle.nfs_xdr.specs.{Limits.opaque_limit, Reading.{◌>>=◌, number_at, opaque_at}}

-- Of a record with its mark: the mark, xid, REPLY, MSG_ACCEPTED, a verifier of no bytes, SUCCESS; the compound's status, its tag, how many
-- operations were answered, and the number and status of the first.
unfoldable pub sequence_in : List ℕ → Option Bool
sequence_in bytes = do
  mark ← number_at bytes
  xid ← number_at mark.1
  kind ← number_at xid.1
  stat ← number_at kind.1
  flavor ← number_at stat.1
  size ← number_at flavor.1
  accepted ← number_at size.1
  status ← number_at accepted.1
  tag ← opaque_at opaque_limit status.1
  count ← number_at tag.1
  op ← number_at count.1
  ok ← number_at op.1
  Some ((stat.0 == 0) && (accepted.0 == 0) && (op.0 == 53) && (ok.0 == 0))

abbrev pub or_not : Option Bool → Bool
or_not None = false
or_not (Some b) = b

-- bytes that are put out for a record answer SEQUENCE with NFS4_OK
abbrev pub answers_sequence : List ℕ → Bool
answers_sequence bytes = or_not (sequence_in bytes)
