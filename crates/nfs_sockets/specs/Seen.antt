-- What a reply tells of its connection. It stands with its record mark (RFC 5531 sections 9 and 11): the mark, xid, REPLY, reply_stat, a verifier of no
-- bytes, accept_stat; and of a compound (RFC 8881 section 16.2.2) status, tag, how many results there are, and the first.
use Rattle.std.specs.Prelude.{ℕ, ◌+◌, ◌*◌, ◌^◌, ◌/◌, ◌==◌, ◌&&◌, ◌||◌, nat_le, List, Option, Some, if◌then◌else◌}
use Rattle.nfs_sockets.specs.{Tally.word_at, declared.seen.Seen.Seen, declared.seen.Seen.TheVariants.{Sequence, End, Other}}

-- of a session's id the first eight bytes name its client
abbrev pub client_of : Option ℕ → Option ℕ → Seen
client_of (Some high) (Some low) = Sequence (high * 2 ^ 32 + low)
client_of _ _ = Other

abbrev pub client_in : ℕ → List ℕ → Seen
client_in at reply = client_of (word_at at reply) (word_at (at + 4) reply)

-- SEQUENCE, DESTROY_SESSION and DESTROY_CLIENTID that were granted
abbrev pub first_is : Option ℕ → Option ℕ → Seen → Seen
first_is (Some op) (Some status) client = if (op == 53) && (status == 0) then client else if (op == 44 || op == 57) && (status == 0) then End else Other
first_is _ _ client = Other

abbrev pub seen_at : ℕ → List ℕ → Seen
seen_at at reply = first_is (word_at at reply) (word_at (at + 4) reply) (client_in (at + 8) reply)

abbrev pub seen_behind : Option ℕ → Option ℕ → Option ℕ → List ℕ → Seen
seen_behind (Some denied) (Some stat) (Some tag) reply =
    if (denied == 0) && (stat == 0) && nat_le tag 1024 then seen_at (40 + (tag + 3) / 4 * 4) reply else Other
seen_behind _ _ _ reply = Other

abbrev pub seen_in : List ℕ → Seen
seen_in reply = seen_behind (word_at 12 reply) (word_at 24 reply) (word_at 32 reply) reply
