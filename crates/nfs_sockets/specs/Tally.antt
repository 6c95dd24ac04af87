-- What a reply is counted as. It stands with its record mark (RFC 5531 sections 9 and 11): the mark, xid, REPLY, reply_stat, and, of one that is
-- accepted, a verifier of no bytes, accept_stat, and the status of the compound (RFC 8881 section 16.2.2).
use Rattle.std.specs.{Prelude.{ℕ, ◌+◌, ◌==◌, ◌||◌, Bool, nat_lt, List, length, take, drop, min, Option, Some, None, if◌then◌else◌}, Int.{from_be_bytes, w32}}
use Rattle.nfs_sockets.specs.declared.tally.Tally.{Tally}

abbrev pub word_at : ℕ → List ℕ → Option ℕ
word_at place bytes = if nat_lt (length (drop place bytes)) 4 then None else Some (from_be_bytes w32 (take 4 (drop place bytes)))

-- a compound's status, 0 where the reply has none
abbrev pub status_or_ok : Option ℕ → ℕ
status_or_ok None = 0
status_or_ok (Some status) = status

-- 1 where ONC RPC refuses the call that it has accepted
abbrev pub accepted : Option ℕ → Option ℕ → ℕ
accepted None status = 1
accepted (Some stat) status = if stat == 0 then status_or_ok status else 1

-- 1 too where it denies the call
abbrev pub replied : Option ℕ → Option ℕ → Option ℕ → Option ℕ
replied None stat status = None
replied (Some denied) stat status = if denied == 0 then Some (accepted stat status) else Some 1

abbrev pub status_in : List ℕ → Option ℕ
status_in reply = replied (word_at 12 reply) (word_at 24 reply) (word_at 28 reply)

abbrev pub no_calls : Tally
no_calls = record { calls = 0; delays = 0; refusals = 0; full = 0 }

-- NFS4ERR_FBIG, NOSPC, MLINK and SERVERFAULT tell of a limit (docs/OPERATING.md)
abbrev pub is_limit : ℕ → Bool
is_limit status = status == 27 || status == 28 || status == 31 || status == 10006

-- counters stay at their last value
abbrev pub more : ℕ → ℕ
more n = min (n + 1) 0xffff_ffff_ffff_ffff

abbrev pub noted : Tally → Option ℕ → Tally
noted t None = t
noted t (Some status) =
    if status == 0 then record t { calls = more t.calls }
    else if status == 10008 then record t { calls = more t.calls; delays = more t.delays; full = status }
    else record t { calls = more t.calls; refusals = more t.refusals; full = if is_limit status then status else t.full }
