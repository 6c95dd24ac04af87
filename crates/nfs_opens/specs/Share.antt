-- Share access and share deny: READ, WRITE, both or neither (RFC 8881 sections 9.7 and 18.16.1).
use Rattle.std.specs.Prelude.{ℕ, ◌+◌, ◌==◌, Bool, true, false, not, ◌&&◌, ◌||◌, Option, Some, None, if◌then◌else◌}
use Rattle.nfs_opens.specs.declared.share.Share.{Share}

abbrev pub neither : Share
neither = record { reads = false; writes = false }

-- what the two bits of a number on the wire say
abbrev pub share_of : ℕ → Option Share
share_of bits =
    if bits == 0 then Some neither
    else if bits == 1 then Some (record { reads = true; writes = false })
    else if bits == 2 then Some (record { reads = false; writes = true })
    else if bits == 3 then Some (record { reads = true; writes = true })
    else None

-- .. and the number that says it
abbrev pub bits_of : Share → ℕ
bits_of a = (if a.reads then 1 else 0) + (if a.writes then 2 else 0)

-- both have a bit
abbrev pub meets : Share → Share → Bool
meets a b = (a.reads && b.reads) || (a.writes && b.writes)

-- what either has
abbrev pub joined : Share → Share → Share
joined a b = record { reads = a.reads || b.reads; writes = a.writes || b.writes }

-- the second has each bit of the first
abbrev pub is_part : Share → Share → Bool
is_part a b = (not a.reads || b.reads) && (not a.writes || b.writes)

abbrev pub is_neither : Share → Bool
is_neither a = not a.reads && not a.writes
