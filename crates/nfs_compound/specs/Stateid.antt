-- Stateids (stateid4 of RFC 5662; RFC 8881 section 8.2.2).
use Rattle.std.specs.{Prelude.{ℕ, List, take, drop}, Int.{w32, from_be_bytes}}
use Rattle.nfs_xdr.specs.{Codec.{Codec, number, ◌then◌, as_type, pieces}, Combinators.fixed}
use Rattle.nfs_compound.specs.declared.stateid.Stateid.{Stateid}

unfoldable pub stateid : Codec Stateid
stateid = as_type (λ (seqid, other). record { seqid = seqid; other = other }) (λ s. (s.seqid, s.other)) (number then fixed 12)

-- the stateid that these 16 bytes spell
abbrev pub stateid_of : List ℕ → Stateid
stateid_of bytes = record { seqid = from_be_bytes w32 (take 4 bytes); other = take 12 (drop 4 bytes) }

unfoldable pub stateids : Codec (List Stateid)
stateids = pieces 16 stateid_of stateid
