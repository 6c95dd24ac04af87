-- Who makes a call, as a value (RFC 5531 section 10.1 and appendix A).
use Rattle.std.specs.{Prelude.{ℕ, List, map}, Int.{w32, from_be_bytes}}
use Rattle.nfs_xdr.specs.declared.who.Who.{Who}

pub record Caller : Type 0 where
  pub uid : ℕ
  pub gid : ℕ
  pub gids : List ℕ

-- its groups as numbers
abbrev pub caller : Who → Caller
caller w = record { uid = w.uid; gid = w.gid; gids = map (from_be_bytes w32) w.groups.now }
