-- The parameters of AUTH_SYS (RFC 5531 appendix A), which a credential has and the security parameters of callbacks may have.
use Rattle.std.specs.{Prelude.{ℕ, List}, Int.{w32, from_be_bytes}}
use Rattle.nfs_xdr.specs.{Limits.{most_groups, most_machine_name}, Codec.{Codec, number, opaque, ◌then◌, as_type, pieces, at_most}}

pub record AuthSys : Type 0 where
  pub stamp : ℕ
  pub machinename : List ℕ
  pub uid : ℕ
  pub gid : ℕ
  pub gids : List ℕ

unfoldable pub auth_sys : Codec AuthSys
auth_sys = as_type
    (λ (stamp, (machinename, (uid, (gid, gids)))). record { stamp = stamp; machinename = machinename; uid = uid; gid = gid; gids = gids })
    (λ a. (a.stamp, (a.machinename, (a.uid, (a.gid, a.gids)))))
    (number then opaque most_machine_name then number then number then at_most most_groups (pieces 4 (from_be_bytes w32) number))
