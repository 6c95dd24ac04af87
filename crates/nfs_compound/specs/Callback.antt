-- The security parameters of callbacks (callback_sec_parms4 of RFC 5662; RFC 8881 section 18.36.1), which are read and not looked at.
use Rattle.std.specs.Prelude.{ℕ, List}
use Rattle.nfs_xdr.specs.AuthSys.{AuthSys}

pub record GssHandles : Type 0 where
  pub service : ℕ
  pub handle_from_server : List ℕ
  pub handle_from_client : List ℕ

pub data SecParms : Type 0 where
  AuthNone : SecParms
  Sys : AuthSys → SecParms
  RpcsecGss : GssHandles → SecParms
