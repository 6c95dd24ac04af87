-- The table of arguments: how each operation is spelled behind its number (RFC 5662; RFC 8881 section 18).
use Rattle.nfs_xdr.specs.{Limits.fhsize, Codec.{Codec, number, hyper, flag, opaque, unbounded}, Combinators.{fixed, nothing}}
use Rattle.nfs_compound.specs.{declared.op_num.OpNum.OpNum, Stateid.{stateid, stateids}}
use Rattle.nfs_compound.specs.ArgCodecs.{bitmap, attributes, lock_args, lock_t_args, lock_u_args, commit_args, read_args, write_args, set_attr_args}
use Rattle.nfs_compound.specs.ArgCodecs.{create_args, read_dir_args, rename_args, secinfo_style, exchange_id_args, create_session_args, sequence_args}
use Rattle.nfs_compound.specs.{OpenCodecs.{open_args, open_downgrade_args, close_args}, declared.op.Op.Op}
use Rattle.nfs_compound.specs.declared.op_num.OpNum.TheVariants as Num

-- An operation's arguments: its number, their format, and what they are.
pub record Arguments : Type 1 where
  pub A : Type 0
  pub op : OpNum
  pub format : Codec A
  pub value : A

abbrev pub behind : {A : Type 0} → OpNum → Codec A → A → Arguments
behind {A} op format value = record { A = A; op = op; format = format; value = value }

abbrev pub alone : OpNum → Arguments
alone op = behind {A = Unit {0}} op (nothing tt) tt

abbrev pub arguments : Op → Arguments
arguments (Op.Access access) = behind Num.Access number access
arguments (Op.Close a) = behind Num.Close close_args a
arguments (Op.Commit a) = behind Num.Commit commit_args a
arguments (Op.Create a) = behind Num.Create create_args a
arguments (Op.GetAttr mask) = behind Num.GetAttr bitmap mask
arguments Op.GetFh = alone Num.GetFh
arguments (Op.Link name) = behind Num.Link unbounded name
arguments (Op.Lock a) = behind Num.Lock lock_args a
arguments (Op.LockT a) = behind Num.LockT lock_t_args a
arguments (Op.LockU a) = behind Num.LockU lock_u_args a
arguments (Op.Lookup name) = behind Num.Lookup unbounded name
arguments Op.LookupP = alone Num.LookupP
arguments (Op.NVerify a) = behind Num.NVerify attributes a
arguments (Op.Open a) = behind Num.Open open_args a
arguments (Op.OpenDowngrade a) = behind Num.OpenDowngrade open_downgrade_args a
arguments (Op.PutFh object) = behind Num.PutFh (opaque fhsize) object
arguments Op.PutPubFh = alone Num.PutPubFh
arguments Op.PutRootFh = alone Num.PutRootFh
arguments (Op.Read a) = behind Num.Read read_args a
arguments (Op.ReadDir a) = behind Num.ReadDir read_dir_args a
arguments Op.ReadLink = alone Num.ReadLink
arguments (Op.Remove name) = behind Num.Remove unbounded name
arguments (Op.Rename a) = behind Num.Rename rename_args a
arguments Op.RestoreFh = alone Num.RestoreFh
arguments Op.SaveFh = alone Num.SaveFh
arguments (Op.SetAttr a) = behind Num.SetAttr set_attr_args a
arguments (Op.Verify a) = behind Num.Verify attributes a
arguments (Op.Write a) = behind Num.Write write_args a
arguments (Op.ExchangeId a) = behind Num.ExchangeId exchange_id_args a
arguments (Op.CreateSession a) = behind Num.CreateSession create_session_args a
arguments (Op.DestroySession sessionid) = behind Num.DestroySession (fixed 16) sessionid
arguments (Op.FreeStateid held) = behind Num.FreeStateid stateid held
arguments (Op.SecinfoNoName style) = behind Num.SecinfoNoName secinfo_style style
arguments (Op.Sequence a) = behind Num.Sequence sequence_args a
arguments (Op.TestStateid held) = behind Num.TestStateid stateids held
arguments (Op.DestroyClientId clientid) = behind Num.DestroyClientId hyper clientid
arguments (Op.ReclaimComplete one_fs) = behind Num.ReclaimComplete flag one_fs
