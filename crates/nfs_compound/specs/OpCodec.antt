-- How an operation is read behind its number, and which fault stands where none is read.
use Rattle.std.specs.Prelude.{ℕ, ◌&&◌, List, Option, Some, None, nat_le, is_some, if◌then◌else◌}
use Rattle.nfs_xdr.specs.{Limits.fhsize, Codec.{Codec, number, hyper, flag, opaque, unbounded, arm, bare}, Combinators.{fixed, union_by}}
use Rattle.nfs_xdr.specs.{declared.status.Status.Status, declared.status.Status.TheVariants.{Inval, NotSupp, BadXdr, OpIllegal}}
use Rattle.nfs_compound.specs.{Request.{spell_op, FitsOp}, declared.op_num.OpNum.OpNum, OpNum.{op_number, op_nums, op_num, first_op, last_op, op_illegal}}
use Rattle.nfs_compound.specs.Stateid.{stateid, stateids}
use Rattle.nfs_compound.specs.ArgCodecs.{bitmap, attributes, lock_args, lock_t_args, lock_u_args, commit_args, read_args, write_args, set_attr_args}
use Rattle.nfs_compound.specs.ArgCodecs.{create_args, read_dir_args, rename_args, secinfo_style, exchange_id_args, protected, create_session_args}
use Rattle.nfs_compound.specs.{ArgCodecs.sequence_args, OpenCodecs.{open_args, open_downgrade_args, close_args}, declared.op.Op.Op, declared.op.Item.Item}
use Rattle.nfs_compound.specs.declared.op.Item.TheVariants.{Fault}
use Rattle.nfs_compound.specs.declared.op_num.OpNum.TheVariants as Num

-- The same, read behind the number.
unfoldable pub op_at : OpNum → List ℕ → Option (Op × List ℕ)
op_at Num.Access bytes = arm Op.Access number bytes
op_at Num.Close bytes = arm Op.Close close_args bytes
op_at Num.Commit bytes = arm Op.Commit commit_args bytes
op_at Num.Create bytes = arm Op.Create create_args bytes
op_at Num.GetAttr bytes = arm Op.GetAttr bitmap bytes
op_at Num.GetFh bytes = bare Op.GetFh bytes
op_at Num.Link bytes = arm Op.Link unbounded bytes
op_at Num.Lock bytes = arm Op.Lock lock_args bytes
op_at Num.LockT bytes = arm Op.LockT lock_t_args bytes
op_at Num.LockU bytes = arm Op.LockU lock_u_args bytes
op_at Num.Lookup bytes = arm Op.Lookup unbounded bytes
op_at Num.LookupP bytes = bare Op.LookupP bytes
op_at Num.NVerify bytes = arm Op.NVerify attributes bytes
op_at Num.Open bytes = arm Op.Open open_args bytes
op_at Num.OpenDowngrade bytes = arm Op.OpenDowngrade open_downgrade_args bytes
op_at Num.PutFh bytes = arm Op.PutFh (opaque fhsize) bytes
op_at Num.PutPubFh bytes = bare Op.PutPubFh bytes
op_at Num.PutRootFh bytes = bare Op.PutRootFh bytes
op_at Num.Read bytes = arm Op.Read read_args bytes
op_at Num.ReadDir bytes = arm Op.ReadDir read_dir_args bytes
op_at Num.ReadLink bytes = bare Op.ReadLink bytes
op_at Num.Remove bytes = arm Op.Remove unbounded bytes
op_at Num.Rename bytes = arm Op.Rename rename_args bytes
op_at Num.RestoreFh bytes = bare Op.RestoreFh bytes
op_at Num.SaveFh bytes = bare Op.SaveFh bytes
op_at Num.SetAttr bytes = arm Op.SetAttr set_attr_args bytes
op_at Num.Verify bytes = arm Op.Verify attributes bytes
op_at Num.Write bytes = arm Op.Write write_args bytes
op_at Num.ExchangeId bytes = arm Op.ExchangeId exchange_id_args bytes
op_at Num.CreateSession bytes = arm Op.CreateSession create_session_args bytes
op_at Num.DestroySession bytes = arm Op.DestroySession (fixed 16) bytes
op_at Num.FreeStateid bytes = arm Op.FreeStateid stateid bytes
op_at Num.SecinfoNoName bytes = arm Op.SecinfoNoName secinfo_style bytes
op_at Num.Sequence bytes = arm Op.Sequence sequence_args bytes
op_at Num.TestStateid bytes = arm Op.TestStateid stateids bytes
op_at Num.DestroyClientId bytes = arm Op.DestroyClientId hyper bytes
op_at Num.ReclaimComplete bytes = arm Op.ReclaimComplete flag bytes

abbrev pub op_codec : Codec Op
op_codec = union_by op_number op_nums spell_op FitsOp op_at

-- What stands at the front of bytes, and what is behind it: an operation ..
abbrev pub operation_at : List ℕ → Option (Op × List ℕ)
operation_at bytes = op_codec.read bytes

-- .. and the front of an EXCHANGE_ID that wants a state protection that is not served.
abbrev pub protected_at : List ℕ → Option ((List ℕ × (List ℕ × (ℕ × ℕ))) × List ℕ)
protected_at bytes = protected.read bytes

-- Why arguments are refused: EXCHANGE_ID may want a state protection that is not served.
abbrev pub flaw : OpNum → List ℕ → Status
flaw Num.ExchangeId bytes = if is_some (protected.read bytes) then Inval else BadXdr
flaw op bytes = BadXdr

-- The fault of a number, with these bytes behind it, where no operation that is read stands. RFC 8881 has the operations
-- first_op to last_op in minor version 1; any other number is answered under that of OP_ILLEGAL.
abbrev pub fault_of : Option OpNum → ℕ → List ℕ → Item
fault_of (Some op) n bytes = Fault n (flaw op bytes)
fault_of None n bytes = if nat_le first_op n && nat_le n last_op then Fault n NotSupp else Fault op_illegal OpIllegal

unfoldable pub fault_at : ℕ → List ℕ → Item
fault_at n bytes = fault_of (op_num n) n bytes
