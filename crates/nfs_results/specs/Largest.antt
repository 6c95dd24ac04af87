-- How many bytes the result of an operation behind a SEQUENCE takes at most, from its operation number on (RFC 8881 section 2.10.6.4; this server's profile).
use Rattle.std.specs.Prelude.{ℕ, ◌+◌, ◌*◌, length, nat_lt, Option, Some, None, if◌then◌else◌}
use Rattle.nfs_xdr.specs.{Spelling.padding, Limits.most_transfer}
use Rattle.nfs_compound.specs.declared.op_num.OpNum.TheVariants as Num
use Rattle.nfs_compound.specs.{declared.op_num.OpNum.OpNum, OpNum.{op_number, op_num}, Arguments.arguments}
use Rattle.nfs_compound.specs.{declared.op.Op.Op, declared.op.Item.Item, declared.op.Item.TheVariants.{Operation, Fault}}

-- no more than this many bytes are given at once
abbrev pub given : ℕ → ℕ
given count = if nat_lt most_transfer count then most_transfer else count

-- by the operation, and by how much was asked for; a line for each operation, so that none is forgotten
abbrev pub largest_op : (operation : OpNum) (asked : ℕ) → ℕ
largest_op Num.Access asked = 64
largest_op Num.Close asked = 64
largest_op Num.Commit asked = 64
largest_op Num.Create asked = 64
largest_op Num.GetAttr asked = 640
largest_op Num.GetFh asked = 28
largest_op Num.Link asked = 64
largest_op Num.Lock asked = 1064
largest_op Num.LockT asked = 1064
largest_op Num.LockU asked = 64
largest_op Num.Lookup asked = 64
largest_op Num.LookupP asked = 64
largest_op Num.NVerify asked = 64
largest_op Num.Open asked = 128
largest_op Num.OpenDowngrade asked = 64
largest_op Num.PutFh asked = 64
largest_op Num.PutPubFh asked = 64
largest_op Num.PutRootFh asked = 64
largest_op Num.Read asked = 16 + (given asked + padding (given asked))
largest_op Num.ReadDir asked = 8 + given asked
largest_op Num.ReadLink asked = 1036
largest_op Num.Remove asked = 64
largest_op Num.Rename asked = 64
largest_op Num.RestoreFh asked = 64
largest_op Num.SaveFh asked = 64
largest_op Num.SetAttr asked = 64
largest_op Num.Verify asked = 64
largest_op Num.Write asked = 64
largest_op Num.ExchangeId asked = 64
largest_op Num.CreateSession asked = 92
largest_op Num.DestroySession asked = 64
largest_op Num.FreeStateid asked = 64
largest_op Num.SecinfoNoName asked = 64
largest_op Num.Sequence asked = 44
largest_op Num.TestStateid asked = 12 + 4 * asked
largest_op Num.DestroyClientId asked = 64
largest_op Num.ReclaimComplete asked = 64

-- a number that no operation has is refused
abbrev pub largest_if : (operation : Option OpNum) (asked : ℕ) → ℕ
largest_if (Some operation) asked = largest_op operation asked
largest_if None asked = 64

abbrev pub largest_of : (operation asked : ℕ) → ℕ
largest_of operation asked = largest_if (op_num operation) asked

-- the number of an operation, and how much it asks for: the bytes of a READ and of a READDIR, the stateids of a TEST_STATEID
abbrev pub number_of : Op → ℕ
number_of op = op_number (arguments op).op

abbrev pub asked : Op → ℕ
asked (Op.Read r) = r.count
asked (Op.ReadDir r) = r.maxcount
asked (Op.TestStateid held) = length held
asked op = 0

abbrev pub largest : Item → ℕ
largest (Operation op) = largest_of (number_of op) (asked op)
largest (Fault number status) = 64
