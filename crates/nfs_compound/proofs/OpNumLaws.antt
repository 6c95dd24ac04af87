-- Each number is read as its own operation.
use Rattle.std.proofs.Common.{◌≡◌, ◌≤◌, Some, refl, arith}
use Rattle.nfs_xdr.specs.Lawful.{IsListing}
use Rattle.nfs_compound.specs.{declared.op_num.OpNum.OpNum, OpNum.{op_number, op_nums, op_num}}
use Rattle.nfs_compound.specs.declared.op_num.OpNum.TheVariants as Num

-- what holds of each number
record IsNumber (op : OpNum) : Type 0 where
  found : op_num (op_number op) ≡ Some op
  least : 3 ≤ op_number op
  greatest : op_number op ≤ 58

numbered : (op : OpNum) → IsNumber op
numbered Num.Access = record { found = refl; least = omega arith; greatest = omega arith }
numbered Num.Close = record { found = refl; least = omega arith; greatest = omega arith }
numbered Num.Commit = record { found = refl; least = omega arith; greatest = omega arith }
numbered Num.Create = record { found = refl; least = omega arith; greatest = omega arith }
numbered Num.GetAttr = record { found = refl; least = omega arith; greatest = omega arith }
numbered Num.GetFh = record { found = refl; least = omega arith; greatest = omega arith }
numbered Num.Link = record { found = refl; least = omega arith; greatest = omega arith }
numbered Num.Lock = record { found = refl; least = omega arith; greatest = omega arith }
numbered Num.LockT = record { found = refl; least = omega arith; greatest = omega arith }
numbered Num.LockU = record { found = refl; least = omega arith; greatest = omega arith }
numbered Num.Lookup = record { found = refl; least = omega arith; greatest = omega arith }
numbered Num.LookupP = record { found = refl; least = omega arith; greatest = omega arith }
numbered Num.NVerify = record { found = refl; least = omega arith; greatest = omega arith }
numbered Num.Open = record { found = refl; least = omega arith; greatest = omega arith }
numbered Num.OpenDowngrade = record { found = refl; least = omega arith; greatest = omega arith }
numbered Num.PutFh = record { found = refl; least = omega arith; greatest = omega arith }
numbered Num.PutPubFh = record { found = refl; least = omega arith; greatest = omega arith }
numbered Num.PutRootFh = record { found = refl; least = omega arith; greatest = omega arith }
numbered Num.Read = record { found = refl; least = omega arith; greatest = omega arith }
numbered Num.ReadDir = record { found = refl; least = omega arith; greatest = omega arith }
numbered Num.ReadLink = record { found = refl; least = omega arith; greatest = omega arith }
numbered Num.Remove = record { found = refl; least = omega arith; greatest = omega arith }
numbered Num.Rename = record { found = refl; least = omega arith; greatest = omega arith }
numbered Num.RestoreFh = record { found = refl; least = omega arith; greatest = omega arith }
numbered Num.SaveFh = record { found = refl; least = omega arith; greatest = omega arith }
numbered Num.SetAttr = record { found = refl; least = omega arith; greatest = omega arith }
numbered Num.Verify = record { found = refl; least = omega arith; greatest = omega arith }
numbered Num.Write = record { found = refl; least = omega arith; greatest = omega arith }
numbered Num.ExchangeId = record { found = refl; least = omega arith; greatest = omega arith }
numbered Num.CreateSession = record { found = refl; least = omega arith; greatest = omega arith }
numbered Num.DestroySession = record { found = refl; least = omega arith; greatest = omega arith }
numbered Num.FreeStateid = record { found = refl; least = omega arith; greatest = omega arith }
numbered Num.SecinfoNoName = record { found = refl; least = omega arith; greatest = omega arith }
numbered Num.Sequence = record { found = refl; least = omega arith; greatest = omega arith }
numbered Num.TestStateid = record { found = refl; least = omega arith; greatest = omega arith }
numbered Num.DestroyClientId = record { found = refl; least = omega arith; greatest = omega arith }
numbered Num.ReclaimComplete = record { found = refl; least = omega arith; greatest = omega arith }

pub is_op_listing : IsListing op_number op_nums
is_op_listing = record { found = λ op. (numbered op).found; small = λ op. let most = (numbered op).greatest in omega arith }

-- each is one of minor version 1
pub op_between : (op : OpNum) → (3 ≤ op_number op) × (op_number op ≤ 58)
op_between op = ((numbered op).least, (numbered op).greatest)
