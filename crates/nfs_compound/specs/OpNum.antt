-- The numbers of the operations (nfs_opnum4 of RFC 5662), each once.
use Rattle.std.specs.Prelude.{ℕ, List, [], ◌∷◌, Option}
use Rattle.nfs_xdr.specs.Combinators.{listed_at}
use Rattle.nfs_compound.specs.declared.op_num.OpNum.{OpNum}
use Rattle.nfs_compound.specs.declared.op_num.OpNum.TheVariants as Num

abbrev pub op_number : OpNum → ℕ
op_number Num.Access = 3
op_number Num.Close = 4
op_number Num.Commit = 5
op_number Num.Create = 6
op_number Num.GetAttr = 9
op_number Num.GetFh = 10
op_number Num.Link = 11
op_number Num.Lock = 12
op_number Num.LockT = 13
op_number Num.LockU = 14
op_number Num.Lookup = 15
op_number Num.LookupP = 16
op_number Num.NVerify = 17
op_number Num.Open = 18
op_number Num.OpenDowngrade = 21
op_number Num.PutFh = 22
op_number Num.PutPubFh = 23
op_number Num.PutRootFh = 24
op_number Num.Read = 25
op_number Num.ReadDir = 26
op_number Num.ReadLink = 27
op_number Num.Remove = 28
op_number Num.Rename = 29
op_number Num.RestoreFh = 31
op_number Num.SaveFh = 32
op_number Num.SetAttr = 34
op_number Num.Verify = 37
op_number Num.Write = 38
op_number Num.ExchangeId = 42
op_number Num.CreateSession = 43
op_number Num.DestroySession = 44
op_number Num.FreeStateid = 45
op_number Num.SecinfoNoName = 52
op_number Num.Sequence = 53
op_number Num.TestStateid = 55
op_number Num.DestroyClientId = 57
op_number Num.ReclaimComplete = 58

-- the least and the greatest number of an operation of minor version 1, whether or not it is read, and that of OP_ILLEGAL
abbrev pub first_op : ℕ
first_op = 3

abbrev pub last_op : ℕ
last_op = 58

abbrev pub op_illegal : ℕ
op_illegal = 10044

-- every operation that is read
abbrev pub op_nums : List OpNum
op_nums =
    Num.Access ∷ Num.Close ∷ Num.Commit ∷ Num.Create ∷ Num.GetAttr ∷ Num.GetFh ∷ Num.Link ∷ Num.Lock ∷ Num.LockT ∷ Num.LockU ∷ Num.Lookup ∷
    Num.LookupP ∷ Num.NVerify ∷ Num.Open ∷ Num.OpenDowngrade ∷ Num.PutFh ∷ Num.PutPubFh ∷ Num.PutRootFh ∷ Num.Read ∷ Num.ReadDir ∷ Num.ReadLink ∷
    Num.Remove ∷ Num.Rename ∷ Num.RestoreFh ∷ Num.SaveFh ∷ Num.SetAttr ∷ Num.Verify ∷ Num.Write ∷ Num.ExchangeId ∷ Num.CreateSession ∷
    Num.DestroySession ∷ Num.FreeStateid ∷ Num.SecinfoNoName ∷ Num.Sequence ∷ Num.TestStateid ∷ Num.DestroyClientId ∷ Num.ReclaimComplete ∷ []

-- the operation that has the number
abbrev pub op_num : ℕ → Option OpNum
op_num n = listed_at op_number op_nums n
