-- What a result is put together from, by operation and then by status (RFC 5662), in the order of the operations' numbers.
use Rattle.std.specs.Prelude.{ℕ, ◌≤◌, ◌<◌, ◌^◌, ◌==◌, List, [], length, Bool, not, IsTrue}
use Rattle.nfs_xdr.specs.{Limits.{fhsize, opaque_limit}, declared.status.Status.Status, declared.status.Status.TheVariants.{Nfs4Ok, Denied, OpIllegal}}
use Rattle.nfs_xdr.specs.{Status.status_number, Codec.{Codec, opaque, unbounded}, Combinators.fixed}
use Rattle.nfs_compound.specs.{declared.op_num.OpNum.OpNum, OpNum.op_number, Stateid.stateid}
use Rattle.nfs_compound.specs.declared.op_num.OpNum.TheVariants as Num
use Rattle.nfs_results.specs.{Refusals.can_refuse, Listing.read_dir, declared.res.Res.Res}
use Rattle.nfs_results.specs.Items as item

-- What makes a result: its operation number, its status, what is behind them, whether that fits, and what has to hold
-- for that beside the sizes of numbers and of arrays, which their types give.
pub record Parts : Type 1 where
  pub operation : ℕ
  pub status : Status
  pub behind : List ℕ
  pub Fits : Type 0
  pub Bound : Type 0

-- bytes that can be spelled with their length in front
abbrev pub IsText : List ℕ → Type 0
IsText bytes = length bytes < 2 ^ 32

abbrev pub with_status : {A : Type 0} → OpNum → Status → Codec A → A → Parts
with_status op s c x = record { operation = op_number op; status = s; behind = c.spell x; Fits = c.Fits x; Bound = Unit {0} }

abbrev pub done : {A : Type 0} → OpNum → Codec A → A → Parts
done op c x = with_status op Nfs4Ok c x

-- no operation but OP_ILLEGAL answers its status
abbrev pub is_legal : Status → Bool
is_legal s = not (status_number s == status_number OpIllegal)

-- SETATTR says what was set with NFS4_OK and with whatever it is refused with
abbrev pub reported : Status → List ℕ → Parts
reported s attrsset = record {
  operation = op_number Num.SetAttr;
  status = s;
  behind = item.attr_set.spell attrsset;
  Fits = item.attr_set.Fits attrsset × IsTrue (is_legal s);
  Bound = IsTrue (is_legal s);
}

abbrev pub alone : OpNum → Parts
alone op = record { operation = op_number op; status = Nfs4Ok; behind = []; Fits = Unit {0}; Bound = Unit {0} }

abbrev pub bounded : Type 0 → Parts → Parts
bounded bound p = record { operation = p.operation; status = p.status; behind = p.behind; Fits = p.Fits; Bound = bound }

abbrev pub refused : ℕ → Status → Parts
refused operation s = record { operation = operation; status = s; behind = []; Fits = IsTrue (can_refuse operation s); Bound = IsTrue (can_refuse operation s) }

abbrev pub parts : Res → Parts
parts (Res.Access a) = done Num.Access item.access a
parts (Res.Close s) = done Num.Close stateid s
parts (Res.Commit verifier) = done Num.Commit (fixed 8) verifier
parts (Res.Create c) = done Num.Create item.create c
parts (Res.GetAttr f) = bounded (IsText f.attr_vals) (done Num.GetAttr item.fattr f)
parts (Res.GetFh object) = bounded (length object ≤ fhsize) (done Num.GetFh (opaque fhsize) object)
parts (Res.Link c) = done Num.Link item.change_info c
parts (Res.Lock s) = done Num.Lock stateid s
parts (Res.LockDenied d) = bounded (length d.owner.owner ≤ opaque_limit) (with_status Num.Lock Denied item.denied d)
parts Res.LockT = alone Num.LockT
parts (Res.LockTDenied d) = bounded (length d.owner.owner ≤ opaque_limit) (with_status Num.LockT Denied item.denied d)
parts (Res.LockU s) = done Num.LockU stateid s
parts Res.Lookup = alone Num.Lookup
parts Res.LookupP = alone Num.LookupP
parts Res.NVerify = alone Num.NVerify
parts (Res.Open o) = done Num.Open item.open_ok o
parts (Res.OpenDowngrade s) = done Num.OpenDowngrade stateid s
parts Res.PutFh = alone Num.PutFh
parts Res.PutPubFh = alone Num.PutPubFh
parts Res.PutRootFh = alone Num.PutRootFh
parts (Res.Read r) = bounded (IsText r.bytes) (done Num.Read item.read_ok r)
parts (Res.ReadDir r) = done Num.ReadDir read_dir r
parts (Res.ReadLink link) = bounded (IsText link) (done Num.ReadLink unbounded link)
parts (Res.Remove c) = done Num.Remove item.change_info c
parts (Res.Rename r) = done Num.Rename item.rename r
parts Res.RestoreFh = alone Num.RestoreFh
parts Res.SaveFh = alone Num.SaveFh
parts (Res.SetAttr s attrsset) = reported s attrsset
parts Res.Verify = alone Num.Verify
parts (Res.Write w) = done Num.Write item.write_ok w
parts (Res.ExchangeId r) = bounded ((length r.major_id ≤ opaque_limit) × (length r.server_scope ≤ opaque_limit)) (done Num.ExchangeId item.exchange_id r)
parts (Res.CreateSession s) = done Num.CreateSession item.create_session s
parts Res.DestroySession = alone Num.DestroySession
parts Res.FreeStateid = alone Num.FreeStateid
parts (Res.SecinfoNoName flavors) = bounded (length flavors < 2 ^ 32) (done Num.SecinfoNoName item.flavors flavors)
parts (Res.Sequence s) = done Num.Sequence item.sequence s
parts (Res.TestStateid codes) = bounded (IsTrue (item.are_statuses codes) × (length codes < 2 ^ 32)) (done Num.TestStateid item.status_codes codes)
parts Res.DestroyClientId = alone Num.DestroyClientId
parts Res.ReclaimComplete = alone Num.ReclaimComplete
parts (Res.Refused operation s) = refused operation s
