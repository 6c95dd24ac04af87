-- How a result is read, and how long its arrays are (RFC 5662).
use Rattle.std.specs.Prelude.{◌≡◌, ℕ, ◌==◌, ◌&&◌, List, length, Option, Some, None, if◌then◌else◌}
use Rattle.nfs_xdr.specs.{Reading.{◌>>=◌, number_at}, Limits.fhsize, declared.status.Status.Status, declared.status.Status.TheVariants.{Nfs4Ok, Denied}}
use Rattle.nfs_xdr.specs.{Status.status_number, StatusCodec.{status as any_status}, Codec.{Codec, opaque, unbounded, arm, bare}, Combinators.fixed}
use Rattle.nfs_compound.specs.{declared.op_num.OpNum.OpNum, OpNum.{op_number, op_num}, Stateid.stateid}
use Rattle.nfs_compound.specs.declared.op_num.OpNum.TheVariants as Num
use Rattle.nfs_results.specs.{Parts.{is_legal, parts}, Refusals.can_refuse, Results.spell_result, Listing.read_dir, declared.res.Res.Res}
use Rattle.nfs_results.specs.Items as item

abbrev pub FitsResult : Res → Type 0
FitsResult r = (parts r).Fits

abbrev pub IsBounded : Res → Type 0
IsBounded r = (parts r).Bound

-- its arrays are as long as their types say
abbrev pub HasArrays : Res → Type 0
HasArrays (Res.Close s) = length s.other ≡ 12
HasArrays (Res.Commit verifier) = length verifier ≡ 8
HasArrays (Res.Lock s) = length s.other ≡ 12
HasArrays (Res.LockU s) = length s.other ≡ 12
HasArrays (Res.Open o) = length o.stateid.other ≡ 12
HasArrays (Res.OpenDowngrade s) = length s.other ≡ 12
HasArrays (Res.ReadDir r) = length r.cookieverf ≡ 8
HasArrays (Res.Write w) = length w.writeverf ≡ 8
HasArrays (Res.CreateSession s) = length s.sessionid ≡ 16
HasArrays (Res.Sequence s) = length s.sessionid ≡ 16
HasArrays (Res.Access a) = Unit {0}
HasArrays (Res.Create c) = Unit {0}
HasArrays (Res.GetAttr f) = Unit {0}
HasArrays (Res.GetFh object) = Unit {0}
HasArrays (Res.Link c) = Unit {0}
HasArrays (Res.LockDenied d) = Unit {0}
HasArrays Res.LockT = Unit {0}
HasArrays (Res.LockTDenied d) = Unit {0}
HasArrays Res.Lookup = Unit {0}
HasArrays Res.LookupP = Unit {0}
HasArrays Res.NVerify = Unit {0}
HasArrays Res.PutFh = Unit {0}
HasArrays Res.PutPubFh = Unit {0}
HasArrays Res.PutRootFh = Unit {0}
HasArrays (Res.Read r) = Unit {0}
HasArrays (Res.ReadLink link) = Unit {0}
HasArrays (Res.Remove c) = Unit {0}
HasArrays (Res.Rename r) = Unit {0}
HasArrays Res.RestoreFh = Unit {0}
HasArrays Res.SaveFh = Unit {0}
HasArrays (Res.SetAttr status attrsset) = Unit {0}
HasArrays Res.Verify = Unit {0}
HasArrays (Res.ExchangeId r) = Unit {0}
HasArrays Res.DestroySession = Unit {0}
HasArrays Res.FreeStateid = Unit {0}
HasArrays (Res.SecinfoNoName flavors) = Unit {0}
HasArrays (Res.TestStateid codes) = Unit {0}
HasArrays Res.DestroyClientId = Unit {0}
HasArrays Res.ReclaimComplete = Unit {0}
HasArrays (Res.Refused operation status) = Unit {0}

-- How it is read: what an operation that was done has behind NFS4_OK ..
unfoldable pub done_at : OpNum → List ℕ → Option (Res × List ℕ)
done_at Num.Access bytes = arm Res.Access item.access bytes
done_at Num.Close bytes = arm Res.Close stateid bytes
done_at Num.Commit bytes = arm Res.Commit (fixed 8) bytes
done_at Num.Create bytes = arm Res.Create item.create bytes
done_at Num.GetAttr bytes = arm Res.GetAttr item.fattr bytes
done_at Num.GetFh bytes = arm Res.GetFh (opaque fhsize) bytes
done_at Num.Link bytes = arm Res.Link item.change_info bytes
done_at Num.Lock bytes = arm Res.Lock stateid bytes
done_at Num.LockT bytes = bare Res.LockT bytes
done_at Num.LockU bytes = arm Res.LockU stateid bytes
done_at Num.Lookup bytes = bare Res.Lookup bytes
done_at Num.LookupP bytes = bare Res.LookupP bytes
done_at Num.NVerify bytes = bare Res.NVerify bytes
done_at Num.Open bytes = arm Res.Open item.open_ok bytes
done_at Num.OpenDowngrade bytes = arm Res.OpenDowngrade stateid bytes
done_at Num.PutFh bytes = bare Res.PutFh bytes
done_at Num.PutPubFh bytes = bare Res.PutPubFh bytes
done_at Num.PutRootFh bytes = bare Res.PutRootFh bytes
done_at Num.Read bytes = arm Res.Read item.read_ok bytes
done_at Num.ReadDir bytes = arm Res.ReadDir read_dir bytes
done_at Num.ReadLink bytes = arm Res.ReadLink unbounded bytes
done_at Num.Remove bytes = arm Res.Remove item.change_info bytes
done_at Num.Rename bytes = arm Res.Rename item.rename bytes
done_at Num.RestoreFh bytes = bare Res.RestoreFh bytes
done_at Num.SaveFh bytes = bare Res.SaveFh bytes
done_at Num.SetAttr bytes = arm (Res.SetAttr Nfs4Ok) item.attr_set bytes
done_at Num.Verify bytes = bare Res.Verify bytes
done_at Num.Write bytes = arm Res.Write item.write_ok bytes
done_at Num.ExchangeId bytes = arm Res.ExchangeId item.exchange_id bytes
done_at Num.CreateSession bytes = arm Res.CreateSession item.create_session bytes
done_at Num.DestroySession bytes = bare Res.DestroySession bytes
done_at Num.FreeStateid bytes = bare Res.FreeStateid bytes
done_at Num.SecinfoNoName bytes = arm Res.SecinfoNoName item.flavors bytes
done_at Num.Sequence bytes = arm Res.Sequence item.sequence bytes
done_at Num.TestStateid bytes = arm Res.TestStateid item.status_codes bytes
done_at Num.DestroyClientId bytes = bare Res.DestroyClientId bytes
done_at Num.ReclaimComplete bytes = bare Res.ReclaimComplete bytes

abbrev pub done_by : Option OpNum → List ℕ → Option (Res × List ℕ)
done_by None bytes = None
done_by (Some op) bytes = done_at op bytes

-- .. and what one that was refused has behind its status.
unfoldable pub refused_at : ℕ → Status → List ℕ → Option (Res × List ℕ)
refused_at operation s bytes =
    if operation == op_number Num.SetAttr && is_legal s then arm (Res.SetAttr s) item.attr_set bytes
    else if operation == op_number Num.Lock && status_number s == status_number Denied then arm Res.LockDenied item.denied bytes
    else if operation == op_number Num.LockT && status_number s == status_number Denied then arm Res.LockTDenied item.denied bytes
    else if can_refuse operation s then Some (Res.Refused operation s, bytes)
    else None

abbrev pub read_behind : ℕ → Status → List ℕ → Option (Res × List ℕ)
read_behind operation s bytes = if status_number s == status_number Nfs4Ok then done_by (op_num operation) bytes else refused_at operation s bytes

abbrev pub result : Codec Res
result = record {
  spell = spell_result;
  Fits = FitsResult;
  read = λ bytes. number_at bytes >>= λ operation. any_status.read operation.1 >>= λ s. read_behind operation.0 s.0 s.1;
}
