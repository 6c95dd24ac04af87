-- Room for a result on a sheet of 2,200 bytes, and a head that stands in front of it.
use Rattle.std.proofs.Common.{◌≡◌, ℕ, ◌+◌, ◌≤◌, List, [], ◌++◌, length, Option, Some, None, append_assoc, ap, sym, ◌∙◌, arith}
use Rattle.std.proofs.lemmas.List.{append-nil, length-append}
use Rattle.nfs_xdr.specs.{SheetState.{SheetState, HasRoom, Puts}, declared.status.Status.Status, declared.status.Status.TheVariants.Nfs4Ok}
use Rattle.nfs_compound.specs.{declared.op_num.OpNum.OpNum, OpNum.op_num}
use Rattle.nfs_compound.specs.declared.op_num.OpNum.TheVariants as Num
use Rattle.nfs_results.specs.{OpenHead.{HeadsAt, HasHead}, declared.res.Res.Res, Results.{operation_of, spell_result, spell_compound_head}}
use Rattle.nfs_results.specs.{ResultCodec.HasArrays, Largest.{largest_op, largest_if, largest_of}, MayAnswer.HasSizes}
use Rattle.nfs_results.proofs.Lengths.{behind_within, length_spelled, length_head_within}

at_most_op : (operation : OpNum) → largest_op operation 64 ≤ 1064
at_most_op Num.Access = omega arith
at_most_op Num.Close = omega arith
at_most_op Num.Commit = omega arith
at_most_op Num.Create = omega arith
at_most_op Num.GetAttr = omega arith
at_most_op Num.GetFh = omega arith
at_most_op Num.Link = omega arith
at_most_op Num.Lock = omega arith
at_most_op Num.LockT = omega arith
at_most_op Num.LockU = omega arith
at_most_op Num.Lookup = omega arith
at_most_op Num.LookupP = omega arith
at_most_op Num.NVerify = omega arith
at_most_op Num.Open = omega arith
at_most_op Num.OpenDowngrade = omega arith
at_most_op Num.PutFh = omega arith
at_most_op Num.PutPubFh = omega arith
at_most_op Num.PutRootFh = omega arith
at_most_op Num.Read = omega arith
at_most_op Num.ReadDir = omega arith
at_most_op Num.ReadLink = omega arith
at_most_op Num.Remove = omega arith
at_most_op Num.Rename = omega arith
at_most_op Num.RestoreFh = omega arith
at_most_op Num.SaveFh = omega arith
at_most_op Num.SetAttr = omega arith
at_most_op Num.Verify = omega arith
at_most_op Num.Write = omega arith
at_most_op Num.ExchangeId = omega arith
at_most_op Num.CreateSession = omega arith
at_most_op Num.DestroySession = omega arith
at_most_op Num.FreeStateid = omega arith
at_most_op Num.SecinfoNoName = omega arith
at_most_op Num.Sequence = omega arith
at_most_op Num.TestStateid = omega arith
at_most_op Num.DestroyClientId = omega arith
at_most_op Num.ReclaimComplete = omega arith

at_most_if : (operation : Option OpNum) → largest_if operation 64 ≤ 1064
at_most_if (Some operation) = at_most_op operation
at_most_if None = omega arith

at_most : (operation : ℕ) → largest_of operation 64 ≤ 1064
at_most operation = at_most_if (op_num operation)

room_for : (sheet : SheetState) (r : Res) → length sheet.bytes + 1064 ≤ sheet.room → HasSizes 64 r → HasArrays r → HasRoom sheet (spell_result r)
room_for sheet r room sizes arrays = omega (arith, room, behind_within 64 r arrays sizes, length_spelled r, at_most (operation_of r))

-- the head of a compound on an empty sheet, and a result behind it
pub room_at_start : (sheet : SheetState) (status : Status) → sheet ≡ record { bytes = []; room = 2200 } → HasRoom sheet (spell_compound_head status [] 1)
room_at_start sheet status empty =
    omega (arith, ap (λ (p : SheetState). p.room) empty, ap (λ (p : SheetState). length p.bytes) empty, length_head_within status [] 1 (omega arith))

pub room_behind : (old new : SheetState) (status : Status) (r : Res) → old ≡ record { bytes = []; room = 2200 } → Puts old new (spell_compound_head status [] 1)
    → HasSizes 64 r → HasArrays r → HasRoom new (spell_result r)
room_behind old new status r empty puts sizes arrays =
    room_for new r
    (omega (
      arith,
      puts.room,
      ap (λ (p : SheetState). p.room) empty,
      ap length puts.bytes,
      length-append old.bytes (spell_compound_head status [] 1),
      ap (λ (p : SheetState). length p.bytes) empty,
      length_head_within status [] 1 (omega arith),
    ))
    sizes arrays

pub stands_first : (old new : SheetState) (status_at count_at : ℕ) (tag : List ℕ)
    → HeadsAt status_at count_at old.bytes tag → Puts old new (spell_compound_head Nfs4Ok tag 0)
    → HasHead status_at count_at new.bytes
stands_first old new status_at count_at tag places puts =
    record {
      before = old.bytes;
      status = Nfs4Ok;
      tag = tag;
      count = 0;
      behind = [];
      places = places;
      spelled = puts.bytes ∙ sym (append-nil (old.bytes ++ spell_compound_head Nfs4Ok tag 0));
    }

-- a head stays where it stands when more is put behind it
pub stands_still : (old new : SheetState) (text : List ℕ) (status_at count_at : ℕ)
    → Puts old new text → HasHead status_at count_at old.bytes → HasHead status_at count_at new.bytes
stands_still old new text status_at count_at puts h =
    record {
      before = h.before;
      status = h.status;
      tag = h.tag;
      count = h.count;
      behind = h.behind ++ text;
      places = h.places;
      spelled = puts.bytes ∙ ap (λ (w : List ℕ). w ++ text) h.spelled ∙ append_assoc (h.before ++ spell_compound_head h.status h.tag h.count) h.behind text;
    }
