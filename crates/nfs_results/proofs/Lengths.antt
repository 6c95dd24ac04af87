-- How long results are.
use Rattle.std.proofs.Common.{◌≡◌, ℕ, zero, suc, ◌+◌, ◌*◌, ◌-◌, ◌%◌, ◌≤◌, ◌<◌, Bool, true, false, ltb, List, [], ◌∷◌, ◌++◌, length, Option, Some}
use Rattle.std.proofs.{Common.{None, subst, sym, ap, refl, arith}, lemmas.List.{length-append, length-replicate}}
use Rattle.std.specs.List.{flat_map}
use Rattle.nfs_xdr.specs.Spelling as spelling
use Rattle.nfs_xdr.specs.{Spelling.padding, declared.status.Status.Status, Codec.number, Combinators.optional}
use Rattle.nfs_xdr.proofs.Putting.{length_number, length_hyper}
use Rattle.nfs_compound.specs.{declared.stateid.Stateid.Stateid, declared.channel_attrs.ChannelAttrs.ChannelAttrs, Stateid.stateid, StateOwner.state_owner}
use Rattle.nfs_compound.specs.{ChannelAttrs.channel_attrs, ArgCodecs.{lock_type, stable_how}, declared.op.Item.Item}
use Rattle.nfs_compound.specs.declared.op.Item.TheVariants.{Operation, Fault}
use Rattle.nfs_compound.specs.{declared.op_num.OpNum.OpNum, OpNum.op_num}
use Rattle.nfs_compound.specs.declared.op_num.OpNum.TheVariants as Num
use Rattle.nfs_results.specs.declared.res.ChangeInfo.{ChangeInfo}
use Rattle.nfs_results.specs.Items.{access, attr_set, fattr, change_info, create, denied, open_ok, read_ok, rename, write_ok, exchange_id, create_session}
use Rattle.nfs_results.specs.{Items.{flavors, sequence, status_codes}, declared.res.Denied.Denied, declared.res.Res.Res}
use Rattle.nfs_results.specs.{Results.{head, operation_of, spell_result, spell_compound_head}, Parts.parts, ResultCodec.HasArrays}
use Rattle.nfs_results.specs.{Largest.{largest_op, largest_if, largest_of, asked, largest}, MayAnswer.{HasSizes, IsPlain, MayAnswer}}

-- the lengths of texts whose parts are known
pub ruleset lengths = (length_number, length_hyper, length-append, length-replicate)

pub length_numbers : (words : List ℕ) → length (flat_map spelling.number words) ≡ 4 * length words
length_numbers [] = refl
length_numbers (word ∷ words) = omega (arith, length-append (spelling.number word) (flat_map spelling.number words), length_number word, length_numbers words)

length_flag : (b : Bool) → length (spelling.flag b) ≡ 4
length_flag true = length_number 1
length_flag false = length_number 0

pub length_head : (operation : ℕ) (s : Status) → length (head operation s) ≡ 8
length_head operation s = simp lengths refl

length_attr_set : (words : List ℕ) → length (attr_set.spell words) ≡ 4 + 4 * length words
unfolding attr_set
length_attr_set words =
    omega (arith, length-append (spelling.number (length words)) (flat_map spelling.number words), length_number (length words), length_numbers words)

length_change_info : (c : ChangeInfo) → length (change_info.spell c) ≡ 20
unfolding change_info
length_change_info c = simp (lengths, length_flag) refl

length_stateid : (s : Stateid) → length s.other ≡ 12 → length (stateid.spell s) ≡ 16
unfolding stateid
length_stateid s twelve = simp (lengths, twelve) refl

length_denied : (d : Denied) → length d.owner.owner ≤ 1024 → length (denied.spell d) ≤ 1056
unfolding denied state_owner lock_type
length_denied d short = simp lengths (omega (arith, short))

length_channel : (a : ChannelAttrs) → length (channel_attrs.spell a) ≡ 24 + length ((optional number).spell a.rdma_ird)
unfolding channel_attrs
length_channel a = simp lengths (omega arith)

-- a refusal is no longer than the least of the largest results
at_least_op : (operation : OpNum) (asked : ℕ) → 8 ≤ largest_op operation asked
at_least_op Num.Access asked = omega arith
at_least_op Num.Close asked = omega arith
at_least_op Num.Commit asked = omega arith
at_least_op Num.Create asked = omega arith
at_least_op Num.GetAttr asked = omega arith
at_least_op Num.GetFh asked = omega arith
at_least_op Num.Link asked = omega arith
at_least_op Num.Lock asked = omega arith
at_least_op Num.LockT asked = omega arith
at_least_op Num.LockU asked = omega arith
at_least_op Num.Lookup asked = omega arith
at_least_op Num.LookupP asked = omega arith
at_least_op Num.NVerify asked = omega arith
at_least_op Num.Open asked = omega arith
at_least_op Num.OpenDowngrade asked = omega arith
at_least_op Num.PutFh asked = omega arith
at_least_op Num.PutPubFh asked = omega arith
at_least_op Num.PutRootFh asked = omega arith
at_least_op Num.Read asked = omega arith
at_least_op Num.ReadDir asked = omega arith
at_least_op Num.ReadLink asked = omega arith
at_least_op Num.Remove asked = omega arith
at_least_op Num.Rename asked = omega arith
at_least_op Num.RestoreFh asked = omega arith
at_least_op Num.SaveFh asked = omega arith
at_least_op Num.SetAttr asked = omega arith
at_least_op Num.Verify asked = omega arith
at_least_op Num.Write asked = omega arith
at_least_op Num.ExchangeId asked = omega arith
at_least_op Num.CreateSession asked = omega arith
at_least_op Num.DestroySession asked = omega arith
at_least_op Num.FreeStateid asked = omega arith
at_least_op Num.SecinfoNoName asked = omega arith
at_least_op Num.Sequence asked = omega arith
at_least_op Num.TestStateid asked = omega arith
at_least_op Num.DestroyClientId asked = omega arith
at_least_op Num.ReclaimComplete asked = omega arith

at_least_if : (operation : Option OpNum) (asked : ℕ) → 8 ≤ largest_if operation asked
at_least_if (Some operation) asked = at_least_op operation asked
at_least_if None asked = omega arith

pub at_least : (operation asked : ℕ) → 8 ≤ largest_of operation asked
at_least operation asked = at_least_if (op_num operation) asked

-- one line a result
pub behind_within : (asked : ℕ) (r : Res) → HasArrays r → HasSizes asked r → 8 + length (parts r).behind ≤ largest_of (operation_of r) asked
unfolding access create fattr open_ok read_ok rename write_ok stable_how exchange_id create_session flavors sequence status_codes
behind_within wanted (Res.Access x) arrays sizes = simp lengths (omega arith)
behind_within wanted (Res.Close s) arrays sizes = omega (arith, length_stateid s arrays)
behind_within wanted (Res.Commit verifier) arrays sizes = simp (lengths, arrays) (omega arith)
behind_within wanted (Res.Create c) arrays sizes =
    omega (arith, sizes, length-append (change_info.spell c.cinfo) (attr_set.spell c.attrset), length_change_info c.cinfo, length_attr_set c.attrset)
behind_within wanted (Res.GetAttr f) arrays sizes = simp (lengths, length_attr_set f.attrmask) (omega (arith, sizes.0, sizes.1))
behind_within wanted (Res.GetFh object) arrays sizes = simp lengths (omega (arith, sizes))
behind_within wanted (Res.Link c) arrays sizes = omega (arith, length_change_info c)
behind_within wanted (Res.Lock s) arrays sizes = omega (arith, length_stateid s arrays)
behind_within wanted (Res.LockDenied d) arrays sizes = omega (arith, length_denied d sizes)
behind_within wanted Res.LockT arrays sizes = omega arith
behind_within wanted (Res.LockTDenied d) arrays sizes = omega (arith, length_denied d sizes)
behind_within wanted (Res.LockU s) arrays sizes = omega (arith, length_stateid s arrays)
behind_within wanted Res.Lookup arrays sizes = omega arith
behind_within wanted Res.LookupP arrays sizes = omega arith
behind_within wanted Res.NVerify arrays sizes = omega arith
behind_within wanted (Res.Open o) arrays sizes =
    simp (lengths, length_stateid o.stateid arrays, length_change_info o.cinfo, length_attr_set o.attrset) (omega (arith, sizes))
behind_within wanted (Res.OpenDowngrade s) arrays sizes = omega (arith, length_stateid s arrays)
behind_within wanted Res.PutFh arrays sizes = omega arith
behind_within wanted Res.PutPubFh arrays sizes = omega arith
behind_within wanted Res.PutRootFh arrays sizes = omega arith
behind_within wanted (Res.Read r) arrays sizes = simp (lengths, length_flag) (omega (arith, sizes))
behind_within wanted (Res.ReadDir r) arrays sizes = omega (arith, sizes)
behind_within wanted (Res.ReadLink link) arrays sizes = simp lengths (omega (arith, sizes))
behind_within wanted (Res.Remove c) arrays sizes = omega (arith, length_change_info c)
behind_within wanted (Res.Rename r) arrays sizes = simp (lengths, length_change_info r.source_cinfo, length_change_info r.target_cinfo) (omega arith)
behind_within wanted Res.RestoreFh arrays sizes = omega arith
behind_within wanted Res.SaveFh arrays sizes = omega arith
behind_within wanted (Res.SetAttr s attrsset) arrays sizes = omega (arith, sizes, length_attr_set attrsset)
behind_within wanted Res.Verify arrays sizes = omega arith
behind_within wanted (Res.Write w) arrays sizes = simp (lengths, arrays) (omega arith)
behind_within wanted (Res.ExchangeId r) arrays sizes = simp lengths (omega (arith, sizes.0, sizes.1))
behind_within wanted (Res.CreateSession s) arrays sizes =
    simp (lengths, arrays, length_channel s.fore_chan_attrs, length_channel s.back_chan_attrs, sizes) (omega (arith, length_ird s.back_chan_attrs.rdma_ird))
  where
    length_ird : (limit : Option ℕ) → length ((optional number).spell limit) ≤ 8
    length_ird None = omega (arith, length_number 0)
    length_ird (Some n) = omega (arith, length-append (spelling.number 1) (spelling.number n), length_number 1, length_number n)
behind_within wanted Res.DestroySession arrays sizes = omega arith
behind_within wanted Res.FreeStateid arrays sizes = omega arith
behind_within wanted (Res.SecinfoNoName words) arrays sizes =
    omega (arith, sizes, length-append (spelling.number (length words)) (flat_map spelling.number words), length_number (length words), length_numbers words)
behind_within wanted (Res.Sequence s) arrays sizes = simp (lengths, arrays) (omega arith)
behind_within wanted (Res.TestStateid codes) arrays sizes =
    omega (arith, sizes, length-append (spelling.number (length codes)) (flat_map spelling.number codes), length_number (length codes), length_numbers codes)
behind_within wanted Res.DestroyClientId arrays sizes = omega arith
behind_within wanted Res.ReclaimComplete arrays sizes = omega arith
behind_within wanted (Res.Refused operation s) arrays sizes = at_least operation wanted

length_plain : (r : Res) → IsPlain r → length (parts r).behind ≤ 16
length_plain (Res.Refused operation s) plain = omega arith
length_plain (Res.SetAttr s attrsset) plain = omega (arith, plain, length_attr_set attrsset)
length_plain r plain = absurd plain

pub length_spelled : (r : Res) → length (spell_result r) ≡ 8 + length (parts r).behind
length_spelled r = omega (arith, length-append (head (operation_of r) (parts r).status) (parts r).behind, length_head (operation_of r) (parts r).status)

pub length_result : (i : Item) (r : Res) → HasArrays r → MayAnswer i r → length (spell_result r) ≤ largest i
length_result (Operation op) r arrays may =
    let l : length (spell_result r) ≤ largest_of (operation_of r) (asked op) = omega (arith, behind_within (asked op) r arrays may.2, length_spelled r) in
    subst (λ (n : ℕ). length (spell_result r) ≤ largest_of n (asked op)) may.0 l
length_result (Fault number status) r arrays may = omega (arith, length_plain r may.2, length_spelled r)

pub length_head_within : (status : Status) (tag : List ℕ) (count : ℕ) → length tag ≤ 1024 → length (spell_compound_head status tag count) ≤ 1036
length_head_within status tag count short = simp lengths (omega (arith, short))

pub length_compound_head : (status : Status) (tag : List ℕ) (count : ℕ)
    → length (spell_compound_head status tag count) ≡ 12 + length tag + padding (length tag)
length_compound_head status tag count = simp lengths (omega arith)
