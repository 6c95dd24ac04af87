-- The results that an operation of this server may have behind a SEQUENCE, by their sizes. EXCHANGE_ID is refused there: its answer outside a session is
-- as long as the server's name makes it.
use Rattle.std.specs.Prelude.{◌≡◌, ℕ, ◌≤◌, length, None}
use Rattle.nfs_xdr.specs.Limits.{opaque_limit}
use Rattle.nfs_compound.specs.{declared.op.Item.Item, declared.op.Item.TheVariants.{Operation, Fault}}
use Rattle.nfs_results.specs.{Largest.{given, number_of, asked}, declared.res.Res.Res, Results.operation_of, Parts.parts, ResultCodec.IsBounded}

-- The sizes that this server's answers have where so much was asked for: filehandles of 16 bytes, text of at most 1,024,
-- three words of a mask, the values of its attributes, and no more bytes, entries and statuses than asked.
abbrev pub HasSizes : (asked : ℕ) → Res → Type 0
HasSizes asked (Res.Create c) = length c.attrset ≤ 3
HasSizes asked (Res.GetAttr f) = (length f.attrmask ≤ 3) × (length f.attr_vals ≤ 612)
HasSizes asked (Res.GetFh object) = length object ≤ 16
HasSizes asked (Res.LockDenied d) = length d.owner.owner ≤ opaque_limit
HasSizes asked (Res.LockTDenied d) = length d.owner.owner ≤ opaque_limit
HasSizes asked (Res.Open o) = length o.attrset ≤ 3
HasSizes asked (Res.Read r) = length r.bytes ≤ given asked
HasSizes asked (Res.ReadDir r) = length (parts (Res.ReadDir r)).behind ≤ given asked
HasSizes asked (Res.ReadLink link) = length link ≤ 1024
HasSizes asked (Res.SetAttr status attrsset) = length attrsset ≤ 3
HasSizes asked (Res.ExchangeId r) = (length r.major_id ≤ 8) × (length r.server_scope ≤ 8)
HasSizes asked (Res.CreateSession s) = s.fore_chan_attrs.rdma_ird ≡ None
HasSizes asked (Res.SecinfoNoName flavors) = length flavors ≤ 1
HasSizes asked (Res.TestStateid codes) = length codes ≤ asked
HasSizes asked (Res.Access a) = Unit {0}
HasSizes asked (Res.Close stateid) = Unit {0}
HasSizes asked (Res.Commit writeverf) = Unit {0}
HasSizes asked (Res.Link c) = Unit {0}
HasSizes asked (Res.Lock stateid) = Unit {0}
HasSizes asked Res.LockT = Unit {0}
HasSizes asked (Res.LockU stateid) = Unit {0}
HasSizes asked Res.Lookup = Unit {0}
HasSizes asked Res.LookupP = Unit {0}
HasSizes asked Res.NVerify = Unit {0}
HasSizes asked (Res.OpenDowngrade stateid) = Unit {0}
HasSizes asked Res.PutFh = Unit {0}
HasSizes asked Res.PutPubFh = Unit {0}
HasSizes asked Res.PutRootFh = Unit {0}
HasSizes asked (Res.Remove c) = Unit {0}
HasSizes asked (Res.Rename r) = Unit {0}
HasSizes asked Res.RestoreFh = Unit {0}
HasSizes asked Res.SaveFh = Unit {0}
HasSizes asked Res.Verify = Unit {0}
HasSizes asked (Res.Write w) = Unit {0}
HasSizes asked Res.DestroySession = Unit {0}
HasSizes asked Res.FreeStateid = Unit {0}
HasSizes asked (Res.Sequence s) = Unit {0}
HasSizes asked Res.DestroyClientId = Unit {0}
HasSizes asked Res.ReclaimComplete = Unit {0}
HasSizes asked (Res.Refused operation status) = Unit {0}

-- a refusal that says no more than which attributes were set
abbrev pub IsPlain : Res → Type 0
IsPlain (Res.Refused operation status) = Unit {0}
IsPlain (Res.SetAttr status attrsset) = length attrsset ≤ 3
IsPlain other = ⊥

-- The results that an item may have: under its own number, such as can be put, and of those sizes.
abbrev pub MayAnswer : Item → Res → Type 0
MayAnswer (Operation op) r = (operation_of r ≡ number_of op) × IsBounded r × HasSizes (asked op) r
MayAnswer (Fault number status) r = (operation_of r ≡ number) × IsBounded r × IsPlain r
