-- The arguments of the operations on the wire (RFC 8881 sections 3 and 18, RFC 5662): its structs and unions in the order of RFC 8881, each field
-- under its type, and nfs_argop4 with the fields of each operation on its line.
use Rattle.std.specs.Prelude.{◌≡◌, ◌≢◌, ℕ, ◌<◌, ◌^◌, ◌⊎◌, List}
use Rattle.nfs_xdr.specs.Spelling as spelling
use Rattle.nfs_xdr.specs.{Text.{Text, ◌then◌, void, uint32, uint64, bool, enum, fixed, opaque, array, optional, most}, Limits.{fhsize, opaque_limit}}
use Rattle.nfs_xdr.specs.Wire.{authsys_parms, nfstime4}
use Rattle.nfs_compound.specs.{declared.stateid.Stateid.Stateid, declared.channel_attrs.ChannelAttrs.ChannelAttrs, declared.state_owner.StateOwner.StateOwner}
use Rattle.nfs_compound.specs.{declared.attributes.Attributes.Attributes, Enums.{secinfo_style_number, lock_type_number, delegation_number, stable_how_number}}
use Rattle.nfs_compound.specs.{declared.name_args.CreateType.CreateType, declared.name_args.CreateType.TheVariants.{Block, Character, Symlink, Other}}
use Rattle.nfs_compound.specs.{declared.lock_args.Locker.Locker, declared.lock_args.Locker.TheVariants.{OpenOwner, LockOwner}}
use Rattle.nfs_compound.specs.{declared.open_args.CreateHow.CreateHow, declared.open_args.CreateHow.TheVariants.{Unchecked, Guarded, Exclusive, Exclusive41}}
use Rattle.nfs_compound.specs.{declared.open_args.OpenHow.OpenHow, declared.open_args.OpenHow.TheVariants.{NoCreate, Create}}
use Rattle.nfs_compound.specs.declared.open_args.OpenClaim.{OpenClaim}
use Rattle.nfs_compound.specs.declared.open_args.OpenClaim.TheVariants.{Null, Previous, DelegateCur, DelegatePrev, Fh, DelegCurFh, DelegPrevFh}
use Rattle.nfs_compound.specs.{declared.session_args.ImplId.ImplId, Callback.{GssHandles, SecParms, AuthNone, Sys, RpcsecGss}, declared.op.Op.Op}

-- RFC 8881 section 3.

abbrev pub bitmap4 : List ℕ → Text
bitmap4 words = array most uint32 words

abbrev pub component4 : List ℕ → Text
component4 name = opaque most name

abbrev pub fattr4 : Attributes → Text
fattr4 a = bitmap4 a.attrmask then opaque most a.attr_vals

abbrev pub state_owner4 : StateOwner → Text
state_owner4 o = uint64 o.clientid then opaque opaque_limit o.owner

abbrev pub stateid4 : Stateid → Text
stateid4 s = uint32 s.seqid then fixed 12 s.other

-- RFC 8881 section 18.4.

abbrev pub createtype4 : CreateType → Text
createtype4 (Block d) = enum 3 then uint32 d.specdata1 then uint32 d.specdata2
createtype4 (Character d) = enum 4 then uint32 d.specdata1 then uint32 d.specdata2
createtype4 (Symlink linkdata) = enum 5 then opaque most linkdata
createtype4 (Other t) = record { bytes = spelling.number t; Fits = (t < 2 ^ 32) × (t ≢ 3) × (t ≢ 4) × (t ≢ 5) }

-- RFC 8881 section 18.10.

abbrev pub locker4 : Locker → Text
locker4 (OpenOwner o) = enum 1 then uint32 o.open_seqid then stateid4 o.open_stateid then uint32 o.lock_seqid then state_owner4 o.lock_owner
locker4 (LockOwner o) = enum 0 then stateid4 o.lock_stateid then uint32 o.lock_seqid

-- RFC 8881 section 18.16.

abbrev pub createhow4 : CreateHow → Text
createhow4 (Unchecked a) = enum 0 then fattr4 a
createhow4 (Guarded a) = enum 1 then fattr4 a
createhow4 (Exclusive verifier) = enum 2 then fixed 8 verifier
createhow4 (Exclusive41 verifier a) = enum 3 then fixed 8 verifier then fattr4 a

abbrev pub openflag4 : OpenHow → Text
openflag4 NoCreate = enum 0
openflag4 (Create how) = enum 1 then createhow4 how

abbrev pub open_claim4 : OpenClaim → Text
open_claim4 (Null file) = enum 0 then component4 file
open_claim4 (Previous delegate_type) = enum 1 then enum (delegation_number delegate_type)
open_claim4 (DelegateCur s file) = enum 2 then stateid4 s then component4 file
open_claim4 (DelegatePrev file) = enum 3 then component4 file
open_claim4 Fh = enum 4
open_claim4 (DelegCurFh s) = enum 5 then stateid4 s
open_claim4 DelegPrevFh = enum 6

-- RFC 8881 section 18.35. A state protection is SP4_NONE, which is 0.

abbrev pub nfs_impl_id4 : ImplId → Text
nfs_impl_id4 i = component4 i.domain then component4 i.name then nfstime4 i.date

-- the verifier, owner and flags of an EXCHANGE_ID that wants SP4_MACH_CRED or SP4_SSV, and which of them, with nothing of what it says of that
abbrev pub protected4 : List ℕ × (List ℕ × (ℕ × ℕ)) → Text
protected4 (verifier, (ownerid, (flags, how))) = fixed 8 verifier then opaque opaque_limit ownerid then uint32 flags
    then record { bytes = spelling.number how; Fits = (how ≡ 1) ⊎ (how ≡ 2) }

-- RFC 8881 section 18.36.

abbrev pub channel_attrs4 : ChannelAttrs → Text
channel_attrs4 a = uint32 a.headerpadsize then uint32 a.maxrequestsize then uint32 a.maxresponsesize then uint32 a.maxresponsesize_cached
    then uint32 a.maxoperations then uint32 a.maxrequests then optional uint32 a.rdma_ird

abbrev pub gss_cb_handles4 : GssHandles → Text
gss_cb_handles4 g = uint32 g.service then opaque most g.handle_from_server then opaque most g.handle_from_client

abbrev pub callback_sec_parms4 : SecParms → Text
callback_sec_parms4 AuthNone = enum 0
callback_sec_parms4 (Sys a) = enum 1 then authsys_parms a
callback_sec_parms4 (RpcsecGss g) = enum 6 then gss_cb_handles4 g

-- callback_sec_parms4 csa_sec_parms<>, of which an operation has the bytes
abbrev pub sec_parms : List ℕ → Text
sec_parms bytes = record {
  bytes = bytes;
  Fits = (parms : List SecParms) × (bytes ≡ (array most callback_sec_parms4 parms).bytes) × (array most callback_sec_parms4 parms).Fits;
}

-- RFC 8881 sections 18.1 to 18.51.

abbrev pub nfs_argop4 : Op → Text
nfs_argop4 (Op.Access access) = enum 3 then uint32 access
nfs_argop4 (Op.Close a) = enum 4 then uint32 a.seqid then stateid4 a.open_stateid
nfs_argop4 (Op.Commit a) = enum 5 then uint64 a.offset then uint32 a.count
nfs_argop4 (Op.Create a) = enum 6 then createtype4 a.objtype then component4 a.objname then fattr4 a.createattrs
nfs_argop4 (Op.GetAttr attr_request) = enum 9 then bitmap4 attr_request
nfs_argop4 Op.GetFh = enum 10 then void
nfs_argop4 (Op.Link newname) = enum 11 then component4 newname
nfs_argop4 (Op.Lock a) = enum 12 then enum (lock_type_number a.locktype) then bool a.reclaim then uint64 a.offset then uint64 a.length then locker4 a.locker
nfs_argop4 (Op.LockT a) = enum 13 then enum (lock_type_number a.locktype) then uint64 a.offset then uint64 a.length then state_owner4 a.owner
nfs_argop4 (Op.LockU a) = enum 14 then enum (lock_type_number a.locktype) then uint32 a.seqid then stateid4 a.lock_stateid then uint64 a.offset
    then uint64 a.length
nfs_argop4 (Op.Lookup objname) = enum 15 then component4 objname
nfs_argop4 Op.LookupP = enum 16 then void
nfs_argop4 (Op.NVerify obj_attributes) = enum 17 then fattr4 obj_attributes
nfs_argop4 (Op.Open a) = enum 18 then uint32 a.seqid then uint32 a.share_access then uint32 a.share_deny then state_owner4 a.owner
    then openflag4 a.openhow then open_claim4 a.claim
nfs_argop4 (Op.OpenDowngrade a) = enum 21 then stateid4 a.open_stateid then uint32 a.seqid then uint32 a.share_access then uint32 a.share_deny
nfs_argop4 (Op.PutFh object) = enum 22 then opaque fhsize object
nfs_argop4 Op.PutPubFh = enum 23 then void
nfs_argop4 Op.PutRootFh = enum 24 then void
nfs_argop4 (Op.Read a) = enum 25 then stateid4 a.stateid then uint64 a.offset then uint32 a.count
nfs_argop4 (Op.ReadDir a) = enum 26 then uint64 a.cookie then fixed 8 a.cookieverf then uint32 a.dircount then uint32 a.maxcount then bitmap4 a.attr_request
nfs_argop4 Op.ReadLink = enum 27 then void
nfs_argop4 (Op.Remove target) = enum 28 then component4 target
nfs_argop4 (Op.Rename a) = enum 29 then component4 a.oldname then component4 a.newname
nfs_argop4 Op.RestoreFh = enum 31 then void
nfs_argop4 Op.SaveFh = enum 32 then void
nfs_argop4 (Op.SetAttr a) = enum 34 then stateid4 a.stateid then fattr4 a.obj_attributes
nfs_argop4 (Op.Verify obj_attributes) = enum 37 then fattr4 obj_attributes
nfs_argop4 (Op.Write a) = enum 38 then stateid4 a.stateid then uint64 a.offset then enum (stable_how_number a.stable) then opaque most a.bytes
nfs_argop4 (Op.ExchangeId a) = enum 42 then fixed 8 a.verifier then opaque opaque_limit a.ownerid then uint32 a.flags then enum 0
    then optional nfs_impl_id4 a.impl_id
nfs_argop4 (Op.CreateSession a) = enum 43 then uint64 a.clientid then uint32 a.sequence then uint32 a.flags then channel_attrs4 a.fore_chan_attrs
    then channel_attrs4 a.back_chan_attrs then uint32 a.cb_program then sec_parms a.sec_parms
nfs_argop4 (Op.DestroySession sessionid) = enum 44 then fixed 16 sessionid
nfs_argop4 (Op.FreeStateid stateid) = enum 45 then stateid4 stateid
nfs_argop4 (Op.SecinfoNoName style) = enum 52 then enum (secinfo_style_number style)
nfs_argop4 (Op.Sequence a) = enum 53 then fixed 16 a.sessionid then uint32 a.sequenceid then uint32 a.slotid then uint32 a.highest_slotid
    then bool a.cachethis
nfs_argop4 (Op.TestStateid stateids) = enum 55 then array most stateid4 stateids
nfs_argop4 (Op.DestroyClientId clientid) = enum 57 then uint64 clientid
nfs_argop4 (Op.ReclaimComplete one_fs) = enum 58 then bool one_fs
