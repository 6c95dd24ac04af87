-- The results of the operations on the wire (RFC 8881 sections 3 and 18, RFC 5662): its structs and unions in the order of RFC 8881, each field under
-- its type, and nfs_resop4 with the number, the status and the fields of each operation on its line.
use Rattle.std.specs.Prelude.{◌≡◌, ◌≢◌, ℕ, List, [], ◌∷◌, ◌++◌, true, false, IsTrue, None}
use Rattle.nfs_xdr.specs.{Limits.{fhsize, opaque_limit}, declared.status.Status.Status, declared.status.Status.TheVariants.{Nfs4Ok, Denied, OpIllegal}}
use Rattle.nfs_xdr.specs.{Status.status_number, Text.{Text, ◌then◌, void, uint32, uint64, bool, enum, fixed, opaque, array, optional, most}}
use Rattle.nfs_compound.specs.{Enums.{lock_type_number, stable_how_number}, Wire.{component4, state_owner4, stateid4, nfs_impl_id4, channel_attrs4}}
use Rattle.nfs_results.specs.{declared.res.ChangeInfo.ChangeInfo, declared.res.Denied.{Denied as DeniedLock}, declared.res.ExchangeIdOk.ExchangeIdOk}
use Rattle.nfs_results.specs.{declared.res.OpenOk.OpenOk, declared.res.Fattr.Fattr, declared.res.Entry.Entry, declared.res.Res.Res, Refusals.can_refuse}
use Rattle.nfs_results.specs.CompoundResult.{CompoundResult}

-- the text of those values alone of which this holds too
infixl 5 ◌provided◌
abbrev pub ◌provided◌ : Text → Type 0 → Text
text provided more = record { bytes = text.bytes; Fits = text.Fits × more }

-- RFC 8881 section 3.

-- the number of a status
abbrev pub nfsstat4 : ℕ → Text
nfsstat4 n = enum n provided ((s : Status) × (n ≡ status_number s))

-- of attributes below 96, with no zero word at its end
abbrev pub bitmap4 : List ℕ → Text
bitmap4 words = array 3 uint32 words provided ((front : List ℕ) → words ≢ front ++ (0 ∷ []))

abbrev pub fattr4 : Fattr → Text
fattr4 f = bitmap4 f.attrmask then opaque most f.attr_vals

abbrev pub change_info4 : ChangeInfo → Text
change_info4 c = bool c.atomic then uint64 c.before then uint64 c.after

-- RFC 8881 section 18.10.

abbrev pub lock4denied : DeniedLock → Text
lock4denied d = uint64 d.offset then uint64 d.length then enum (lock_type_number d.locktype) then state_owner4 d.owner

-- RFC 8881 section 18.16. The delegation is OPEN_DELEGATE_NONE, which is 0.

abbrev pub open4resok : OpenOk → Text
open4resok o = stateid4 o.stateid then change_info4 o.cinfo then uint32 o.rflags then bitmap4 o.attrset then enum 0

-- RFC 8881 section 18.23. A bool in front of each entry says that it follows, and one behind the last that none does.

abbrev pub entry4 : Entry → Text
entry4 e = uint64 e.cookie then component4 e.name then fattr4 e.attrs

abbrev pub entries4 : List Entry → Text
entries4 [] = bool false
entries4 (e ∷ es) = bool true then entry4 e then entries4 es

-- RFC 8881 section 18.35. The state protection is SP4_NONE, which is 0, and no implementation is named.

abbrev pub exchange_id4resok : ExchangeIdOk → Text
exchange_id4resok r = uint64 r.clientid then uint32 r.sequenceid then uint32 r.flags then enum 0 then uint64 r.minor_id then opaque opaque_limit r.major_id
    then opaque opaque_limit r.server_scope then optional nfs_impl_id4 None

-- What nfs_resop4 has: the number of the operation, how it ended, and what is behind them.
pub record Resop : Type 1 where
  pub operation : ℕ
  pub status : Status
  pub behind : Text

abbrev pub text_of : Resop → Text
text_of r = enum r.operation then enum (status_number r.status) then r.behind

abbrev pub ends : ℕ → Status → Text → Resop
ends operation status text = record { operation = operation; status = status; behind = text }

-- RFC 8881 sections 18.1 to 18.51. LOCK and LOCKT that are denied tell of the lock in the way, SETATTR tells with every status that it can have what
-- was set, and other refusals tell nothing more. A secinfo4 is the number of its flavor: RPCSEC_GSS, which alone has more, is not among those given.

abbrev pub nfs_resop4 : Res → Resop
nfs_resop4 (Res.Access a) = ends 3 Nfs4Ok (uint32 a.supported then uint32 a.access)
nfs_resop4 (Res.Close open_stateid) = ends 4 Nfs4Ok (stateid4 open_stateid)
nfs_resop4 (Res.Commit writeverf) = ends 5 Nfs4Ok (fixed 8 writeverf)
nfs_resop4 (Res.Create c) = ends 6 Nfs4Ok (change_info4 c.cinfo then bitmap4 c.attrset)
nfs_resop4 (Res.GetAttr obj_attributes) = ends 9 Nfs4Ok (fattr4 obj_attributes)
nfs_resop4 (Res.GetFh object) = ends 10 Nfs4Ok (opaque fhsize object)
nfs_resop4 (Res.Link cinfo) = ends 11 Nfs4Ok (change_info4 cinfo)
nfs_resop4 (Res.Lock lock_stateid) = ends 12 Nfs4Ok (stateid4 lock_stateid)
nfs_resop4 (Res.LockDenied d) = ends 12 Denied (lock4denied d)
nfs_resop4 Res.LockT = ends 13 Nfs4Ok void
nfs_resop4 (Res.LockTDenied d) = ends 13 Denied (lock4denied d)
nfs_resop4 (Res.LockU lock_stateid) = ends 14 Nfs4Ok (stateid4 lock_stateid)
nfs_resop4 Res.Lookup = ends 15 Nfs4Ok void
nfs_resop4 Res.LookupP = ends 16 Nfs4Ok void
nfs_resop4 Res.NVerify = ends 17 Nfs4Ok void
nfs_resop4 (Res.Open o) = ends 18 Nfs4Ok (open4resok o)
nfs_resop4 (Res.OpenDowngrade open_stateid) = ends 21 Nfs4Ok (stateid4 open_stateid)
nfs_resop4 Res.PutFh = ends 22 Nfs4Ok void
nfs_resop4 Res.PutPubFh = ends 23 Nfs4Ok void
nfs_resop4 Res.PutRootFh = ends 24 Nfs4Ok void
nfs_resop4 (Res.Read r) = ends 25 Nfs4Ok (bool r.eof then opaque most r.bytes)
nfs_resop4 (Res.ReadDir r) = ends 26 Nfs4Ok (fixed 8 r.cookieverf then entries4 r.entries then bool r.eof)
nfs_resop4 (Res.ReadLink link) = ends 27 Nfs4Ok (opaque most link)
nfs_resop4 (Res.Remove cinfo) = ends 28 Nfs4Ok (change_info4 cinfo)
nfs_resop4 (Res.Rename r) = ends 29 Nfs4Ok (change_info4 r.source_cinfo then change_info4 r.target_cinfo)
nfs_resop4 Res.RestoreFh = ends 31 Nfs4Ok void
nfs_resop4 Res.SaveFh = ends 32 Nfs4Ok void
nfs_resop4 (Res.SetAttr status attrsset) = ends 34 status (bitmap4 attrsset provided (status ≢ OpIllegal))
nfs_resop4 Res.Verify = ends 37 Nfs4Ok void
nfs_resop4 (Res.Write w) = ends 38 Nfs4Ok (uint32 w.count then enum (stable_how_number w.committed) then fixed 8 w.writeverf)
nfs_resop4 (Res.ExchangeId r) = ends 42 Nfs4Ok (exchange_id4resok r)
nfs_resop4 (Res.CreateSession s) = ends 43 Nfs4Ok
    (fixed 16 s.sessionid then uint32 s.sequence then uint32 s.flags then channel_attrs4 s.fore_chan_attrs then channel_attrs4 s.back_chan_attrs)
nfs_resop4 Res.DestroySession = ends 44 Nfs4Ok void
nfs_resop4 Res.FreeStateid = ends 45 Nfs4Ok void
nfs_resop4 (Res.SecinfoNoName flavors) = ends 52 Nfs4Ok (array most uint32 flavors)
nfs_resop4 (Res.Sequence s) = ends 53 Nfs4Ok (fixed 16 s.sessionid then uint32 s.sequenceid then uint32 s.slotid then uint32 s.highest_slotid
    then uint32 s.target_highest_slotid then uint32 s.status_flags)
nfs_resop4 (Res.TestStateid codes) = ends 55 Nfs4Ok (array most nfsstat4 codes)
nfs_resop4 Res.DestroyClientId = ends 57 Nfs4Ok void
nfs_resop4 Res.ReclaimComplete = ends 58 Nfs4Ok void
nfs_resop4 (Res.Refused operation status) = ends operation status (void provided IsTrue (can_refuse operation status))

-- A result, and the result of a compound (RFC 8881 section 16.2.2): its status, the tag of its call and the results of the operations that were run.

abbrev pub result4 : Res → Text
result4 r = text_of (nfs_resop4 r)

abbrev pub compound4res : CompoundResult → Text
compound4res c = enum (status_number c.status) then opaque opaque_limit c.tag then array most result4 c.results
