-- How the arguments of operations are spelled and read (RFC 5662).
use Rattle.std.specs.{Prelude.{ℕ, List, [], ◌∷◌, ◌++◌, Option, ◌≢◌, ◌<◌, ◌^◌, ◌==◌, ◌||◌}, Int.{w32, from_be_bytes}}
use Rattle.nfs_xdr.specs.Codec.{Codec, number, unbounded, ◌then◌, as_type, pieces, array, union, arm, bare, hyper, flag, opaque, only, led_by}
use Rattle.nfs_xdr.specs.{AuthSys.auth_sys, Combinators.{raw, listed, fixed, union_or, optional}, Time.time, Limits.opaque_limit}
use Rattle.nfs_xdr.specs.Spelling as spelling
use Rattle.nfs_compound.specs.{declared.attributes.Attributes.Attributes, Callback.{GssHandles, SecParms, AuthNone, Sys, RpcsecGss}}
use Rattle.nfs_compound.specs.{Enums.{stable_how_number, secinfo_style_number, lock_type_number}, declared.file_args.Write.Write}
use Rattle.nfs_compound.specs.{declared.file_args.SetAttr.SetAttr, declared.file_args.Commit.Commit, declared.file_args.Read.Read}
use Rattle.nfs_compound.specs.{declared.file_args.StableHow.StableHow, Stateid.stateid, declared.name_args.CreateType.CreateType}
use Rattle.nfs_compound.specs.{declared.name_args.CreateType.TheVariants.{Block, Character, Symlink, Other}, declared.name_args.Create.Create}
use Rattle.nfs_compound.specs.{declared.name_args.ReadDir.ReadDir, declared.name_args.Rename.Rename, declared.name_args.SpecData.SpecData}
use Rattle.nfs_compound.specs.{declared.name_args.SecinfoStyle.SecinfoStyle, declared.lock_args.OpenToLockOwner.OpenToLockOwner}
use Rattle.nfs_compound.specs.{declared.lock_args.Locker.Locker, declared.lock_args.Locker.TheVariants.{OpenOwner, LockOwner}, declared.lock_args.Lock.Lock}
use Rattle.nfs_compound.specs.{declared.lock_args.LockT.LockT, declared.lock_args.LockType.LockType, declared.lock_args.ExistLockOwner.ExistLockOwner}
use Rattle.nfs_compound.specs.{StateOwner.state_owner, declared.lock_args.LockU.LockU, declared.session_args.ImplId.ImplId}
use Rattle.nfs_compound.specs.{declared.session_args.ExchangeId.ExchangeId, declared.session_args.CreateSession.CreateSession}
use Rattle.nfs_compound.specs.{declared.session_args.Sequence.Sequence, ChannelAttrs.channel_attrs}
use Rattle.nfs_compound.specs.declared.file_args.StableHow.TheVariants as StableHows
use Rattle.nfs_compound.specs.declared.name_args.SecinfoStyle.TheVariants as SecinfoStyles
use Rattle.nfs_compound.specs.declared.lock_args.LockType.TheVariants as LockTypes

-- the words of a mask; bit i of word w is attribute 32 w + i
unfoldable pub bitmap : Codec (List ℕ)
bitmap = pieces 4 (from_be_bytes w32) number

unfoldable pub attributes : Codec Attributes
attributes = as_type (λ (attrmask, attr_vals). record { attrmask = attrmask; attr_vals = attr_vals }) (λ a. (a.attrmask, a.attr_vals)) (bitmap then unbounded)

unfoldable pub gss_handles : Codec GssHandles
gss_handles = as_type
    (λ (service, (handle_from_server, handle_from_client)). record {
      service = service;
      handle_from_server = handle_from_server;
      handle_from_client = handle_from_client;
    })
    (λ g. (g.service, (g.handle_from_server, g.handle_from_client)))
    (number then unbounded then unbounded)

abbrev pub spell_sec_parms : SecParms → List ℕ
spell_sec_parms AuthNone = spelling.number 0
spell_sec_parms (Sys a) = spelling.number 1 ++ auth_sys.spell a
spell_sec_parms (RpcsecGss g) = spelling.number 6 ++ gss_handles.spell g

abbrev pub FitsSecParms : SecParms → Type 0
FitsSecParms AuthNone = Unit {0}
FitsSecParms (Sys a) = auth_sys.Fits a
FitsSecParms (RpcsecGss g) = gss_handles.Fits g

abbrev pub sec_parms_arms : List (ℕ × (List ℕ → Option (SecParms × List ℕ)))
sec_parms_arms =
    (0, bare AuthNone)
    ∷ (1, arm Sys auth_sys)
    ∷ (6, arm RpcsecGss gss_handles)
    ∷ []

unfoldable pub sec_parms : Codec SecParms
sec_parms = union spell_sec_parms FitsSecParms sec_parms_arms

-- an array of them, as its bytes
abbrev pub all_sec_parms : Codec (List ℕ)
all_sec_parms = raw (array sec_parms)

unfoldable pub commit_args : Codec Commit
commit_args = as_type (λ (offset, count). record { offset = offset; count = count }) (λ c. (c.offset, c.count)) (hyper then number)

unfoldable pub read_args : Codec Read
read_args = as_type (λ (held, (offset, count)). record { stateid = held; offset = offset; count = count })
    (λ r. (r.stateid, (r.offset, r.count))) (stateid then hyper then number)

abbrev pub stable_hows : List StableHow
stable_hows = StableHows.Unstable ∷ StableHows.DataSync ∷ StableHows.FileSync ∷ []

unfoldable pub stable_how : Codec StableHow
stable_how = listed stable_how_number stable_hows

unfoldable pub write_args : Codec Write
write_args = as_type
    (λ (held, (offset, (stable, bytes))). record { stateid = held; offset = offset; stable = stable; bytes = bytes })
    (λ w. (w.stateid, (w.offset, (w.stable, w.bytes))))
    (stateid then hyper then stable_how then unbounded)

unfoldable pub set_attr_args : Codec SetAttr
set_attr_args = as_type (λ (held, obj_attributes). record { stateid = held; obj_attributes = obj_attributes })
    (λ s. (s.stateid, s.obj_attributes)) (stateid then attributes)

unfoldable pub spec_data : Codec SpecData
spec_data = as_type (λ (specdata1, specdata2). record { specdata1 = specdata1; specdata2 = specdata2 }) (λ d. (d.specdata1, d.specdata2)) (number then number)

abbrev pub spell_create_type : CreateType → List ℕ
spell_create_type (Block d) = spelling.number 3 ++ spec_data.spell d
spell_create_type (Character d) = spelling.number 4 ++ spec_data.spell d
spell_create_type (Symlink linkdata) = spelling.number 5 ++ unbounded.spell linkdata
spell_create_type (Other objtype) = spelling.number objtype

abbrev pub FitsCreateType : CreateType → Type 0
FitsCreateType (Block d) = spec_data.Fits d
FitsCreateType (Character d) = spec_data.Fits d
FitsCreateType (Symlink linkdata) = unbounded.Fits linkdata
FitsCreateType (Other objtype) = (objtype < 2 ^ 32) × (objtype ≢ 3) × (objtype ≢ 4) × (objtype ≢ 5)

abbrev pub create_type_arms : List (ℕ × (List ℕ → Option (CreateType × List ℕ)))
create_type_arms =
    (3, arm Block spec_data)
    ∷ (4, arm Character spec_data)
    ∷ (5, arm Symlink unbounded)
    ∷ []

unfoldable pub create_type : Codec CreateType
create_type = union_or spell_create_type FitsCreateType create_type_arms Other

unfoldable pub create_args : Codec Create
create_args = as_type
    (λ (objtype, (objname, createattrs)). record { objtype = objtype; objname = objname; createattrs = createattrs })
    (λ c. (c.objtype, (c.objname, c.createattrs)))
    (create_type then unbounded then attributes)

unfoldable pub read_dir_args : Codec ReadDir
read_dir_args = as_type
    (λ (cookie, (cookieverf, (dircount, (maxcount, attr_request)))). record {
      cookie = cookie;
      cookieverf = cookieverf;
      dircount = dircount;
      maxcount = maxcount;
      attr_request = attr_request;
    })
    (λ r. (r.cookie, (r.cookieverf, (r.dircount, (r.maxcount, r.attr_request)))))
    (hyper then fixed 8 then number then number then bitmap)

unfoldable pub rename_args : Codec Rename
rename_args = as_type (λ (oldname, newname). record { oldname = oldname; newname = newname }) (λ r. (r.oldname, r.newname)) (unbounded then unbounded)

abbrev pub secinfo_styles : List SecinfoStyle
secinfo_styles = SecinfoStyles.CurrentFh ∷ SecinfoStyles.Parent ∷ []

unfoldable pub secinfo_style : Codec SecinfoStyle
secinfo_style = listed secinfo_style_number secinfo_styles

abbrev pub lock_types : List LockType
lock_types = LockTypes.Read ∷ LockTypes.Write ∷ LockTypes.ReadW ∷ LockTypes.WriteW ∷ []

unfoldable pub lock_type : Codec LockType
lock_type = listed lock_type_number lock_types

unfoldable pub open_to_lock_owner : Codec OpenToLockOwner
open_to_lock_owner = as_type
    (λ (open_seqid, (open_stateid, (lock_seqid, lock_owner))). record {
      open_seqid = open_seqid;
      open_stateid = open_stateid;
      lock_seqid = lock_seqid;
      lock_owner = lock_owner;
    })
    (λ o. (o.open_seqid, (o.open_stateid, (o.lock_seqid, o.lock_owner))))
    (number then stateid then number then state_owner)

unfoldable pub exist_lock_owner : Codec ExistLockOwner
exist_lock_owner = as_type (λ (lock_stateid, lock_seqid). record { lock_stateid = lock_stateid; lock_seqid = lock_seqid })
    (λ o. (o.lock_stateid, o.lock_seqid)) (stateid then number)

abbrev pub spell_locker : Locker → List ℕ
spell_locker (OpenOwner o) = spelling.number 1 ++ open_to_lock_owner.spell o
spell_locker (LockOwner o) = spelling.number 0 ++ exist_lock_owner.spell o

abbrev pub FitsLocker : Locker → Type 0
FitsLocker (OpenOwner o) = open_to_lock_owner.Fits o
FitsLocker (LockOwner o) = exist_lock_owner.Fits o

abbrev pub locker_arms : List (ℕ × (List ℕ → Option (Locker × List ℕ)))
locker_arms = (1, arm OpenOwner open_to_lock_owner) ∷ (0, arm LockOwner exist_lock_owner) ∷ []

unfoldable pub locker : Codec Locker
locker = union spell_locker FitsLocker locker_arms

unfoldable pub lock_args : Codec Lock
lock_args = as_type
    (λ (locktype, (reclaim, (offset, (size, who)))). record { locktype = locktype; reclaim = reclaim; offset = offset; length = size; locker = who })
    (λ l. (l.locktype, (l.reclaim, (l.offset, (l.length, l.locker)))))
    (lock_type then flag then hyper then hyper then locker)

unfoldable pub lock_t_args : Codec LockT
lock_t_args = as_type
    (λ (locktype, (offset, (size, owner))). record { locktype = locktype; offset = offset; length = size; owner = owner })
    (λ l. (l.locktype, (l.offset, (l.length, l.owner))))
    (lock_type then hyper then hyper then state_owner)

unfoldable pub lock_u_args : Codec LockU
lock_u_args = as_type
    (λ (locktype, (seqid, (lock_stateid, (offset, size)))). record {
      locktype = locktype;
      seqid = seqid;
      lock_stateid = lock_stateid;
      offset = offset;
      length = size;
    })
    (λ l. (l.locktype, (l.seqid, (l.lock_stateid, (l.offset, l.length)))))
    (lock_type then number then stateid then hyper then hyper)

unfoldable pub impl_id : Codec ImplId
impl_id = as_type (λ (domain, (name, date)). record { domain = domain; name = name; date = date })
    (λ i. (i.domain, (i.name, i.date))) (unbounded then unbounded then time)

unfoldable pub exchange_id_args : Codec ExchangeId
exchange_id_args = as_type
    (λ (verifier, (ownerid, (flags, made))). record { verifier = verifier; ownerid = ownerid; flags = flags; impl_id = made })
    (λ e. (e.verifier, (e.ownerid, (e.flags, e.impl_id))))
    (fixed 8 then opaque opaque_limit then number then led_by 0 (optional impl_id))

-- an EXCHANGE_ID up to its state protection, where that is one of the two that are not served
unfoldable pub protected : Codec (List ℕ × (List ℕ × (ℕ × ℕ)))
protected = fixed 8 then opaque opaque_limit then number then only (λ n. n == 1 || n == 2) number

unfoldable pub create_session_args : Codec CreateSession
create_session_args = as_type
    (λ (clientid, (sequence, (flags, (fore_chan_attrs, (back_chan_attrs, (cb_program, sec_parms)))))). record {
      clientid = clientid;
      sequence = sequence;
      flags = flags;
      fore_chan_attrs = fore_chan_attrs;
      back_chan_attrs = back_chan_attrs;
      cb_program = cb_program;
      sec_parms = sec_parms;
    })
    (λ a. (a.clientid, (a.sequence, (a.flags, (a.fore_chan_attrs, (a.back_chan_attrs, (a.cb_program, a.sec_parms)))))))
    (hyper then number then number then channel_attrs then channel_attrs then number then all_sec_parms)

unfoldable pub sequence_args : Codec Sequence
sequence_args = as_type
    (λ (sessionid, (sequenceid, (slotid, (highest_slotid, cachethis)))). record {
      sessionid = sessionid;
      sequenceid = sequenceid;
      slotid = slotid;
      highest_slotid = highest_slotid;
      cachethis = cachethis;
    })
    (λ s. (s.sessionid, (s.sequenceid, (s.slotid, (s.highest_slotid, s.cachethis)))))
    (fixed 16 then number then number then number then flag)
