-- The requests of worked runs, in the words of the wire (RFC 8881 section 18, RFC 5662), over what a server of instance 7 gives: filehandles, stateids and sessions.
use Rattle.std.specs.Prelude.{ℕ, ◌+◌, ◌*◌, ◌^◌, false, List, [], ◌∷◌, ◌++◌, length, replicate, None}
use Rattle.std.specs.List.{flat_map}
use Rattle.nfs_xdr.specs.Spelling.{number}
use Rattle.nfs_compound.specs.{Wire.nfs_argop4, declared.{op.Op.Op, stateid.Stateid.Stateid}}
use Rattle.nfs_compound.specs.{declared.channel_attrs.ChannelAttrs.ChannelAttrs, declared.file_args.StableHow.TheVariants.Unstable}
use Rattle.nfs_compound.specs.{declared.lock_args.LockType.TheVariants.Write, declared.lock_args.Locker.TheVariants.OpenOwner}
use Rattle.nfs_compound.specs.{declared.open_args.OpenHow.OpenHow, declared.open_args.OpenHow.TheVariants.Create, declared.open_args.CreateHow.TheVariants.Unchecked}
use Rattle.nfs_compound.specs.declared.open_args.OpenClaim.TheVariants.{Null}

abbrev pub words : List ℕ → List ℕ
words xs = flat_map number xs

-- Operations on the wire, and a compound without a tag.

abbrev pub calls : List Op → List ℕ
calls ops = flat_map (λ o. (nfs_argop4 o).bytes) ops

abbrev pub compound : List Op → List ℕ
compound ops = words (0 ∷ 1 ∷ length ops ∷ []) ++ calls ops

-- What the server gives: the session of a client, the filehandle of an object, the stateid of an open or of a lock state.

abbrev pub session : ℕ → List ℕ
session client = words (7 ∷ client ∷ 0 ∷ client ∷ [])

abbrev pub handle : ℕ → List ℕ
handle object = words (7 ∷ 0 ∷ 0 ∷ object ∷ [])

abbrev pub stateid : (seqid number : ℕ) → Stateid
stateid seqid number = record { seqid = seqid; other = words (7 ∷ 0 ∷ number ∷ []) }

-- what stands for the stateid that the operation before gave
abbrev pub current_stateid : Stateid
current_stateid = record { seqid = 1; other = replicate 12 0 }

-- Clients and sessions. A client of a name starts with a verifier; its session has a channel of 4 slots, and one for calls back, which are not secured.

abbrev pub exchange_id : (verifier : ℕ) → List ℕ → List ℕ
exchange_id verifier name = compound (Op.ExchangeId (record { verifier = words (0 ∷ verifier ∷ []); ownerid = name; flags = 0; impl_id = None }) ∷ [])

abbrev pub channel : (request response cached operations requests : ℕ) → ChannelAttrs
channel request response cached operations requests = record {
  headerpadsize = 0;
  maxrequestsize = request;
  maxresponsesize = response;
  maxresponsesize_cached = cached;
  maxoperations = operations;
  maxrequests = requests;
  rdma_ird = None;
}

abbrev pub create_session : (client sequence : ℕ) → List ℕ
create_session client sequence = compound (Op.CreateSession (record {
  clientid = 7 * 2 ^ 32 + client;
  sequence = sequence;
  flags = 0;
  fore_chan_attrs = channel 4096 4100 2052 8 4;
  back_chan_attrs = channel 4104 4108 2056 3 2;
  cb_program = 0x4000_0000;
  sec_parms = words (1 ∷ 0 ∷ []);
}) ∷ [])

-- on a slot, with the highest one in use
abbrev pub on_slot : (client slot highest sequence : ℕ) → List Op → List ℕ
on_slot client slot highest sequence ops = compound (Op.Sequence (record {
  sessionid = session client;
  sequenceid = sequence;
  slotid = slot;
  highest_slotid = highest;
  cachethis = false;
}) ∷ ops)

abbrev pub in_session : (client sequence : ℕ) → List Op → List ℕ
in_session client sequence ops = on_slot client 0 0 sequence ops

-- Files. An OPEN by the open owner of a name is of a name in the current directory; a lock is of WRITE_LT, by the lock owner of a name, new under an open.

abbrev pub unchecked : OpenHow
unchecked = Create (Unchecked (record { attrmask = []; attr_vals = [] }))

abbrev pub opening_by : List ℕ → (access deny : ℕ) → OpenHow → List ℕ → Op
opening_by owner access deny how name = Op.Open (record {
  seqid = 0;
  share_access = access;
  share_deny = deny;
  owner = record { clientid = 0; owner = owner };
  openhow = how;
  claim = Null name;
})

abbrev pub closing : Stateid → Op
closing s = Op.Close (record { seqid = 0; open_stateid = s })

abbrev pub reading : Stateid → (offset count : ℕ) → Op
reading s offset count = Op.Read (record { stateid = s; offset = offset; count = count })

abbrev pub writing : Stateid → (offset : ℕ) → List ℕ → Op
writing s offset bytes = Op.Write (record { stateid = s; offset = offset; stable = Unstable; bytes = bytes })

abbrev pub locking : List ℕ → Stateid → (offset length : ℕ) → Op
locking owner s offset length = Op.Lock (record {
  locktype = Write;
  reclaim = false;
  offset = offset;
  length = length;
  locker = OpenOwner (record { open_seqid = 0; open_stateid = s; lock_seqid = 0; lock_owner = record { clientid = 0; owner = owner } });
})

abbrev pub unlocking : Stateid → (offset length : ℕ) → Op
unlocking s offset length = Op.LockU (record { locktype = Write; seqid = 0; lock_stateid = s; offset = offset; length = length })

-- a page of a listing, of at most so many bytes
abbrev pub listing_from : (cookie count : ℕ) → List ℕ → Op
listing_from cookie count attributes =
    Op.ReadDir (record { cookie = cookie; cookieverf = replicate 8 0; dircount = count; maxcount = count; attr_request = attributes })
