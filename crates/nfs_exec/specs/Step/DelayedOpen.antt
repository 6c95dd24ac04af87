-- An OPEN that gets no memory, worked by hand in words of four bytes (RFC 8881 sections 2.10.6.1, 15.1.1.3 and 18.16). To a new server of
-- instance 7, whose leases last 90 seconds, comes a client `A`, which makes a session. Under number 1 of slot 0 it opens the file `f`, which is
-- to be made, and memory is refused; it sends the same request again; and then it asks under number 2.
use Rattle.std.specs.Prelude.{◌≡◌, ℕ, ◌+◌, ◌*◌, ◌^◌, false, List, [], ◌∷◌, length, map, replicate, flat_map, Option, Some, None}
use Rattle.nfs_xdr.specs.Spelling.{number}
use Rattle.nfs_compound.specs.{declared.channel_attrs.ChannelAttrs.ChannelAttrs, declared.op.Op.Op, declared.op.Item.TheVariants.Operation}
use Rattle.nfs_compound.specs.{declared.open_args.OpenHow.TheVariants.Create, declared.open_args.CreateHow.TheVariants.Exclusive}
use Rattle.nfs_compound.specs.{declared.open_args.OpenClaim.TheVariants.Null, Request.Request}
use Rattle.nfs_tree.specs.{Limits.usual_limits, declared.profile.Profile.TheVariants.Exact}
use Rattle.nfs_names.specs.{Crowd.usual_crowd, ServerOwner.usual_owner}
use Rattle.nfs_exec.specs.{Step.Machine.{Machine, starts}, Step.Compound.{Answered, compound}}

abbrev pub words : List ℕ → List ℕ
words xs = flat_map number xs

-- a request without a tag; of its bytes it matters only which requests have the same
abbrev pub request : ℕ → List Op → Request
request n ops = record { bytes = number n; tag = []; minor = 1; declared = length ops; left = map Operation ops }

-- at a moment, in a record of 200 bytes
abbrev pub asked : Machine → (now : ℕ) → Option ℕ → Request → Answered
asked m now choice r = compound m r (record { uid = 5; gid = 6; gids = [] }) 200 now choice

abbrev pub exchanges : Op
exchanges = Op.ExchangeId (record { verifier = replicate 8 1; ownerid = 0x41 ∷ []; flags = 0; impl_id = None })

abbrev pub channel : ChannelAttrs
channel = record {
  headerpadsize = 0;
  maxrequestsize = 4096;
  maxresponsesize = 4100;
  maxresponsesize_cached = 2052;
  maxoperations = 8;
  maxrequests = 4;
  rdma_ird = None;
}

abbrev pub begins_session : Op
begins_session = Op.CreateSession (record {
  clientid = 7 * 2 ^ 32 + 1;
  sequence = 1;
  flags = 0;
  fore_chan_attrs = channel;
  back_chan_attrs = channel;
  cb_program = 0;
  sec_parms = [];
})

-- SEQUENCE with this number on slot 0 of session 1 of client 1; PUTROOTFH; and OPEN by the open owner `o`, for reading and writing, which denies
-- nothing, of `f`, which is made with a verifier where it is not there
abbrev pub opens : ℕ → Request
opens n = request n (Op.Sequence (record { sessionid = words (7 ∷ 1 ∷ 0 ∷ 1 ∷ []); sequenceid = n; slotid = 0; highest_slotid = 0; cachethis = false })
    ∷ Op.PutRootFh
    ∷ Op.Open (record {
      seqid = 0;
      share_access = 3;
      share_deny = 0;
      owner = record { clientid = 0; owner = 0x6f ∷ [] };
      openhow = Create (Exclusive (replicate 8 2));
      claim = Null (0x66 ∷ []);
    })
    ∷ [])

abbrev pub start : Machine
start = (asked (asked (starts (record { mode = 511; instance = 7; lease = 90; limits = usual_limits; profile = Exact; crowd = usual_crowd; owner = usual_owner })) 100 None (request 3 (exchanges ∷ []))).machine 101 None (request 4 (begins_session ∷ []))).machine

abbrev pub first : Answered
first = asked start 102 (Some 2) (opens 1)

abbrev pub again : Answered
again = asked first.machine 103 None (opens 1)

abbrev pub second : Answered
second = asked again.machine 104 None (opens 2)

-- SEQUENCE and PUTROOTFH answer NFS4_OK and OPEN NFS4ERR_DELAY, and nothing was made or opened. The same request is answered with the same
-- bytes, and changes nothing. Number 2 makes and opens the file: open 1, with seqid 1; the change attribute of the root goes from 1 to 2; flags 12,
-- no attributes and no delegation.
pub record IsWorked : Type 0 where
  pub delayed : first.text ≡ words (10008 ∷ 0 ∷ 3 ∷ 53 ∷ 0 ∷ 7 ∷ 1 ∷ 0 ∷ 1 ∷ 1 ∷ 0 ∷ 3 ∷ 3 ∷ 0 ∷ 24 ∷ 0 ∷ 18 ∷ 10008 ∷ [])
  pub store : first.machine.store ≡ start.store
  pub kept : again ≡ first
  pub opened : second.text
      ≡ words (0 ∷ 0 ∷ 3 ∷ 53 ∷ 0 ∷ 7 ∷ 1 ∷ 0 ∷ 1 ∷ 2 ∷ 0 ∷ 3 ∷ 3 ∷ 0 ∷ 24 ∷ 0 ∷ 18 ∷ 0 ∷ 1 ∷ 7 ∷ 0 ∷ 1 ∷ 1 ∷ 0 ∷ 1 ∷ 0 ∷ 2 ∷ 12 ∷ 0 ∷ 0 ∷ [])
