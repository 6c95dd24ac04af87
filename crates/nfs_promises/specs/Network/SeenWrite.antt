-- A write that is seen, worked by hand (RFC 8881 sections 2.10.6, 18.13, 18.16, 18.22, 18.32 and 18.46). To a new server of
-- instance 7 comes a client `A`, which makes a session and the file `f`, and writes four bytes to it on slot 1. The reply does not reach it; it
-- sends the write again, with another highest slot, and accepts what comes. Then a client `B` comes, makes a session, and reads the file on slot 1 of that; a packet of the
-- write reaches the server once more before the read does. B is answered the four bytes. Both go by SEQUENCE's result, and each call has one xid.
use Rattle.std.specs.Prelude.{◌≡◌, ℕ, ◌+◌, ◌*◌, ◌^◌, List, [], ◌∷◌, ◌++◌, map, Option, None, take, drop}
use Rattle.nfs_compound.specs.declared.op.Op.{Op}
use Rattle.nfs_names.specs.Context.{anonymous}
use Rattle.nfs_promises.specs.Runs.{Requests.{words, exchange_id, create_session, on_slot, unchecked, opening_by, reading, writing}, Started.usual}
use Rattle.nfs_promises.specs.Network.{Endpoint.{Place, Compound, Answer, Arrival, Server, ran}, ExactlyOnce.{Callers, Packet, RanCompound, NetworkEvent}}
use Rattle.nfs_promises.specs.Network.{ExactlyOnce.{Sends, Resends, Arrives, Asks, Accepts, Network, begins, ended}, ByNumber.Happens, ThisServer.server}
use Rattle.nfs_promises.specs.Network.{LostReply.{call, with_highest}, PerfectWire.{wire, done_on, IsAsOverAWire}, RealTime.RunsBehind}

abbrev pub arrival : (now : ℕ) → List ℕ → Arrival
arrival now bytes = record { bytes = bytes; now = now; choice = None }

abbrev pub makes : List Op
makes = Op.PutRootFh ∷ opening_by (0x6f ∷ []) 3 0 unchecked (0x66 ∷ []) ∷ []

abbrev pub writes : List Op
writes = Op.PutRootFh ∷ Op.Lookup (0x66 ∷ []) ∷ writing anonymous 0 (0x73 ∷ 0x65 ∷ 0x65 ∷ 0x6e ∷ []) ∷ []

abbrev pub reads : List Op
reads = Op.PutRootFh ∷ Op.Lookup (0x66 ∷ []) ∷ reading anonymous 0 8 ∷ []

abbrev pub before : List Arrival
before = arrival 100 (call 11 (exchange_id 1 (0x41 ∷ []))) ∷ arrival 101 (call 12 (create_session 1 1)) ∷ arrival 102 (call 13 (on_slot 1 0 2 1 makes)) ∷ []

abbrev pub here : (find : List ℕ → Option Answer) → Server
here find = server find usual

-- slot 1 of the session of a client of instance 7
abbrev pub slot_of : ℕ → Place
slot_of client = record { session = record { client = 7 * 2 ^ 32 + client; counter = client }; slot = 1 }

-- both are caller 8
abbrev pub callers : Callers
callers = record { places = slot_of 1 ∷ slot_of 2 ∷ []; who = λ p. 8 }

-- these arguments but for the highest slot in use
abbrev pub but_highest : List ℕ → List ℕ
but_highest args = take 40 args ++ drop 44 args

abbrev pub write : Compound
write = record { number = 1; uid = 5; args = but_highest (on_slot 1 1 2 1 writes) }

abbrev pub read : Compound
read = record { number = 1; uid = 5; args = but_highest (on_slot 2 1 2 1 reads) }

-- with the highest slot in use as it is sent
abbrev pub packet : (client highest : ℕ) → Compound → Packet
packet client highest c = record {
  bytes = call 16 (with_highest highest c.args);
  heading = record { xid = 16; place = slot_of client; compound = c; highest = highest };
}

-- NFS4_OK, no tag, four operations: SEQUENCE, NFS4_OK, the session, number 1, slot 1, slots to 3, twice, no flags; PUTROOTFH and LOOKUP, NFS4_OK
abbrev pub result : (client : ℕ) → List ℕ → List ℕ
result client last = words (0 ∷ 0 ∷ 4 ∷ 53 ∷ 0 ∷ 7 ∷ client ∷ 0 ∷ client ∷ 1 ∷ 1 ∷ 3 ∷ 3 ∷ 0 ∷ 24 ∷ 0 ∷ 15 ∷ 0 ∷ []) ++ words last

-- WRITE, NFS4_OK, 4 bytes, FILE_SYNC4, and the verifier of instance 7
abbrev pub written : RanCompound
written = record { compound = write; result = result 1 (38 ∷ 0 ∷ 4 ∷ 2 ∷ 7 ∷ 0 ∷ []) }

-- READ, NFS4_OK, to the end of the file, the four bytes `seen`
abbrev pub seen : RanCompound
seen = record { compound = read; result = result 2 (25 ∷ 0 ∷ 1 ∷ 4 ∷ 0x7365_656e ∷ []) }

abbrev pub accepts : (client : ℕ) → RanCompound → NetworkEvent
accepts client d = Accepts (slot_of client) d.compound (record { xid = 16; result = d.result })

abbrev pub first : List NetworkEvent
first = Sends (packet 1 1 write) ∷ Arrives (packet 1 1 write) 105 None ∷ Resends (packet 1 3 write) ∷ Arrives (packet 1 3 write) 106 None ∷ accepts 1 written ∷ []

abbrev pub joins : List Arrival
joins = arrival 107 (call 16 (exchange_id 1 (0x42 ∷ []))) ∷ arrival 108 (call 16 (create_session 2 1)) ∷ []

abbrev pub second : List NetworkEvent
second =
    map (Asks 8) joins
    ++ (Sends (packet 2 1 read) ∷ Arrives (packet 1 1 write) 109 None ∷ Arrives (packet 2 1 read) 110 None ∷ accepts 2 seen ∷ [])

abbrev pub outset : (find : List ℕ → Option Answer) → Network (here find)
outset find = begins (here find) (ran (here find) (here find).new before)

-- what a perfect wire brings for these events: each compound once, at the moment at which it was taken
abbrev pub brought : List Arrival
brought = arrival 105 (packet 1 1 write).bytes ∷ joins ++ arrival 110 (packet 2 1 read).bytes ∷ []

-- These events may happen, and so meet the premises of `as_over_a_wire` and `atomic_in_real_time`. The wire brings each compound once, and the read
-- runs after the write.
pub record IsSeen (find : List ℕ → Option Answer) : Type 0 where
  pub happens : Happens callers (outset find).machine (outset find) (first ++ second)
  pub accepted : ((ended callers (outset find) (first ++ second)).lines (slot_of 2)).accepted ≡ seen ∷ []
  pub brings : wire (here find) (outset find).machine (first ++ second) ≡ brought
  pub answers : done_on (here find) (slot_of 2) (outset find).machine brought ≡ seen ∷ []
  pub alike : IsAsOverAWire (here find) (outset find).machine callers (first ++ second)
  pub order : RunsBehind (here find) (outset find).machine brought (slot_of 1) written (slot_of 2) read
