-- A reply that is lost, worked by hand (RFC 8881 sections 2.10.6.1, 18.35, 18.36 and 18.46). To a new server of
-- instance 7 come EXCHANGE_ID and CREATE_SESSION of the owner `A`. Its caller sends two compounds on slot 1 of the session, each a SEQUENCE
-- alone. The reply to the second does not reach it; it sends that one again, under another xid and with another highest slot, and accepts what
-- comes.
use Rattle.std.specs.Prelude.{◌≡◌, ℕ, ◌+◌, ◌*◌, ◌^◌, ◌==◌, if◌then◌else◌, List, [], ◌∷◌, ◌++◌, Option, None, take, drop}
use Rattle.nfs_promises.specs.{Runs.{Requests.{exchange_id, create_session, words}, Started.usual}, Network.Endpoint.{Place, Compound, Answer, Arrival, Server}}
use Rattle.nfs_promises.specs.Network.{Endpoint.ran, ExactlyOnce.{Callers, Packet, RanCompound, NetworkEvent, Sends, Resends, Arrives, Accepts, Schedule}}
use Rattle.nfs_promises.specs.Network.{ExactlyOnce.{IsUnused, Network, begins, ended}, ThisServer.server, PerfectWire.{wire, done_on, IsAsOverAWire}}
use Rattle.nfs_promises.specs.Network.RealTime.{RunsBehind}

-- a call of COMPOUND under AUTH_SYS: stamp 3, a machine with no name, uid 5, gid 6, no other group
abbrev pub call : ℕ → List ℕ → List ℕ
call xid args = words (xid ∷ 0 ∷ 2 ∷ 100003 ∷ 4 ∷ 1 ∷ 1 ∷ 20 ∷ 3 ∷ 0 ∷ 5 ∷ 6 ∷ 0 ∷ 0 ∷ 0 ∷ []) ++ args

abbrev pub before : List Arrival
before = record { bytes = call 1 (exchange_id 1 (0x41 ∷ [])); now = 100; choice = None } ∷ record { bytes = call 2 (create_session 1 1); now = 101; choice = None } ∷ []

abbrev pub here : (find : List ℕ → Option Answer) → Server
here find = server find usual

-- session 1, of client 1 of instance 7: its id spells the words 7, 1, 0, 1
abbrev pub place : Place
place = record { session = record { client = 7 * 2 ^ 32 + 1; counter = 1 }; slot = 1 }

abbrev pub callers : Callers
callers = record { places = place ∷ []; who = λ p. 9 }

-- SEQUENCE of the session with a number, on slot 1, but for the highest slot in use; nothing need be kept
abbrev pub compound : ℕ → Compound
compound number = record { number = number; uid = 5; args = words (0 ∷ 1 ∷ 1 ∷ 53 ∷ 7 ∷ 1 ∷ 0 ∷ 1 ∷ number ∷ 1 ∷ 0 ∷ []) }

-- and with that
abbrev pub with_highest : ℕ → List ℕ → List ℕ
with_highest highest args = take 40 args ++ (words (highest ∷ []) ++ drop 40 args)

-- the highest slot in use as a call is sent: 3 under xid 5, else 2
abbrev pub highest_by : (xid : ℕ) → ℕ
highest_by xid = if xid == 5 then 3 else 2

abbrev pub packet : (xid number : ℕ) → Packet
packet xid number = record {
  bytes = call xid (with_highest (highest_by xid) (compound number).args);
  heading = record { xid = xid; place = place; compound = compound number; highest = highest_by xid };
}

-- NFS4_OK, no tag, one operation: SEQUENCE, NFS4_OK, the session, the number, slot 1, slots to 3, twice, no flags
abbrev pub answer : (xid number : ℕ) → Answer
answer xid number = record { xid = xid; result = words (0 ∷ 0 ∷ 1 ∷ 53 ∷ 0 ∷ 7 ∷ 1 ∷ 0 ∷ 1 ∷ number ∷ 1 ∷ 3 ∷ 3 ∷ 0 ∷ []) }

abbrev pub first : List NetworkEvent
first = Sends (packet 3 1) ∷ Arrives (packet 3 1) 102 None ∷ Accepts place (compound 1) (answer 3 1) ∷ []

abbrev pub second : List NetworkEvent
second = Sends (packet 4 2) ∷ Arrives (packet 4 2) 103 None ∷ Resends (packet 5 2) ∷ Arrives (packet 5 2) 104 None ∷ Accepts place (compound 2) (answer 5 2) ∷ []

abbrev pub outset : (find : List ℕ → Option Answer) → Network (here find)
outset find = begins (here find) (ran (here find) (here find).new before)

abbrev pub done : ℕ → RanCompound
done number = record { compound = compound number; result = (answer 0 number).result }

-- These events may happen; and then each compound was executed once, and its result accepted.
pub record IsAccepted (find : List ℕ → Option Answer) : Type 0 where
  pub unused : IsUnused (here find) (outset find).machine place
  pub schedule : Schedule callers (outset find) (first ++ second)
  pub line : (ended callers (outset find) (first ++ second)).lines place
      ≡ record { sent = compound 1 ∷ compound 2 ∷ []; given_up = 0; executed = done 1 ∷ done 2 ∷ []; accepted = done 1 ∷ done 2 ∷ []; xids = [] }

-- what a perfect wire brings for these events: each compound once, at the moment at which it was taken
abbrev pub brought : List Arrival
brought = record { bytes = (packet 3 1).bytes; now = 102; choice = None } ∷ record { bytes = (packet 4 2).bytes; now = 103; choice = None } ∷ []

-- These events meet the premises of `as_over_a_wire` and `atomic_in_real_time`: the wire brings the second compound once, which was sent twice,
-- and that runs after the first one, whose result was accepted before.
pub record IsOverAWire (find : List ℕ → Option Answer) : Type 0 where
  pub brings : wire (here find) (outset find).machine (first ++ second) ≡ brought
  pub answers : done_on (here find) place (outset find).machine brought ≡ done 1 ∷ done 2 ∷ []
  pub alike : IsAsOverAWire (here find) (outset find).machine callers (first ++ second)
  pub order : RunsBehind (here find) (outset find).machine brought place (done 1) place (compound 2)
