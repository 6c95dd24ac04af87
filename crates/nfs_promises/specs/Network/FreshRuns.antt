-- A fresh request runs: who sends a slot's next number, on a slot of its session and within what the session lets pass, is not refused (RFC 8881 sections 2.10.6.1,
-- 18.36 and 18.46). What is behind SEQUENCE then runs, and is answered operation by operation, up to the first that fails.
use Rattle.std.specs.Prelude.{◌≡◌, ℕ, ◌≤◌, true, List, length, Some}
use Rattle.nfs_xdr.specs.Text.{IsBytes}
use Rattle.nfs_xdr.specs.Numbers.{next_number}
use Rattle.nfs_rpc.specs.CallHead.{Call, Accepted, call_of}
use Rattle.nfs_compound.specs.Request.{Request}
use Rattle.nfs_sessions.specs.Sessions.{Session, session_at}
use Rattle.nfs_serve.specs.{Step.{ServerState, asked_of}}
use Rattle.nfs_promises.specs.Network.{Endpoint.{Place, Heading, Server, Arrival, stepped, ran}, AnsweredAgain.{AreElsewhere, Stands}}

-- it executes, and is answered under its xid by a result whose SEQUENCE is NFS4_OK and bears the slot and the number
pub record IsRun (s : Server) (m : s.State) (b : Arrival) (g : Heading) : Type 0 where
  pub executes : s.executes m b.bytes b.now ≡ true
  pub result : List ℕ
  pub answer : (stepped s m b).answer ≡ Some (record { xid = g.xid; result = result })
  pub bears : s.Bears result (record { place = g.place; number = g.compound.number })

-- Behind any records to a new server a compound comes with the number behind its slot's, at any moment and wherever memory is refused. The slot stands, and the
-- session lets the record pass. Then it runs.
abbrev pub FreshRuns : (s : Server) → (s.State → Place → List ℕ → Type 0) → Type 0
FreshRuns s Passes =
    (before : List Arrival) (b : Arrival) (g : Heading) → IsBytes b.bytes → s.heading b.bytes ≡ Some g
    → (let m = ran s s.new before in
    (stands : Stands s m g.place g.highest b.now) → g.compound.number ≡ next_number stands.slot.number → Passes (s.tick m b.now) g.place b.bytes → IsRun s m b g)

-- The slot's number is that of the compound that executed there last: so who was answered goes on with the next one.
abbrev pub NextRuns : (s : Server) → (s.State → Place → List ℕ → Type 0) → Type 0
NextRuns s Passes =
    (before : List Arrival) (a : Arrival) (h : Heading) (between : List Arrival) (b : Arrival) (g : Heading)
    → IsBytes a.bytes → s.heading a.bytes ≡ Some h → s.executes (ran s s.new before) a.bytes a.now ≡ true
    → AreElsewhere s (stepped s (ran s s.new before) a).state h.place between
    → IsBytes b.bytes → s.heading b.bytes ≡ Some g → g.place ≡ h.place → g.compound.number ≡ next_number h.compound.number
    → (let m = ran s (stepped s (ran s s.new before) a).state between in
    Stands s m h.place g.highest b.now → Passes (s.tick m b.now) h.place b.bytes → IsRun s m b g)

-- This server lets a record pass: it has no more bytes and declares no more operations than the channel that was granted to the session.
pub record Passes (s : ServerState) (p : Place) (bytes : List ℕ) : Type 0 where
  pub session : Session
  pub there : session_at s.machine.sessions p.session ≡ Some session
  pub short : length bytes ≤ session.channel.maxrequestsize
  pub few : (call : Call) (r : Request) → call_of bytes ≡ Accepted call → asked_of call call.procedure ≡ Some r → r.declared ≤ session.channel.maxoperations
