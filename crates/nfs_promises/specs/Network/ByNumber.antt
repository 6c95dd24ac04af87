-- The same network for callers that go by SEQUENCE's result (RFC 8881 section 18.46): a caller accepts a reply that bears the session, the slot and the
-- number of the compound that waits there, whatever its xid and whomever it was sent to. So xids are as callers like, but where one sent two compounds under
-- a number. And a slot may come on the way: it is unused at the beginning, or when its caller sends its first compound.
use Rattle.std.specs.Prelude.{◌≡◌, ◌⊎◌, ◌<◌, ◌^◌, ℕ, true, List, [], ◌∷◌, Option, Some, None, ⊤}
use Rattle.nfs_xdr.specs.{Text.IsBytes, Tables.In}
use Rattle.nfs_promises.specs.Network.{Endpoint.{Place, Heading, Compound, Answer, Server, Arrival, ran}, ExactlyOnce.{Callers, Packet, Network, NetworkEvent}}
use Rattle.nfs_promises.specs.Network.ExactlyOnce.{Sends, Resends, Arrives, Asks, Intrudes, Accepts, after, IsNext, IsLast, IsForeign, Schedule, IsUnused}
use Rattle.nfs_promises.specs.Network.ExactlyOnce.{begins, ended, IsExact}

-- A caller sends a compound on a slot, under a number below 2^32, and the first one only on a slot that took no request yet, at the beginning or by now.
pub record CanSend (s : Server) (callers : Callers) (outset : s.State) (net : Network s) (p : Packet) : Type 0 where
  pub bytes : IsBytes p.bytes
  pub reads : s.heading p.bytes ≡ Some p.heading
  pub place : In p.heading.place callers.places
  pub ready : (net.lines p.heading.place).sent ≡ [] → IsUnused s outset p.heading.place ⊎ IsUnused s net.machine p.heading.place
  pub next : IsNext (net.lines p.heading.place) p.heading.compound
  pub small : p.heading.compound.number < 2 ^ 32

-- It sends again the compound that waits there: with the same number, user and argument bytes, but for sa_highest_slotid.
pub record CanResend (s : Server) (callers : Callers) (net : Network s) (p : Packet) : Type 0 where
  pub bytes : IsBytes p.bytes
  pub reads : s.heading p.bytes ≡ Some p.heading
  pub place : In p.heading.place callers.places
  pub waits : (net.lines p.heading.place).xids ≡ [] → ⊥
  pub last : IsLast p.heading.compound (net.lines p.heading.place).sent

-- A caller accepts a reply, whomever it was sent to, that bears the slot and the number of the compound that waits there. If it sent another one there under
-- that number, it goes by the xid too: whom the reply was sent to used it for this compound alone.
pub record CanAccept (s : Server) (callers : Callers) (net : Network s) (p : Place) (compound : Compound) (a : Answer) : Type 0 where
  pub place : In p callers.places
  pub caller : ℕ
  pub sent : In (record { caller = caller; answer = a }) net.replies
  pub waits : (net.lines p).xids ≡ [] → ⊥
  pub last : IsLast compound (net.lines p).sent
  pub numbered : s.Bears a.result (record { place = p; number = compound.number })
  pub own : ((d : Compound) → In d (net.lines p).sent → d.number ≡ compound.number → d ≡ compound)
      ⊎ ((q : Packet) → In q net.packets → callers.who q.heading.place ≡ caller → q.heading.xid ≡ a.xid → q.heading.compound ≡ compound)

abbrev pub Can : {s : Server} → Callers → s.State → Network s → NetworkEvent → Type 0
Can {s} callers outset net (Sends p) = CanSend s callers outset net p
Can {s} callers outset net (Resends p) = CanResend s callers net p
Can callers outset net (Arrives p now choice) = In p net.packets
Can {s} callers outset net (Asks caller a) = IsBytes a.bytes × (s.heading a.bytes ≡ None)
Can {s} callers outset net (Intrudes a) = IsForeign s callers a.bytes
Can {s} callers outset net (Accepts p compound a) = CanAccept s callers net p compound a

-- the events are such ones, each in the network that those before it leave
abbrev pub Happens : {s : Server} → Callers → s.State → Network s → List NetworkEvent → Type 0
Happens callers outset net [] = ⊤
Happens callers outset net (e ∷ more) = Can callers outset net e × Happens callers outset (after callers net e) more

-- After any records to a new server, for any callers, and any such events: on each slot of a caller.
abbrev pub ExactlyOnceByNumber : Server → Type 0
ExactlyOnceByNumber s =
    (before : List Arrival) (callers : Callers) (events : List NetworkEvent)
    → Happens callers (ran s s.new before) (begins s (ran s s.new before)) events
    → (p : Place) → In p callers.places → IsExact ((ended callers (begins s (ran s s.new before)) events).lines p)

-- What executes on a slot is answered under the xid of its call, with a result that bears the slot and the number: its caller may accept it.
abbrev pub AnswersNumbered : Server → Type 0
AnswersNumbered s =
    (m : s.State) (bytes : List ℕ) (now : ℕ) (choice : Option ℕ) (h : Heading)
    → IsBytes bytes → s.heading bytes ≡ Some h → s.executes m bytes now ≡ true
    → (result : List ℕ) × ((s.step m bytes now choice).answer ≡ Some (record { xid = h.xid; result = result }))
    × s.Bears result (record { place = h.place; number = h.compound.number })

-- Callers that go by xids, none of which is of two compounds, and whose slots stand unused at the beginning are such callers: what holds of every
-- such list of events holds of theirs.
abbrev pub XidsSuffice : Server → Type 0
XidsSuffice s =
    (before : List Arrival) (callers : Callers) (events : List NetworkEvent)
    → ((p : Place) → In p callers.places → IsUnused s (ran s s.new before) p)
    → Schedule callers (begins s (ran s s.new before)) events
    → Happens callers (ran s s.new before) (begins s (ran s s.new before)) events
