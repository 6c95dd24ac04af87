-- Callers and a server over a network that loses, repeats, delays and reorders, and what is promised there: each compound that is sent on a
-- slot executes at most once (RFC 8881 section 2.10.6).
use Rattle.std.specs.Prelude.{◌≡◌, ◌⊎◌, ℕ, ◌+◌, ◌<◌, ◌≤◌, ◌^◌, ◌==◌, ◌&&◌, max, Bool, true, false, List, [], ◌∷◌, ◌++◌, map, count_by, Option, Some, None, if◌then◌else◌, ⊤}
use Rattle.nfs_xdr.specs.{Text.IsBytes, Tables.In}
use Rattle.nfs_slots.specs.Slot.{SlotState}
use Rattle.nfs_sessions.specs.Laws.{is_id}
use Rattle.nfs_promises.specs.Network.Endpoint.{Place, Heading, Answer, Stepped, Compound, Server, Arrival, stepped, ran}

-- the slots of all callers, and who calls on each: no slot has two callers
pub record Callers : Type 0 where
  pub places : List Place
  pub who : Place → ℕ

-- one sending of a compound: the record, and what it says
pub record Packet : Type 0 where
  pub bytes : List ℕ
  pub heading : Heading

-- a reply that was sent to a caller
pub record Reply : Type 0 where
  pub caller : ℕ
  pub answer : Answer

-- a compound and a result of it
pub record RanCompound : Type 0 where
  pub compound : Compound
  pub result : List ℕ

-- what became of the compounds of a slot, each list in the order in which it happened
pub record Line : Type 0 where
  -- those that its caller sent
  pub sent : List Compound
  -- how many of them it gave up: it sent another one while they waited
  pub given_up : ℕ
  -- those that the server executed, with what it answered to each execution
  pub executed : List RanCompound
  -- those of which the caller accepted a result
  pub accepted : List RanCompound
  -- the xids under which the last one was sent, while it waits for a reply; else none
  pub xids : List ℕ

-- the server, the lines, and all packets and replies that were ever sent
pub record Network (s : Server) : Type 0 where
  pub machine : s.State
  pub lines : Place → Line
  pub packets : List Packet
  pub replies : List Reply

-- What does not happen needs no event: a packet or a reply that is lost, a reply that its caller does not accept.
pub data NetworkEvent : Type 0 where
  -- a caller sends the next compound of a slot, or again the one that waits there
  Sends : Packet → NetworkEvent
  Resends : Packet → NetworkEvent
  -- a packet that was sent reaches the server: for the first time or again, at any moment, and wherever memory is refused
  Arrives : Packet → ℕ → Option ℕ → NetworkEvent
  -- a record of a caller reaches it that is no compound on a slot, as an operation alone is
  Asks : (caller : ℕ) → Arrival → NetworkEvent
  -- a stranger's record reaches it
  Intrudes : Arrival → NetworkEvent
  -- a reply reaches its caller, who accepts it for the compound that waits on a slot
  Accepts : Place → Compound → Answer → NetworkEvent

-- What each event does.

abbrev pub same_place : Place → Place → Bool
same_place p q = is_id p.session q.session && (p.slot == q.slot)

abbrev pub with_line : (Place → Line) → Place → Line → Place → Line
with_line lines p l q = if same_place p q then l else lines q

-- one, where a compound waits
abbrev pub waiting : (xids : List ℕ) → ℕ
waiting [] = 0
waiting (xid ∷ xids) = 1

abbrev pub sending : Line → Heading → Line
sending l h = record l { sent = l.sent ++ h.compound ∷ []; given_up = l.given_up + waiting l.xids; xids = h.xid ∷ [] }

abbrev pub resending : Line → Heading → Line
resending l h = record l { xids = h.xid ∷ l.xids }

abbrev pub accepting : Line → RanCompound → Line
accepting l done = record l { accepted = l.accepted ++ done ∷ []; xids = [] }

abbrev pub result_of : Option Answer → List ℕ
result_of None = []
result_of (Some a) = a.result

abbrev pub executing : Line → Compound → Option Answer → Line
executing l compound answer = record l { executed = l.executed ++ record { compound = compound; result = result_of answer } ∷ [] }

abbrev pub with_reply : ℕ → Option Answer → List Reply → List Reply
with_reply caller None replies = replies
with_reply caller (Some a) replies = record { caller = caller; answer = a } ∷ replies

abbrev pub with_packet : {s : Server} → Network s → Packet → Line → Network s
with_packet net p l = record net { packets = p ∷ net.packets; lines = with_line net.lines p.heading.place l }

abbrev pub arriving : {s : Server} → Callers → Network s → Heading → Bool → Stepped s.State → Network s
arriving callers net h executes step = record net {
  machine = step.state;
  lines = if executes then with_line net.lines h.place (executing (net.lines h.place) h.compound step.answer) else net.lines;
  replies = with_reply (callers.who h.place) step.answer net.replies;
}

abbrev pub after : {s : Server} → Callers → Network s → NetworkEvent → Network s
after callers net (Sends p) = with_packet net p (sending (net.lines p.heading.place) p.heading)
after callers net (Resends p) = with_packet net p (resending (net.lines p.heading.place) p.heading)
after {s} callers net (Arrives p now choice) = arriving callers net p.heading (s.executes net.machine p.bytes now) (s.step net.machine p.bytes now choice)
after {s} callers net (Asks caller a) = record net { machine = (stepped s net.machine a).state; replies = with_reply caller (stepped s net.machine a).answer net.replies }
after {s} callers net (Intrudes a) = record net { machine = (stepped s net.machine a).state }
after callers net (Accepts p compound a) = record net { lines = with_line net.lines p (accepting (net.lines p) (record { compound = compound; result = a.result })) }

-- What callers and strangers keep to. A caller need not stop where its SEQUENCE is refused, and strangers may name its client and session.

-- A caller uses no xid for two compounds, on whatever slots of it: what it sent before under this xid is this compound on this slot.
abbrev pub IsOfOneCompound : Callers → List Packet → Heading → Type 0
IsOfOneCompound callers packets h =
    (q : Packet) → In q packets → callers.who q.heading.place ≡ callers.who h.place → q.heading.xid ≡ h.xid
    → (q.heading.place ≡ h.place) × (q.heading.compound ≡ h.compound)

-- the highest number of these, or 0
abbrev pub top : List Compound → ℕ
top [] = 0
top (c ∷ more) = max c.number (top more)

-- What a caller may send next on a slot, where it gives up the compound that waits, if one does. It numbers them 1, 2 and so on. Or it takes a number that it
-- used, above those of which it accepted a result: for another compound, as to find out whether that number ran, or for one that it gave up.
pub data IsNext (l : Line) (c : Compound) : Type 0 where
  Next : c.number ≡ top l.sent + 1 → IsNext l c
  Instead : 1 ≤ c.number → c.number ≤ top l.sent → ((d : RanCompound) → In d l.accepted → d.compound.number < c.number) → IsNext l c

-- A caller sends a compound on a slot, under a number below 2^32.
pub record MaySend (s : Server) (callers : Callers) (net : Network s) (p : Packet) : Type 0 where
  pub bytes : IsBytes p.bytes
  pub reads : s.heading p.bytes ≡ Some p.heading
  pub place : In p.heading.place callers.places
  pub next : IsNext (net.lines p.heading.place) p.heading.compound
  pub small : p.heading.compound.number < 2 ^ 32
  pub xid : IsOfOneCompound callers net.packets p.heading

-- the compound was the last one sent so far
abbrev pub IsLast : Compound → List Compound → Type 0
IsLast compound sent = (before : List Compound) × (sent ≡ before ++ compound ∷ [])

-- It sends again, under an xid of its own or the same one, the compound that waits there: with the same number, user and argument bytes, but for
-- sa_highest_slotid, which it says anew.
pub record MayResend (s : Server) (callers : Callers) (net : Network s) (p : Packet) : Type 0 where
  pub bytes : IsBytes p.bytes
  pub reads : s.heading p.bytes ≡ Some p.heading
  pub place : In p.heading.place callers.places
  pub outstanding : (net.lines p.heading.place).xids ≡ [] → ⊥
  pub last : IsLast p.heading.compound (net.lines p.heading.place).sent
  pub xid : IsOfOneCompound callers net.packets p.heading

-- strangers keep off the callers' slots: their records are no compounds there
abbrev pub IsForeign : (s : Server) → Callers → List ℕ → Type 0
IsForeign s callers bytes = (h : Heading) → s.heading bytes ≡ Some h → In h.place callers.places → ⊥

-- A caller accepts a reply that was sent to it, that bears an xid of the compound that waits on the slot, and whose SEQUENCE is NFS4_OK.
pub record MayAccept (s : Server) (callers : Callers) (net : Network s) (p : Place) (compound : Compound) (a : Answer) : Type 0 where
  pub place : In p callers.places
  pub sent : In (record { caller = callers.who p; answer = a }) net.replies
  pub last : IsLast compound (net.lines p).sent
  pub xid : In a.xid (net.lines p).xids
  pub sequenced : s.IsSequenced a.result

abbrev pub May : {s : Server} → Callers → Network s → NetworkEvent → Type 0
May {s} callers net (Sends p) = MaySend s callers net p
May {s} callers net (Resends p) = MayResend s callers net p
May callers net (Arrives p now choice) = In p net.packets
May {s} callers net (Asks caller a) = IsBytes a.bytes × (s.heading a.bytes ≡ None)
May {s} callers net (Intrudes a) = IsForeign s callers a.bytes
May {s} callers net (Accepts p compound a) = MayAccept s callers net p compound a

-- the events are such ones, each in the network that those before it leave
abbrev pub Schedule : {s : Server} → Callers → Network s → List NetworkEvent → Type 0
Schedule callers net [] = ⊤
Schedule callers net (e ∷ more) = May callers net e × Schedule callers (after callers net e) more

abbrev pub ended : {s : Server} → Callers → Network s → List NetworkEvent → Network s
ended callers net [] = net
ended callers net (e ∷ more) = ended callers (after callers net e) more

-- The beginning: each slot of a caller stands and took no request yet, and nothing was sent.

abbrev pub IsUnused : (s : Server) → s.State → Place → Type 0
IsUnused s m p = (x : SlotState) × (s.slot_at m p ≡ Some x) × (x.number ≡ 0) × (x.used ≡ false)

abbrev pub begins : (s : Server) → s.State → Network s
begins s m =
    record { machine = m; lines = λ p. record { sent = []; given_up = 0; executed = []; accepted = []; xids = [] }; packets = []; replies = [] }

-- The promise.

abbrev pub is_number : ℕ → RanCompound → Bool
is_number number d = d.compound.number == number

-- the numbers are n, n + 1 and so on
abbrev pub CountUp : ℕ → List Compound → Type 0
CountUp n [] = ⊤
CountUp n (c ∷ more) = (c.number ≡ n) × CountUp (n + 1) more

-- the first ones are some of the others, in their order
abbrev pub IsPart : {X : Type 0} → List X → List X → Type 0
IsPart [] ys = ⊤
IsPart (x ∷ xs) [] = ⊥
IsPart (x ∷ xs) (y ∷ ys) = ((x ≡ y) × IsPart xs ys) ⊎ IsPart (x ∷ xs) ys

-- where none was given up
pub record IsWhole (l : Line) : Type 0 where
  -- those that were executed are the first of those that were sent, in their order
  pub in_order : (rest : List Compound) × (l.sent ≡ map (λ d. d.compound) l.executed ++ rest)
  -- what was accepted are the results of the first executions
  pub told : (rest : List RanCompound) × (l.executed ≡ l.accepted ++ rest)

pub record IsExact (l : Line) : Type 0 where
  -- of the compounds that were sent under a number one was executed at most, and no more than once; so each that was given up ran once or never
  pub once : (number : ℕ) → count_by (is_number number) l.executed ≤ 1
  -- those that were executed were sent, and they bear the numbers 1, 2 and so on
  pub sent : (d : RanCompound) → In d l.executed → In d.compound l.sent
  pub numbers : CountUp 1 (map (λ d. d.compound) l.executed)
  -- what was accepted are results of the executions, in their order, each for its own compound
  pub told : IsPart l.accepted l.executed
  pub whole : l.given_up ≡ 0 → IsWhole l

-- Behind any records to a new server, for any callers whose slots stand unused then, and any schedule: on each slot of a caller.
abbrev pub ExactlyOnce : Server → Type 0
ExactlyOnce s =
    (before : List Arrival) (callers : Callers) (events : List NetworkEvent)
    → ((p : Place) → In p callers.places → IsUnused s (ran s s.new before) p)
    → Schedule callers (begins s (ran s s.new before)) events
    → (p : Place) → In p callers.places → IsExact ((ended callers (begins s (ran s s.new before)) events).lines p)

-- What executes on a slot is answered, under the xid of its call, and its SEQUENCE is NFS4_OK: its caller may accept it.
abbrev pub AnswersExecuted : Server → Type 0
AnswersExecuted s =
    (m : s.State) (bytes : List ℕ) (now : ℕ) (choice : Option ℕ) (h : Heading)
    → IsBytes bytes → s.heading bytes ≡ Some h → s.executes m bytes now ≡ true
    → (result : List ℕ) × ((s.step m bytes now choice).answer ≡ Some (record { xid = h.xid; result = result })) × s.IsSequenced result
