-- All packets and replies against all slots, through each event.
use Rattle.std.proofs.Common.{◌≡◌, ◌⊎◌, inl, inr, ℕ, Bool, true, false, List, [], ◌∷◌, Option, Some, None, refl, sym, ◌∙◌, ap, subst, arith}
use Rattle.std.proofs.lemmas.Bool.{true≢false}
use Rattle.nfs_xdr.specs.{Text.IsBytes, Tables.In}
use Rattle.nfs_promises.specs.Network.{Endpoint.{Place, Compound, Heading, Answer, SlotNumber, Stepped, Server, Arrival, stepped, ran}, ExactlyOnce.Callers}
use Rattle.nfs_promises.specs.Network.ExactlyOnce.{Packet, Reply, RanCompound, Line, Network, NetworkEvent, Sends, Resends, Arrives, Asks, Intrudes, Accepts}
use Rattle.nfs_promises.specs.Network.ExactlyOnce.{IsLast, with_line, sending, resending, accepting, executing, result_of, with_reply, with_packet, arriving}
use Rattle.nfs_promises.specs.Network.{ExactlyOnce.{after, ended, IsUnused, begins, IsExact}, ByNumber.{CanSend, CanAccept, Can, Happens, ExactlyOnceByNumber}}
use Rattle.nfs_promises.proofs.{Runs.Terms.no_line, Network.{StepLaws.{KeepsSlots, Runs, IsElsewhere, ran_keeps}, CountedLists.{In-front, In-last, In-push, counted_once}}}
use Rattle.nfs_promises.proofs.Network.SlotLines.{updated, Stands, Idle, IsLine, executed_first, accepted_first, line_more, line_leaves, line_sends}
use Rattle.nfs_promises.proofs.Network.SlotLines.{line_resends, line_runs, line_accepts, kept_is_executed}

-- a packet: it reads as it says, and its compound was sent on a slot of a caller
pub record IsPacket (s : Server) (callers : Callers) (lines : Place → Line) (q : Packet) : Type 0 where
  pub bytes : IsBytes q.bytes
  pub reads : s.heading q.bytes ≡ Some q.heading
  pub place : In q.heading.place callers.places
  pub sent : In q.heading.compound (lines q.heading.place).sent

-- a packet that a reply with a good SEQUENCE answers: the result is that of the execution of its compound
pub record Answers (callers : Callers) (lines : Place → Line) (packets : List Packet) (r : Reply) : Type 0 where
  pub packet : Packet
  pub sent : In packet packets
  pub caller : callers.who packet.heading.place ≡ r.caller
  pub xid : packet.heading.xid ≡ r.answer.xid
  pub executed : In (record { compound = packet.heading.compound; result = r.answer.result }) (lines packet.heading.place).executed

abbrev pub IsReply : (s : Server) → Callers → (Place → Line) → List Packet → Reply → Type 0
IsReply s callers lines packets r = s.IsSequenced r.answer.result → Answers callers lines packets r

-- a slot that was unused once, and its line since
pub record Begun (s : Server) (laws : KeepsSlots s) (m : s.State) (packets : List Packet) (l : Line) (p : Place) : Type 0 where
  pub given : laws.Given m p
  pub line : IsLine (s.slot_at m p) packets l p

-- or nothing was sent on it
abbrev pub Stage : (s : Server) → KeepsSlots s → s.State → List Packet → Line → Place → Type 0
Stage s laws m packets l p = Begun s laws m packets l p ⊎ (l ≡ no_line)

-- what was executed bears the slot and its compound's number
abbrev pub Tells : (s : Server) → Line → Place → Type 0
Tells s l p = (d : RanCompound) → In d l.executed → s.Bears d.result (record { place = p; number = d.compound.number })

pub record IsNetwork (s : Server) (laws : KeepsSlots s) (callers : Callers) (outset : s.State) (net : Network s) : Type 0 where
  pub sound : laws.Sound net.machine
  pub stage : (p : Place) → In p callers.places → Stage s laws net.machine net.packets (net.lines p) p
  pub since : (p : Place) → In p callers.places → IsUnused s outset p → Begun s laws net.machine net.packets (net.lines p) p
  pub tells : (p : Place) → In p callers.places → Tells s (net.lines p) p
  pub packets : (q : Packet) → In q net.packets → IsPacket s callers net.lines q
  pub replies : (r : Reply) → In r net.replies → IsReply s callers net.lines net.packets r

-- a slot is begun where it is unused, and where something was sent

begins_here : (s : Server) (laws : KeepsSlots s) (m : s.State) (packets : List Packet) (p : Place) → laws.Sound m → IsUnused s m p → Begun s laws m packets no_line p
begins_here s laws m packets p sound u = record {
  given = laws.stands m p u.0 sound u.1;
  line = record {
    small = omega arith;
    positive = λ c none. absurd none;
    counts = tt;
    was_sent = λ d none. absurd none;
    slot = Stands u.0 u.1 (record { number = u.2; kept = λ used. absurd (true≢false (sym used ∙ u.3)) });
    told = record { part = tt; below = λ c waits. absurd (waits refl) };
    course = λ none. record { counts = tt; course = Idle refl refl refl };
    sent = λ x none. absurd none;
  };
}

begun_by : (s : Server) (laws : KeepsSlots s) (m : s.State) (packets : List Packet) (l : Line) (p : Place) → (l ≡ no_line → ⊥) → Stage s laws m packets l p → Begun s laws m packets l p
begun_by s laws m packets l p some (inl begun) = begun
begun_by s laws m packets l p some (inr none) = absurd (some none)

pub begun_sent : (s : Server) (laws : KeepsSlots s) (m : s.State) (packets : List Packet) (l : Line) (p : Place) (c : Compound) → In c l.sent → Stage s laws m packets l p → Begun s laws m packets l p
begun_sent s laws m packets l p c i stage = begun_by s laws m packets l p (λ none. subst (λ (x : Line). In c x.sent) none i) stage

pub begun_waits : (s : Server) (laws : KeepsSlots s) (m : s.State) (packets : List Packet) (l : Line) (p : Place) → (l.xids ≡ [] → ⊥) → Stage s laws m packets l p → Begun s laws m packets l p
begun_waits s laws m packets l p waits stage = begun_by s laws m packets l p (λ none. waits (ap (λ (x : Line). x.xids) none)) stage

begun_ready : (s : Server) (laws : KeepsSlots s) (callers : Callers) (outset : s.State) (net : Network s) (q : Packet) → IsNetwork s laws callers outset net → CanSend s callers outset net q
    → Begun s laws net.machine net.packets (net.lines q.heading.place) q.heading.place
begun_ready s laws callers outset net q is can = go (is.stage q.heading.place can.place)
  where
    p : Place
    p = q.heading.place

    go : Stage s laws net.machine net.packets (net.lines p) p → Begun s laws net.machine net.packets (net.lines p) p
    go (inl begun) = begun
    go (inr none) = elim (can.ready (ap (λ (x : Line). x.sent) none)) [
      | inl early ↦ is.since p can.place early
      | inr now ↦ subst (λ (x : Line). Begun s laws net.machine net.packets x p) (sym none) (begins_here s laws net.machine net.packets p is.sound now)
    ]

-- what holds of a begun line through a change holds of its stage
staged : (s : Server) (laws : KeepsSlots s) (m n : s.State) (packets more : List Packet) (l : Line) (p : Place)
    → (Begun s laws m packets l p → Begun s laws n more l p) → Stage s laws m packets l p → Stage s laws n more l p
staged s laws m n packets more l p keeps (inl begun) = inl (keeps begun)
staged s laws m n packets more l p keeps (inr none) = inr none

-- a packet more

packet_grows : (s : Server) (callers : Callers) (lines : Place → Line) (k : Place) (l : Line) (q : Packet) → ((c : Compound) → In c (lines k).sent → In c l.sent) → IsPacket s callers lines q → IsPacket s callers (with_line lines k l) q
packet_grows s callers lines k l q grows is = record {
  bytes = is.bytes;
  reads = is.reads;
  place = is.place;
  sent = updated (λ (x : Line). In q.heading.compound x.sent) lines k l q.heading.place
      (λ same. grows q.heading.compound (subst (λ (p : Place). In q.heading.compound (lines p).sent) (sym same) is.sent))
      (λ other. is.sent);
}

reply_grows : (s : Server) (callers : Callers) (lines : Place → Line) (k : Place) (l : Line) (packets more : List Packet) (r : Reply)
    → ((d : RanCompound) → In d (lines k).executed → In d l.executed) → ((q : Packet) → In q packets → In q more)
    → IsReply s callers lines packets r → IsReply s callers (with_line lines k l) more r
reply_grows s callers lines k l packets more r grows wider is good =
    let by = is good in
    record {
      packet = by.packet;
      sent = wider by.packet by.sent;
      caller = by.caller;
      xid = by.xid;
      executed = updated (λ (x : Line). In (record { compound = by.packet.heading.compound; result = r.answer.result }) x.executed) lines k l by.packet.heading.place
          (λ same. grows _ (subst (λ (p : Place). In (record { compound = by.packet.heading.compound; result = r.answer.result }) (lines p).executed) (sym same) by.executed))
          (λ other. by.executed);
    }

-- a line that executes nothing more tells the same
same_tells : (s : Server) (lines : Place → Line) (k : Place) (l : Line) (p : Place) → l.executed ≡ (lines k).executed → Tells s (lines p) p → Tells s (with_line lines k l p) p
same_tells s lines k l p same tells = updated (λ (x : Line). Tells s x p) lines k l p
    (λ e. λ d i. tells d (subst (λ (q : Place). In d (lines q).executed) e (subst (In d) same i))) (λ other. tells)

begun_more : (s : Server) (laws : KeepsSlots s) (m : s.State) (packets : List Packet) (q : Packet) (l : Line) (p : Place) → Begun s laws m packets l p → Begun s laws m (q ∷ packets) l p
begun_more s laws m packets q l p b = record { given = b.given; line = line_more (s.slot_at m p) packets q l p b.line }

with_packet_keeps : (s : Server) (laws : KeepsSlots s) (callers : Callers) (outset : s.State) (net : Network s) (q : Packet) (l : Line)
    → IsBytes q.bytes → s.heading q.bytes ≡ Some q.heading → In q.heading.place callers.places → In q.heading.compound l.sent
    → ((c : Compound) → In c (net.lines q.heading.place).sent → In c l.sent) → l.executed ≡ (net.lines q.heading.place).executed
    → Begun s laws net.machine (q ∷ net.packets) l q.heading.place
    → IsNetwork s laws callers outset net → IsNetwork s laws callers outset (with_packet net q l)
with_packet_keeps s laws callers outset net q l bytes reads place sent grows same begun is = record {
  sound = is.sound;
  stage = λ p i. updated (λ (x : Line). Stage s laws net.machine (q ∷ net.packets) x p) net.lines q.heading.place l p
      (λ e. inl (here p e))
      (λ other. staged s laws net.machine net.machine net.packets (q ∷ net.packets) (net.lines p) p (begun_more s laws net.machine net.packets q (net.lines p) p) (is.stage p i));
  since = λ p i u. updated (λ (x : Line). Begun s laws net.machine (q ∷ net.packets) x p) net.lines q.heading.place l p
      (here p) (λ other. begun_more s laws net.machine net.packets q (net.lines p) p (is.since p i u));
  tells = λ p i. same_tells s net.lines q.heading.place l p same (is.tells p i);
  packets = λ r i. elim i [
    | inl e ↦ subst (IsPacket s callers (with_line net.lines q.heading.place l)) (sym e) (record {
      bytes = bytes;
      reads = reads;
      place = place;
      sent = updated (λ (x : Line). In q.heading.compound x.sent) net.lines q.heading.place l q.heading.place (λ e. sent) (λ other. absurd (other refl));
    })
    | inr old ↦ packet_grows s callers net.lines q.heading.place l r grows (is.packets r old)
  ];
  replies = λ r i. reply_grows s callers net.lines q.heading.place l net.packets (q ∷ net.packets) r (λ d j. subst (In d) (sym same) j) (λ x j. inr j) (is.replies r i);
}
  where
    here : (p : Place) → q.heading.place ≡ p → Begun s laws net.machine (q ∷ net.packets) l p
    here p e = subst (Begun s laws net.machine (q ∷ net.packets) l) e begun

-- the server moves on, and the lines stay
begun_moves : (s : Server) (laws : KeepsSlots s) (m : s.State) (packets : List Packet) (bytes : List ℕ) (now : ℕ) (choice : Option ℕ) (l : Line) (p : Place) → laws.Sound m
    → IsElsewhere s m p bytes now → Begun s laws m packets l p → Begun s laws (s.step m bytes now choice).state packets l p
begun_moves s laws m packets bytes now choice l p sound elsewhere b = record {
  given = laws.stays_given m bytes now choice p b.given;
  line = line_leaves (s.slot_at m p) (s.slot_at (s.step m bytes now choice).state p) packets l p (laws.leaves m bytes now choice p sound b.given elsewhere) b.line;
}

moves : (s : Server) (laws : KeepsSlots s) (callers : Callers) (outset : s.State) (net : Network s) (bytes : List ℕ) (now : ℕ) (choice : Option ℕ) → IsNetwork s laws callers outset net
    → ((p : Place) → In p callers.places → IsElsewhere s net.machine p bytes now)
    → IsNetwork s laws callers outset (record net { machine = (s.step net.machine bytes now choice).state })
moves s laws callers outset net bytes now choice is elsewhere = record {
  sound = laws.step_sound net.machine bytes now choice is.sound;
  stage = λ p i. staged s laws net.machine (s.step net.machine bytes now choice).state net.packets net.packets (net.lines p) p (keeps p i) (is.stage p i);
  since = λ p i u. keeps p i (is.since p i u);
  tells = is.tells;
  packets = is.packets;
  replies = is.replies;
}
  where
    keeps : (p : Place) → In p callers.places → Begun s laws net.machine net.packets (net.lines p) p → Begun s laws (s.step net.machine bytes now choice).state net.packets (net.lines p) p
    keeps p i = begun_moves s laws net.machine net.packets bytes now choice (net.lines p) p is.sound (elsewhere p i)

-- a reply more
replies_more : (s : Server) (callers : Callers) (lines : Place → Line) (packets : List Packet) (replies : List Reply) (caller : ℕ) (answer : Option Answer)
    → ((a : Answer) → answer ≡ Some a → IsReply s callers lines packets (record { caller = caller; answer = a }))
    → ((r : Reply) → In r replies → IsReply s callers lines packets r)
    → (r : Reply) → In r (with_reply caller answer replies) → IsReply s callers lines packets r
replies_more s callers lines packets replies caller None new old r i = old r i
replies_more s callers lines packets replies caller (Some a) new old r (inl e) = subst (IsReply s callers lines packets) (sym e) (new a refl)
replies_more s callers lines packets replies caller (Some a) new old r (inr i) = old r i

with_replies : (s : Server) (laws : KeepsSlots s) (callers : Callers) (outset : s.State) (net : Network s) (caller : ℕ) (answer : Option Answer)
    → ((a : Answer) → answer ≡ Some a → IsReply s callers net.lines net.packets (record { caller = caller; answer = a }))
    → IsNetwork s laws callers outset net → IsNetwork s laws callers outset (record net { replies = with_reply caller answer net.replies })
with_replies s laws callers outset net caller answer new is = record {
  sound = is.sound;
  stage = is.stage;
  since = is.since;
  tells = is.tells;
  packets = is.packets;
  replies = replies_more s callers net.lines net.packets net.replies caller answer new is.replies;
}

-- the server executes a packet
executes_on : (s : Server) (laws : KeepsSlots s) (callers : Callers) (outset : s.State) (net : Network s) (q : Packet) (now : ℕ) (choice : Option ℕ) → IsNetwork s laws callers outset net → In q net.packets → s.executes net.machine q.bytes now ≡ true
    → IsNetwork s laws callers outset (record net {
      machine = (s.step net.machine q.bytes now choice).state;
      lines = with_line net.lines q.heading.place (executing (net.lines q.heading.place) q.heading.compound (s.step net.machine q.bytes now choice).answer);
    })
executes_on s laws callers outset net q now choice is i executes = record {
  sound = laws.step_sound net.machine q.bytes now choice is.sound;
  stage = λ p j. updated (λ (x : Line). Stage s laws step.state net.packets x p) net.lines k new p
      (λ e. inl (here p e)) (λ other. staged s laws net.machine step.state net.packets net.packets (net.lines p) p (elsewhere p other) (is.stage p j));
  since = λ p j u. updated (λ (x : Line). Begun s laws step.state net.packets x p) net.lines k new p (here p) (λ other. elsewhere p other (is.since p j u));
  tells = λ p j. updated (λ (x : Line). Tells s x p) net.lines k new p (tells_here p) (λ other. is.tells p j);
  packets = λ r j. packet_grows s callers net.lines k new r (λ c n. n) (is.packets r j);
  replies = λ r j. reply_grows s callers net.lines k new net.packets net.packets r (λ d n. In-front d l.executed _ n) (λ x n. n) (is.replies r j);
}
  where
    step : Stepped s.State
    step = s.step net.machine q.bytes now choice

    k : Place
    k = q.heading.place

    l : Line
    l = net.lines k

    new : Line
    new = executing l q.heading.compound step.answer

    packet : IsPacket s callers net.lines q
    packet = is.packets q i

    runs : Runs s net.machine q.heading step
    runs = laws.runs net.machine q.bytes now choice q.heading packet.bytes is.sound packet.reads executes

    begun : Begun s laws net.machine net.packets l k
    begun = begun_sent s laws net.machine net.packets l k q.heading.compound packet.sent (is.stage k packet.place)

    here : (p : Place) → k ≡ p → Begun s laws step.state net.packets new p
    here p e = subst (Begun s laws step.state net.packets new) e (record {
      given = laws.stays_given net.machine q.bytes now choice k begun.given;
      line = line_runs s net.machine step net.packets l q.heading packet.sent runs begun.line;
    })

    some_of : Option Heading → Heading → Heading
    some_of None d = d
    some_of (Some x) d = x

    heading_place : (h : Heading) → Some q.heading ≡ Some h → k ≡ h.place
    heading_place h e = ap (λ (o : Option Heading). (some_of o h).place) e

    elsewhere : (p : Place) → (k ≡ p → ⊥) → Begun s laws net.machine net.packets (net.lines p) p → Begun s laws step.state net.packets (net.lines p) p
    elsewhere p other = begun_moves s laws net.machine net.packets q.bytes now choice (net.lines p) p is.sound (λ h reads _ at. other (heading_place h (sym packet.reads ∙ reads) ∙ at))

    bears : s.Bears (result_of step.answer) (record { place = k; number = q.heading.compound.number })
    bears = subst (λ (result : List ℕ). s.Bears result (record { place = k; number = q.heading.compound.number })) (sym (ap result_of runs.answer)) runs.numbered

    tells_here : (p : Place) → k ≡ p → Tells s new p
    tells_here p e = subst (Tells s new) e (λ d n. elim (In-push d l.executed (record { compound = q.heading.compound; result = result_of step.answer }) n) [
      | inl old ↦ is.tells k packet.place d old
      | inr same ↦ subst (λ (d : RanCompound). s.Bears d.result (record { place = k; number = d.compound.number })) (sym same) bears
    ])

arriving_keeps : (s : Server) (laws : KeepsSlots s) (callers : Callers) (outset : s.State) (net : Network s) (q : Packet) (now : ℕ) (choice : Option ℕ) → IsNetwork s laws callers outset net → In q net.packets
    → (b : Bool) → s.executes net.machine q.bytes now ≡ b → IsNetwork s laws callers outset (arriving callers net q.heading b (s.step net.machine q.bytes now choice))
arriving_keeps s laws callers outset net q now choice is i true executes =
    let step : Stepped s.State = s.step net.machine q.bytes now choice in
    let packet = is.packets q i in
    let l : Line = executing (net.lines q.heading.place) q.heading.compound step.answer in
    with_replies s laws callers outset (record net { machine = step.state; lines = with_line net.lines q.heading.place l }) (callers.who q.heading.place) step.answer
    (λ a e good. record {
      packet = q;
      sent = i;
      caller = refl;
      xid = sym (laws.same_xid net.machine q.bytes now choice q.heading a packet.bytes packet.reads e);
      executed = updated (λ (x : Line). In (record { compound = q.heading.compound; result = a.result }) x.executed) net.lines q.heading.place l q.heading.place
          (λ same. subst (λ (r : List ℕ). In (record { compound = q.heading.compound; result = r }) l.executed) (ap result_of e) (In-last (net.lines q.heading.place).executed (record { compound = q.heading.compound; result = result_of step.answer })))
          (λ other. absurd (other refl));
    })
    (executes_on s laws callers outset net q now choice is i executes)
arriving_keeps s laws callers outset net q now choice is i false idle =
    let step : Stepped s.State = s.step net.machine q.bytes now choice in
    let packet = is.packets q i in
    let k = q.heading.place in
    let begun = begun_sent s laws net.machine net.packets (net.lines k) k q.heading.compound packet.sent (is.stage k packet.place) in
    with_replies s laws callers outset (record net { machine = step.state }) (callers.who k) step.answer
    (λ a e good. record {
      packet = q;
      sent = i;
      caller = refl;
      xid = sym (laws.same_xid net.machine q.bytes now choice q.heading a packet.bytes packet.reads e);
      executed = kept_is_executed s net.machine net.packets (net.lines k) q.heading a.result
          (laws.repeats net.machine q.bytes now choice q.heading a packet.bytes is.sound packet.reads idle e good) begun.line;
    })
    (moves s laws callers outset net q.bytes now choice is (λ p j h reads executes at. true≢false (sym executes ∙ idle)))

last_in : (c : Compound) (cs : List Compound) → IsLast c cs → In c cs
last_in c cs last = subst (In c) (sym last.1) (In-last last.0 c)

-- a caller accepts: what bears the slot and the number of the compound that waits is the result of its execution

abbrev bearing : Place → ℕ → SlotNumber
bearing p number = record { place = p; number = number }

pub accepted_here : (s : Server) (laws : KeepsSlots s) (callers : Callers) (outset : s.State) (net : Network s) (p : Place) (c : Compound) (a : Answer) → IsNetwork s laws callers outset net → CanAccept s callers net p c a
    → In (record { compound = c; result = a.result }) (net.lines p).executed
accepted_here s laws callers outset net p c a is can =
    subst (λ (x : Compound). In (record { compound = x; result = a.result }) l.executed) same there
  where
    l : Line
    l = net.lines p

    begun : Begun s laws net.machine net.packets l p
    begun = begun_waits s laws net.machine net.packets l p can.waits (is.stage p can.place)

    by : Answers callers net.lines net.packets (record { caller = can.caller; answer = a })
    by = is.replies _ can.sent (laws.well_numbered a.result _ can.numbered)

    d : Compound
    d = by.packet.heading.compound

    k : Place
    k = by.packet.heading.place

    bears : bearing k d.number ≡ bearing p c.number
    bears = laws.one_number a.result _ _ (is.tells k (is.packets by.packet by.sent).place (record { compound = d; result = a.result }) by.executed) can.numbered

    same_place : k ≡ p
    same_place = ap (λ (n : SlotNumber). n.place) bears

    same_number : d.number ≡ c.number
    same_number = ap (λ (n : SlotNumber). n.number) bears

    there : In (record { compound = d; result = a.result }) l.executed
    there = subst (λ (x : Place). In (record { compound = d; result = a.result }) (net.lines x).executed) same_place by.executed

    same : d ≡ c
    same = elim can.own [
      | inl one ↦ one d (begun.line.was_sent (record { compound = d; result = a.result }) there) same_number
      | inr one ↦ one by.packet by.sent by.caller by.xid
    ]

accepting_keeps : (s : Server) (laws : KeepsSlots s) (callers : Callers) (outset : s.State) (net : Network s) (p : Place) (c : Compound) (a : Answer) → IsNetwork s laws callers outset net → CanAccept s callers net p c a
    → IsNetwork s laws callers outset (record net { lines = with_line net.lines p (accepting (net.lines p) (record { compound = c; result = a.result })) })
accepting_keeps s laws callers outset net p c a is can = record {
  sound = is.sound;
  stage = λ k i. updated (λ (x : Line). Stage s laws net.machine net.packets x k) net.lines p new k (λ e. inl (here k e)) (λ other. is.stage k i);
  since = λ k i u. updated (λ (x : Line). Begun s laws net.machine net.packets x k) net.lines p new k (here k) (λ other. is.since k i u);
  tells = λ k i. same_tells s net.lines p new k refl (is.tells k i);
  packets = λ r i. packet_grows s callers net.lines p new r (λ d j. j) (is.packets r i);
  replies = λ r i. reply_grows s callers net.lines p new net.packets net.packets r (λ d j. j) (λ x j. j) (is.replies r i);
}
  where
    l : Line
    l = net.lines p

    done : RanCompound
    done = record { compound = c; result = a.result }

    new : Line
    new = accepting l done

    begun : Begun s laws net.machine net.packets l p
    begun = begun_waits s laws net.machine net.packets l p can.waits (is.stage p can.place)

    here : (k : Place) → p ≡ k → Begun s laws net.machine net.packets new k
    here k e = subst (Begun s laws net.machine net.packets new) e (record {
      given = begun.given;
      line = line_accepts (s.slot_at net.machine p) net.packets l p done can.waits can.last (accepted_here s laws callers outset net p c a is can) begun.line;
    })

-- each event
pub event_keeps : (s : Server) (laws : KeepsSlots s) (callers : Callers) (outset : s.State) (net : Network s) (e : NetworkEvent) → IsNetwork s laws callers outset net → Can callers outset net e → IsNetwork s laws callers outset (after callers net e)
event_keeps s laws callers outset net (Sends q) is can =
    let l = net.lines q.heading.place in
    let begun = begun_ready s laws callers outset net q is can in
    with_packet_keeps s laws callers outset net q (sending l q.heading) can.bytes can.reads can.place (In-last l.sent q.heading.compound) (λ c i. In-front c l.sent (q.heading.compound ∷ []) i) refl
    (record { given = begun.given; line = line_sends (s.slot_at net.machine q.heading.place) net.packets q l can.next can.small begun.line }) is
event_keeps s laws callers outset net (Resends q) is can =
    let l = net.lines q.heading.place in
    let begun = begun_waits s laws net.machine net.packets l q.heading.place can.waits (is.stage q.heading.place can.place) in
    with_packet_keeps s laws callers outset net q (resending l q.heading) can.bytes can.reads can.place (last_in q.heading.compound l.sent can.last) (λ c i. i) refl
    (record { given = begun.given; line = line_resends (s.slot_at net.machine q.heading.place) net.packets q l can.waits can.last begun.line }) is
event_keeps s laws callers outset net (Arrives q now choice) is can = arriving_keeps s laws callers outset net q now choice is can (s.executes net.machine q.bytes now) refl
event_keeps s laws callers outset net (Asks caller a) is lone =
    with_replies s laws callers outset (record net { machine = (stepped s net.machine a).state }) caller (stepped s net.machine a).answer
    (λ x e good. absurd (laws.no_sequence net.machine a.bytes a.now a.choice x lone.0 lone.1 e good))
    (moves s laws callers outset net a.bytes a.now a.choice is (λ p i h reads executes at. none_is_some h (sym lone.1 ∙ reads)))
  where
    none_is_some : (h : Heading) → None ≡ Some h → ⊥
    none_is_some h e = cc
event_keeps s laws callers outset net (Intrudes a) is foreign = moves s laws callers outset net a.bytes a.now a.choice is (λ p i h reads executes at. foreign h reads (subst (λ (x : Place). In x callers.places) (sym at) i))
event_keeps s laws callers outset net (Accepts p c a) is can = accepting_keeps s laws callers outset net p c a is can

pub events_keep : (s : Server) (laws : KeepsSlots s) (callers : Callers) (outset : s.State) (net : Network s) (events : List NetworkEvent) → IsNetwork s laws callers outset net → Happens callers outset net events → IsNetwork s laws callers outset (ended callers net events)
events_keep s laws callers outset net [] is can = is
events_keep s laws callers outset net (e ∷ more) is can = events_keep s laws callers outset (after callers net e) more (event_keeps s laws callers outset net e is can.0) can.1

-- the beginning, and the end

pub begins_is : (s : Server) (laws : KeepsSlots s) (callers : Callers) (before : List Arrival) → (let m : s.State = ran s s.new before in IsNetwork s laws callers m (begins s m))
begins_is s laws callers before =
    let m : s.State = ran s s.new before in
    let sound : laws.Sound m = ran_keeps s laws.Sound laws.step_sound s.new before laws.new_sound in
    record {
      sound = sound;
      stage = λ p i. inr refl;
      since = λ p i u. begins_here s laws m [] p sound u;
      tells = λ p i d none. absurd none;
      packets = λ q none. absurd none;
      replies = λ r none. absurd none;
    }

pub exact : (s : Server) (laws : KeepsSlots s) (m : s.State) (packets : List Packet) (l : Line) (p : Place) → Stage s laws m packets l p → IsExact l
exact s laws m packets l p (inl begun) =
    let is = begun.line in
    record {
      once = λ number. counted_once 1 number l.executed is.counts;
      sent = is.was_sent;
      numbers = is.counts;
      told = is.told.part;
      whole = λ none. (let course = (is.course none).course in record { in_order = executed_first l course; told = accepted_first l course });
    }
exact s laws m packets l p (inr none) = subst IsExact (sym none) (record {
  once = λ number. omega arith;
  sent = λ d none. absurd none;
  numbers = tt;
  told = tt;
  whole = λ none. record { in_order = ([], refl); told = ([], refl) };
})

pub exactly_once_by_number : (s : Server) → KeepsSlots s → ExactlyOnceByNumber s
exactly_once_by_number s laws before callers events can p i =
    let m : s.State = ran s s.new before in
    let is = events_keep s laws callers m (begins s m) events (begins_is s laws callers before) can in
    exact s laws _ _ _ p (is.stage p i)
