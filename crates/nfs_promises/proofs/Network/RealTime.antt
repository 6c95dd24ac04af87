-- Events that are cut in two: what the first part runs is a front of what the whole runs.
use Rattle.std.proofs.Common.{◌≡◌, ◌⊎◌, inl, inr, Bool, true, false, List, [], ◌∷◌, ◌++◌, refl, sym, ◌∙◌, ap, subst, append_assoc}
use Rattle.std.specs.Prelude.{if◌then◌else◌}
use Rattle.nfs_xdr.specs.Tables.{In}
use Rattle.nfs_promises.specs.Network.{Endpoint.{Place, Compound, Answer, Server, Arrival, stepped, ran}, ExactlyOnce.{Callers, Packet, RanCompound, Line}}
use Rattle.nfs_promises.specs.Network.ExactlyOnce.{Network, NetworkEvent, Sends, Resends, Arrives, Asks, Intrudes, Accepts, with_line, sending, resending}
use Rattle.nfs_promises.specs.Network.{ExactlyOnce.{accepting, executing, arriving, after, ended, begins}, ByNumber.Happens, ExecutingAlone.{taken, alone}}
use Rattle.nfs_promises.specs.Network.{PerfectWire.{reaching, all_reaching, wire, done_by, done_on, IsAsDone, IsAsOverAWire}, RealTime.{sendings, KeepsOrder}}
use Rattle.nfs_promises.specs.Network.RealTime.{Atomic}
use Rattle.nfs_promises.proofs.Network.{StepLaws.{KeepsSlots, KeepsTime}, CountedLists.{In-last, In-push, IsPart-in}, SlotLines.updated}
use Rattle.nfs_promises.proofs.Network.PerfectWire.{as_over_a_wire}

In-either : {X : Type 0} (x : X) (xs ys : List X) → In x (xs ++ ys) → In x xs ⊎ In x ys
In-either x [] ys i = inr i
In-either x (z ∷ zs) ys (inl e) = inl (inl e)
In-either x (z ∷ zs) ys (inr i) = elim (In-either x zs ys i) [ inl h ↦ inl (inr h) | inr h ↦ inr h ]

-- events and records one list behind the other

ended_append : (s : Server) (callers : Callers) (net : Network s) (first later : List NetworkEvent) → ended callers net (first ++ later) ≡ ended callers (ended callers net first) later
ended_append s callers net [] later = refl
ended_append s callers net (e ∷ more) later = ended_append s callers (after callers net e) more later

happens_first : (s : Server) (callers : Callers) (outset : s.State) (net : Network s) (first later : List NetworkEvent) → Happens callers outset net (first ++ later) → Happens callers outset net first
happens_first s callers outset net [] later can = tt
happens_first s callers outset net (e ∷ more) later can = (can.0, happens_first s callers outset (after callers net e) more later can.1)

happens_later : (s : Server) (callers : Callers) (outset : s.State) (net : Network s) (first later : List NetworkEvent) → Happens callers outset net (first ++ later) → Happens callers outset (ended callers net first) later
happens_later s callers outset net [] later can = can
happens_later s callers outset net (e ∷ more) later can = happens_later s callers outset (after callers net e) more later can.1

reaching_append : (first later : List NetworkEvent) → all_reaching (first ++ later) ≡ all_reaching first ++ all_reaching later
reaching_append [] later = refl
reaching_append (e ∷ more) later = ap (λ (rs : List Arrival). reaching e ++ rs) (reaching_append more later) ∙ sym (append_assoc (reaching e) (all_reaching more) (all_reaching later))

alone_append : (s : Server) (m : s.State) (first later : List Arrival) → alone s m (first ++ later) ≡ alone s m first ++ alone s (ran s m first) later
alone_append s m [] later = refl
alone_append s m (a ∷ more) later = go (s.executes m a.bytes a.now) (alone_append s (stepped s m a).state more later)
  where
    front : List Arrival
    front = alone s (stepped s m a).state more

    whole : List Arrival
    whole = alone s (stepped s m a).state (more ++ later)

    back : List Arrival
    back = alone s (ran s (stepped s m a).state more) later

    go : (b : Bool) → whole ≡ front ++ back → (if b then taken s m a ∷ whole else whole) ≡ (if b then taken s m a ∷ front else front) ++ back
    go true e = ap (λ (rs : List Arrival). taken s m a ∷ rs) e
    go false e = e

done_append : (s : Server) (p : Place) (m : s.State) (first later : List Arrival) → done_on s p m (first ++ later) ≡ done_on s p m first ++ done_on s p (ran s m first) later
done_append s p m [] later = refl
done_append s p m (a ∷ more) later =
    ap (λ (ds : List RanCompound). done_by p (s.heading a.bytes) (stepped s m a).answer ++ ds) (done_append s p (stepped s m a).state more later)
    ∙ sym (append_assoc (done_by p (s.heading a.bytes) (stepped s m a).answer) (done_on s p (stepped s m a).state more) (done_on s p (ran s (stepped s m a).state more) later))

-- What was sent on a slot was sent by an event.

record WasSent (q : Place) (c : Compound) (packets : List Packet) : Type 0 where
  packet : Packet
  among : In packet packets
  place : packet.heading.place ≡ q
  compound : packet.heading.compound ≡ c

line_back : (lines : Place → Line) (k : Place) (l : Line) (q : Place) (c : Compound) → In c (with_line lines k l q).sent → ((k ≡ q) × In c l.sent) ⊎ In c (lines q).sent
line_back lines k l q c = updated (λ (x : Line). In c x.sent → ((k ≡ q) × In c l.sent) ⊎ In c (lines q).sent) lines k l q (λ e i. inl (e, i)) (λ other i. inr i)

-- a line that sends nothing more
same_back : (lines : Place → Line) (k : Place) (l : Line) (q : Place) (c : Compound) → l.sent ≡ (lines k).sent → In c (with_line lines k l q).sent → In c (lines q).sent
same_back lines k l q c same i = elim (line_back lines k l q c i) [
  | inl here ↦ subst (λ (p : Place). In c (lines p).sent) here.0 (subst (In c) same here.1)
  | inr there ↦ there
]

event_back : (s : Server) (callers : Callers) (net : Network s) (e : NetworkEvent) (more : List NetworkEvent) (q : Place) (c : Compound)
    → In c ((after callers net e).lines q).sent → In c (net.lines q).sent ⊎ WasSent q c (sendings (e ∷ more))
event_back s callers net (Sends p) more q c i =
    let k = p.heading.place in
    let l = net.lines k in
    elim (line_back net.lines k (sending l p.heading) q c i) [
      | inl here ↦ elim (In-push c l.sent p.heading.compound here.1) [
        | inl old ↦ inl (subst (λ (x : Place). In c (net.lines x).sent) here.0 old)
        | inr same ↦ inr (record { packet = p; among = inl refl; place = here.0; compound = sym same })
      ]
      | inr there ↦ inl there
    ]
event_back s callers net (Resends p) more q c i = inl (same_back net.lines p.heading.place (resending (net.lines p.heading.place) p.heading) q c refl i)
event_back s callers net (Arrives p now choice) more q c i = inl (go (s.executes net.machine p.bytes now) i)
  where
    go : (b : Bool) → In c ((arriving callers net p.heading b (s.step net.machine p.bytes now choice)).lines q).sent → In c (net.lines q).sent
    go true i = same_back net.lines p.heading.place (executing (net.lines p.heading.place) p.heading.compound (s.step net.machine p.bytes now choice).answer) q c refl i
    go false i = i
event_back s callers net (Asks caller a) more q c i = inl i
event_back s callers net (Intrudes a) more q c i = inl i
event_back s callers net (Accepts p d a) more q c i = inl (same_back net.lines p (accepting (net.lines p) (record { compound = d; result = a.result })) q c refl i)

sendings_more : (e : NetworkEvent) (more : List NetworkEvent) (q : Packet) → In q (sendings more) → In q (sendings (e ∷ more))
sendings_more (Sends p) more q i = inr i
sendings_more e more q i = i

ended_back : (s : Server) (callers : Callers) (net : Network s) (events : List NetworkEvent) (q : Place) (c : Compound)
    → In c ((ended callers net events).lines q).sent → In c (net.lines q).sent ⊎ WasSent q c (sendings events)
ended_back s callers net [] q c i = inl i
ended_back s callers net (e ∷ more) q c i = elim (ended_back s callers (after callers net e) more q c i) [
  | inl early ↦ event_back s callers net e more q c early
  | inr late ↦ inr (record { packet = late.packet; among = sendings_more e more late.packet late.among; place = late.place; compound = late.compound })
]

-- an event that accepts sends nothing
sendings_front : (front : List NetworkEvent) (p : Place) (c : Compound) (a : Answer) (q : Packet) → In q (sendings (front ++ Accepts p c a ∷ [])) → In q (sendings front)
sendings_front [] p c a q i = i
sendings_front (Sends r ∷ more) p c a q (inl e) = inl e
sendings_front (Sends r ∷ more) p c a q (inr i) = inr (sendings_front more p c a q i)
sendings_front (e ∷ more) p c a q i = sendings_front more p c a q i

-- a result that is accepted is the last one of its slot
accepted_here : (s : Server) (callers : Callers) (net : Network s) (front : List NetworkEvent) (p : Place) (c : Compound) (a : Answer)
    → In (record { compound = c; result = a.result }) ((ended callers net (front ++ Accepts p c a ∷ [])).lines p).accepted
accepted_here s callers net front p c a =
    subst (λ (n : Network s). In (record { compound = c; result = a.result }) (n.lines p).accepted) (sym (ended_append s callers net front (Accepts p c a ∷ [])))
    (updated (λ (l : Line). In (record { compound = c; result = a.result }) l.accepted) at.lines p (accepting (at.lines p) (record { compound = c; result = a.result })) p
    (λ same. In-last (at.lines p).accepted (record { compound = c; result = a.result })) (λ other. absurd (other refl)))
  where
    at : Network s
    at = ended callers net front

pub keeps_order : (s : Server) → KeepsSlots s → KeepsTime s → (before : List Arrival) (callers : Callers) (events : List NetworkEvent)
    → Happens callers (ran s s.new before) (begins s (ran s s.new before)) events → KeepsOrder s (ran s s.new before) events
keeps_order s slots time before callers events can front middle back p c a sent split new = record {
  front = early;
  back = late;
  order = order;
  first = subst (In told) line.executed (IsPart-in told (net.lines p).accepted (net.lines p).executed line.exact.told (accepted_here s callers (begins s m) front p c a));
  behind = λ d i same. elim (In-either d (done_on s q m early) (done_on s q (ran s m early) late) (subst (In d) (ap (done_on s q m) order ∙ done_append s q m early late) i)) [
    | inl here ↦ absurd (not_yet d here same)
    | inr there ↦ there
  ];
  only = not_yet;
}
  where
    m : s.State
    m = ran s s.new before

    q : Place
    q = sent.heading.place

    told : RanCompound
    told = record { compound = c; result = a.result }

    first : List NetworkEvent
    first = front ++ Accepts p c a ∷ []

    later : List NetworkEvent
    later = middle ++ Sends sent ∷ back

    net : Network s
    net = ended callers (begins s m) first

    early : List Arrival
    early = wire s m first

    late : List Arrival
    late = alone s (ran s m (all_reaching first)) (all_reaching later)

    whole : events ≡ first ++ later
    whole = split ∙ sym (append_assoc front (Accepts p c a ∷ []) later)

    all_happen : Happens callers m (begins s m) (first ++ later)
    all_happen = subst (Happens callers m (begins s m)) whole can

    first_happens : Happens callers m (begins s m) first
    first_happens = happens_first s callers m (begins s m) first later all_happen

    order : wire s m events ≡ early ++ late
    order =
        ap (wire s m) whole ∙ (ap (alone s m) (reaching_append first later) ∙ alone_append s m (all_reaching first) (all_reaching later))

    over : IsAsOverAWire s m callers first
    over = as_over_a_wire s slots time before callers first first_happens

    line : IsAsDone (net.lines p) (done_on s p m early)
    line = over.lines p (happens_later s callers m (begins s m) front (Accepts p c a ∷ []) first_happens).0.place

    of_caller : In q callers.places
    of_caller = (happens_later s callers m net middle (Sends sent ∷ back) (happens_later s callers m (begins s m) first later all_happen)).0.place

    -- the later compound is none of those that were sent by then
    not_yet : (d : RanCompound) → In d (done_on s q m early) → d.compound ≡ sent.heading.compound → ⊥
    not_yet d i same =
        let there = over.lines q of_caller in
        elim (ended_back s callers (begins s m) first q d.compound (there.exact.sent d (subst (In d) (sym there.executed) i))) [
          | inl none ↦ absurd none
          | inr was ↦ new was.packet (sendings_front front p c a was.packet was.among) was.place (was.compound ∙ same)
        ]

pub atomic : (s : Server) → KeepsSlots s → KeepsTime s → Atomic s
atomic s slots time before callers events can = record {
  one_list = as_over_a_wire s slots time before callers events can;
  in_time = keeps_order s slots time before callers events can;
}
