-- Callers that go by xids, and use none for two compounds, are callers that may go by SEQUENCE's result.
use Rattle.std.proofs.Common.{◌≡◌, inl, inr, List, [], ◌∷◌, sym, ◌∙◌, ap, subst}
use Rattle.nfs_xdr.specs.Tables.{In}
use Rattle.nfs_promises.specs.Network.{Endpoint.{Place, Compound, Answer, Server, Arrival, ran}, ExactlyOnce.{Callers, Packet, Line, Network, NetworkEvent}}
use Rattle.nfs_promises.specs.Network.ExactlyOnce.{Sends, Resends, Accepts, after, IsOfOneCompound, MayAccept, May, Schedule, IsUnused}
use Rattle.nfs_promises.specs.Network.{ExactlyOnce.{begins, ExactlyOnce}, ByNumber.{CanAccept, Can, Happens}}
use Rattle.nfs_promises.proofs.Network.{StepLaws.KeepsSlots, CountedLists.last_one, ByNumber.{Begun, IsNetwork, begun_waits, event_keeps, begins_is}}
use Rattle.nfs_promises.proofs.Network.ByNumber.{exactly_once_by_number}

-- each xid of a caller is of one compound
abbrev Apart : Callers → List Packet → Type 0
Apart callers packets = (r : Packet) → In r packets → IsOfOneCompound callers packets r.heading

apart_more : (callers : Callers) (packets : List Packet) (q : Packet) → IsOfOneCompound callers packets q.heading → Apart callers packets → Apart callers (q ∷ packets)
apart_more callers packets q new apart r (inl same) x (inl alike) who xid =
    (ap (λ (y : Packet). y.heading.place) (alike ∙ sym same), ap (λ (y : Packet). y.heading.compound) (alike ∙ sym same))
apart_more callers packets q new apart r (inl same) x (inr old) who xid =
    let e = new x old (who ∙ ap (λ (y : Packet). callers.who y.heading.place) same) (xid ∙ ap (λ (y : Packet). y.heading.xid) same) in
    (e.0 ∙ ap (λ (y : Packet). y.heading.place) (sym same), e.1 ∙ ap (λ (y : Packet). y.heading.compound) (sym same))
apart_more callers packets q new apart r (inr old) x (inl same) who xid =
    let e = new r old (sym who ∙ ap (λ (y : Packet). callers.who y.heading.place) same) (sym xid ∙ ap (λ (y : Packet). y.heading.xid) same) in
    (ap (λ (y : Packet). y.heading.place) same ∙ sym e.0, ap (λ (y : Packet). y.heading.compound) same ∙ sym e.1)
apart_more callers packets q new apart r (inr old) x (inr older) who xid = apart r old x older who xid

-- a reply with an xid of the compound that waits bears its slot and number
accepts : (s : Server) (laws : KeepsSlots s) (callers : Callers) (outset : s.State) (net : Network s) (p : Place) (c : Compound) (a : Answer)
    → IsNetwork s laws callers outset net → Apart callers net.packets → MayAccept s callers net p c a → CanAccept s callers net p c a
accepts s laws callers outset net p c a is apart may = record {
  place = may.place;
  caller = callers.who p;
  sent = may.sent;
  waits = waits;
  last = may.last;
  numbered = numbered;
  own = inr owned;
}
  where
    l : Line
    l = net.lines p

    waits : l.xids ≡ [] → ⊥
    waits none = subst (In a.xid) none may.xid

    begun : Begun s laws net.machine net.packets l p
    begun = begun_waits s laws net.machine net.packets l p waits (is.stage p may.place)

    numbered : s.Bears a.result (record { place = p; number = c.number })
    numbered =
        let by = is.replies _ may.sent may.sequenced in
        let (q, sent, at, last, xid) = begun.line.sent a.xid may.xid in
        let one = apart q sent by.packet by.sent (by.caller ∙ ap callers.who (sym at)) (by.xid ∙ sym xid) in
        let compound : by.packet.heading.compound ≡ c = one.1 ∙ last_one last.0 may.last.0 q.heading.compound c (sym last.1 ∙ may.last.1) in
        let place : by.packet.heading.place ≡ p = one.0 ∙ at in
        subst (λ (d : Compound). s.Bears a.result (record { place = p; number = d.number })) compound
        (subst (λ (k : Place). s.Bears a.result (record { place = k; number = by.packet.heading.compound.number })) place
        (is.tells by.packet.heading.place (is.packets by.packet by.sent).place (record { compound = by.packet.heading.compound; result = a.result }) by.executed))

    -- whatever its caller sent under this xid is the compound that waits
    owned : (r : Packet) → In r net.packets → callers.who r.heading.place ≡ callers.who p → r.heading.xid ≡ a.xid → r.heading.compound ≡ c
    owned r i who same =
        let (q, sent, at, last, xid) = begun.line.sent a.xid may.xid in
        let one = apart q sent r i (who ∙ ap callers.who (sym at)) (same ∙ sym xid) in
        one.1 ∙ last_one last.0 may.last.0 q.heading.compound c (sym last.1 ∙ may.last.1)

event_can : (s : Server) (laws : KeepsSlots s) (callers : Callers) (outset : s.State) (net : Network s) (e : NetworkEvent) → ((p : Place) → In p callers.places → IsUnused s outset p)
    → IsNetwork s laws callers outset net → Apart callers net.packets → May callers net e → Can callers outset net e × Apart callers (after callers net e).packets
event_can s laws callers outset net (Sends q) unused is apart may = (
  record { bytes = may.bytes; reads = may.reads; place = may.place; ready = λ none. inl (unused q.heading.place may.place); next = may.next; small = may.small },
  apart_more callers net.packets q may.xid apart,
)
event_can s laws callers outset net (Resends q) unused is apart may = (
  record { bytes = may.bytes; reads = may.reads; place = may.place; waits = may.outstanding; last = may.last },
  apart_more callers net.packets q may.xid apart,
)
event_can s laws callers outset net (Accepts p c a) unused is apart may = (accepts s laws callers outset net p c a is apart may, apart)
event_can s laws callers outset net e unused is apart may = (may, apart)

events_can : (s : Server) (laws : KeepsSlots s) (callers : Callers) (outset : s.State) (net : Network s) (events : List NetworkEvent) → ((p : Place) → In p callers.places → IsUnused s outset p)
    → IsNetwork s laws callers outset net → Apart callers net.packets → Schedule callers net events → Happens callers outset net events
events_can s laws callers outset net [] unused is apart may = tt
events_can s laws callers outset net (e ∷ more) unused is apart may =
    let now = event_can s laws callers outset net e unused is apart may.0 in
    (now.0, events_can s laws callers outset (after callers net e) more unused (event_keeps s laws callers outset net e is now.0) now.1 may.1)

pub happens : (s : Server) → KeepsSlots s → (before : List Arrival) (callers : Callers) (events : List NetworkEvent) → ((p : Place) → In p callers.places → IsUnused s (ran s s.new before) p)
    → Schedule callers (begins s (ran s s.new before)) events → Happens callers (ran s s.new before) (begins s (ran s s.new before)) events
happens s laws before callers events unused may =
    let m : s.State = ran s s.new before in
    events_can s laws callers m (begins s m) events unused (begins_is s laws callers before) (λ r none. absurd none) may

pub exactly_once : (s : Server) → KeepsSlots s → ExactlyOnce s
exactly_once s laws before callers events unused may = exactly_once_by_number s laws before callers events (happens s laws before callers events unused may)
