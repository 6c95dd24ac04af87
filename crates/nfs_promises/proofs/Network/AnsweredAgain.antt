-- A lost reply can be had again: what executed stands on its slot until another does, and is answered from there.
use Rattle.std.proofs.Common.{◌≡◌, ◌⊎◌, inl, inr, ℕ, true, List, [], ◌∷◌, length, Option, Some, None, refl, sym, ◌∙◌, ap, arith}
use Rattle.std.proofs.{lemmas.Bool.{cases_Bool, lt-leb, eqb-true, eq-eqb, ne_eqb}, lemmas.Option.{same_Some, slice_get_within}}
use Rattle.std.proofs.lemmas.Slice.Eq.{bytes_eq-Decides}
use Rattle.std.specs.Prelude.{◌==◌, not, slice_get, option_map}
use Rattle.nfs_xdr.specs.{Caller.Caller, Text.IsBytes}
use Rattle.nfs_xdr.specs.Numbers.{next_number}
use Rattle.nfs_rpc.specs.CallHead.{Call, Accepted, call_of}
use Rattle.nfs_compound.specs.{declared.op.Item.Item, declared.op.Item.TheVariants.Operation, declared.session_args.Sequence.Sequence, Request.Request}
use Rattle.nfs_compound.specs.declared.op.Op.TheVariants as Op
use Rattle.nfs_names.specs.{declared.start.Start.Start}
use Rattle.nfs_lease.specs.Renewals.{has_run_out}
use Rattle.nfs_slots.specs.{Slot.{SlotState, judge_slot}, declared.slot.Verdict.TheVariants.Again}
use Rattle.nfs_sessions.specs.{Id.id_of, Sessions.{Session, session_at}}
use Rattle.nfs_exec.specs.{Step.Executing.{first_sequence, sequence_of}, Step.Parts.by_session, Step.Sequence.{compared, Repeats}, Step.Compound.compound}
use Rattle.nfs_exec.specs.Step.Sequence as sequence
use Rattle.nfs_exec.proofs.Step.Repeating.{repeats}
use Rattle.nfs_serve.specs.Step.{asked_of, ServerState, Stepped, answered, step}
use Rattle.nfs_promises.specs.Network.{Endpoint.{Place, Compound, Heading, Answer, Server, Arrival, stepped, ran}, ThisServer.{ReplyReader, slot_in, ticked}}
use Rattle.nfs_promises.specs.Network.{ThisServer.{seen, server}, AnsweredAgain.{AreElsewhere, Stands, AnsweredAgain}}
use Rattle.nfs_promises.proofs.Network.{StepLaws.{Runs, KeepsSlots, ran_keeps}, SlotsLeft.fewer_leaves, SlotsOfSessions.{IsSlotted, ticked_slotted, step_slotted}}
use Rattle.nfs_promises.proofs.Network.{SlotsOfSessions.ran_slotted, ThisServer.answer_found, ServerKeepsSlots.{taken, Heads, heads, stepped_is, keeps_slots}}

-- Of any server that keeps the laws of slots.

-- through records that do not execute on it a slot is left, or its session ends
left_ran : (s : Server) (k : KeepsSlots s) (p : Place) (x : Option SlotState) (m : s.State) (records : List Arrival) → k.Sound m → k.Given m p
    → AreElsewhere s m p records → (s.slot_at m p ≡ x) ⊎ (s.slot_at m p ≡ None) → (s.slot_at (ran s m records) p ≡ x) ⊎ (s.slot_at (ran s m records) p ≡ None)
left_ran s k p x m [] sound given elsewhere is = is
left_ran s k p x m (a ∷ more) sound given elsewhere is =
    left_ran s k p x (stepped s m a).state more (k.step_sound m a.bytes a.now a.choice sound) (k.stays_given m a.bytes a.now a.choice p given) elsewhere.1
    (elim (k.leaves m a.bytes a.now a.choice p sound given elsewhere.0) [
      | inr gone ↦ inr gone
      | inl same ↦ elim is [ inl e ↦ inl (same ∙ e) | inr e ↦ inr (same ∙ e) ]
    ])

-- What a request comes to that its slot keeps.

again_taken : (n uid : ℕ) (args reply : List ℕ) → judge_slot (record { number = n; used = true; uid = uid; args = args; reply = reply }) n uid args ≡ Again
again_taken n uid args reply =
    let further : n ≡ next_number n → ⊥ = λ same. omega arith in
    rw (ne_eqb n (next_number n) further, eq-eqb n n refl, eq-eqb uid uid refl, (bytes_eq-Decides args args).1 refl) refl

verdict_repeats : (r : Request) (who : Caller) (size : ℕ) (q : Sequence) (y : Session) (x z : SlotState) → length y.slots ≡ y.channel.maxrequests
    → slice_get y.slots q.slotid ≡ Some x → slice_get y.slots q.highest_slotid ≡ Some z → judge_slot x q.sequenceid who.uid (compared r) ≡ Again
    → by_session r who size q (Some y) ≡ Repeats x.reply
verdict_repeats r who size q y x z count here below again =
    let on = slice_get_within y.slots q.slotid x here in
    let under = slice_get_within y.slots q.highest_slotid z below in
    rw (lt-leb y.channel.maxrequests q.slotid (omega (arith, on, count)), lt-leb y.channel.maxrequests q.highest_slotid (omega (arith, under, count)), here, again, here) refl

first_list : (items : List Item) (q : Sequence) → first_sequence items ≡ Some q → (more : List Item) × (items ≡ Operation (Op.Sequence q) ∷ more)
first_list [] q e = absurd cc
first_list (Operation (Op.Sequence s) ∷ more) q e = (more, ap (λ (s : Sequence). Operation (Op.Sequence s) ∷ more) (same_Some s q e))
first_list (item ∷ more) q e = absurd cc

pub record IsFirst (r : Request) (q : Sequence) : Type 0 where
  pub minor : r.minor ≡ 1
  pub more : List Item
  pub list : r.left ≡ Operation (Op.Sequence q) ∷ more

pub is_first : (r : Request) (q : Sequence) → sequence_of r ≡ Some q → IsFirst r q
is_first r q e = elim (cases_Bool (r.minor == 1)) [
  | inl one ↦ (let f = first_list r.left q (rw one at e) in record { minor = eqb-true r.minor 1 one; more = f.0; list = f.1 })
  | inr other ↦ absurd (let none : None ≡ Some q = rw other at e in cc)
]

repeated : (reader : ReplyReader) (s : ServerState) (b : Arrival) (call : Call) (r : Request) (q : Sequence) (reply : List ℕ) → IsBytes b.bytes
    → call_of b.bytes ≡ Accepted call → asked_of call call.procedure ≡ Some r → sequence_of r ≡ Some q
    → sequence.sequenced (ticked s b.now).machine r call.who (length b.bytes) q ≡ Repeats reply
    → (let y = step s b.bytes b.now b.choice in
    ((seen reader.find y).answer ≡ Some (record { xid = call.xid; result = reply })) × (y.state ≡ ticked s b.now))
repeated reader s b call r q reply fits called asked begins verdict =
    let t = ticked s b.now in
    let first = is_first r q begins in
    let whole : compound t.machine r call.who (length b.bytes) t.moment b.choice ≡ record { text = reply; machine = t.machine } =
    repeats t.machine r call.who (length b.bytes) t.moment b.choice q reply (record { more = first.more; minor = first.minor; list = first.list; verdict = verdict }) in
    let did : step s b.bytes b.now b.choice ≡ answered t call.xid (record { text = reply; machine = t.machine }) =
    stepped_is s b.bytes b.now b.choice call r called asked ∙ ap (answered t call.xid) whole in (
      ap (λ (y : Stepped). (seen reader.find y).answer) did ∙ answer_found reader call.xid reply (taken b.bytes call fits called).small,
      ap (λ (y : Stepped). y.state) did,
    )

-- the session of a slot that stands
pub of_slot : (k : ℕ) (o : Option Session) (x : SlotState) → slot_in k o ≡ Some x → (y : Session) × (o ≡ Some y) × (slice_get y.slots k ≡ Some x)
of_slot k None x e = absurd cc
of_slot k (Some y) x e = (y, refl, e)

-- the slot that a record calls its highest stands in its session
pub below_of : (reader : ReplyReader) (start : Start) (m : ServerState) (b : Arrival) (g : Heading) (p : Place) → (to : Heads b.bytes g)
    → p ≡ record { session = id_of to.first.sessionid; slot = to.first.slotid } → (stands : Stands (server reader.find start) m p g.highest b.now)
    → slot_in to.first.highest_slotid (session_at (ticked m b.now).machine.sessions (id_of to.first.sessionid)) ≡ Some stands.top
below_of reader start m b g p to place stands =
    let t = ticked m b.now in
    ap (λ (p : Place). slot_in to.first.highest_slotid (session_at t.machine.sessions p.session)) (sym place)
    ∙ (ap (λ (y : Heading). slot_in y.highest (session_at t.machine.sessions p.session)) to.is ∙ stands.below)

-- A record that is on a slot which stands and keeps it is answered from there.
kept_again : (reader : ReplyReader) (start : Start) (m : ServerState) (b : Arrival) (g : Heading) (p : Place) (x : SlotState)
    → IsSlotted m.machine.sessions → IsBytes b.bytes → (server reader.find start).heading b.bytes ≡ Some g → g.place ≡ p
    → (stands : Stands (server reader.find start) m p g.highest b.now) → stands.slot ≡ x
    → judge_slot x g.compound.number g.compound.uid g.compound.args ≡ Again
    → (let y = stepped (server reader.find start) m b in
    (y.answer ≡ Some (record { xid = g.xid; result = x.reply })) × (y.state ≡ ticked m b.now))
kept_again reader start m b g p x slotted fits reads on stands same again =
    let t = ticked m b.now in
    let to = heads b.bytes g reads in
    let id = id_of to.first.sessionid in
    let place : p ≡ record { session = id; slot = to.first.slotid } = sym on ∙ ap (λ (y : Heading). y.place) (sym to.is) in
    let here : slot_in to.first.slotid (session_at t.machine.sessions id) ≡ Some x =
    ap (λ (p : Place). slot_in p.slot (session_at t.machine.sessions p.session)) (sym place) ∙ (stands.here ∙ ap (λ (y : SlotState). let o : Option SlotState = Some y in o) same) in
    let found = of_slot to.first.slotid (session_at t.machine.sessions id) x here in
    let below : slice_get found.0.slots to.first.highest_slotid ≡ Some stands.top =
    ap (slot_in to.first.highest_slotid) (sym found.1) ∙ below_of reader start m b g p to place stands in
    let judged : judge_slot x to.first.sequenceid to.call.who.uid (compared to.request) ≡ Again =
    ap (λ (c : Compound). judge_slot x c.number c.uid c.args) (ap (λ (y : Heading). y.compound) to.is) ∙ again in
    let verdict : sequence.sequenced t.machine to.request to.call.who (length b.bytes) to.first ≡ Repeats x.reply =
    ap (by_session to.request to.call.who (length b.bytes) to.first) found.1
    ∙ verdict_repeats to.request to.call.who (length b.bytes) to.first found.0 x stands.top ((ticked_slotted m b.now slotted).slots id found.0 found.1) found.2 below judged in
    let did = repeated reader m b to.call to.request to.first x.reply fits to.called to.asked to.begins verdict in
    (did.0 ∙ ap (λ (y : Heading). let o : Option Answer = Some (record { xid = y.xid; result = x.reply }) in o) to.is, did.1)

stood : (o : Option SlotState) (x y : SlotState) → (o ≡ Some x) ⊎ (o ≡ None) → o ≡ Some y → y ≡ x
stood o x y (inl same) e = same_Some y x (sym e ∙ same)
stood o x y (inr gone) e = absurd (let bad : None ≡ Some y = sym gone ∙ e in cc)

-- what a slot keeps of a compound
abbrev pub kept_of : Compound → List ℕ → SlotState
kept_of c result = record { number = c.number; used = true; uid = c.uid; args = c.args; reply = result }

-- each session has its slots, behind any records
pub slotted_all : (reader : ReplyReader) (start : Start) (records : List Arrival)
    → (let s = server reader.find start in IsSlotted (ran s s.new records).machine.sessions)
slotted_all reader start records =
    let s = server reader.find start in
    ran_slotted reader start s.new records (record { sound = record { rising = omega arith }; slots = λ id y e. cc })

pub slotted_behind : (reader : ReplyReader) (start : Start) (before : List Arrival) (a : Arrival) (between : List Arrival)
    → (let s = server reader.find start in IsSlotted (ran s (stepped s (ran s s.new before) a).state between).machine.sessions)
slotted_behind reader start before a between =
    let s = server reader.find start in
    ran_slotted reader start (stepped s (ran s s.new before) a).state between
    (step_slotted (ran s s.new before) a.bytes a.now a.choice (slotted_all reader start before))

-- A compound ran; behind records that do not execute on its slot, that keeps it, if it stands.
pub slot_left : (reader : ReplyReader) (start : Start) (before : List Arrival) (a : Arrival) (h : Heading) (between : List Arrival) (b : Arrival) (g : Heading)
    → (let s = server reader.find start in
    IsBytes a.bytes → s.heading a.bytes ≡ Some h → s.executes (ran s s.new before) a.bytes a.now ≡ true
    → AreElsewhere s (stepped s (ran s s.new before) a).state h.place between
    → (stands : Stands s (ran s (stepped s (ran s s.new before) a).state between) h.place g.highest b.now)
    → (run : Runs s (ran s s.new before) h (stepped s (ran s s.new before) a)) × (stands.slot ≡ kept_of h.compound run.result))
slot_left reader start before a h between b g fits reads does elsewhere stands =
    let s = server reader.find start in
    let k = keeps_slots reader start in
    let outset : ServerState = ran s s.new before in
    let sound = ran_keeps s k.Sound k.step_sound s.new before k.new_sound in
    let run : Runs s outset h (stepped s outset a) = k.runs outset a.bytes a.now a.choice h fits sound reads does in
    let behind : ServerState = (stepped s outset a).state in
    let sound_behind = k.step_sound outset a.bytes a.now a.choice sound in
    let x : SlotState = kept_of h.compound run.result in
    let m : ServerState = ran s behind between in
    let kept = left_ran s k h.place (Some x) behind between sound_behind (k.stands behind h.place x sound_behind run.keeps) elsewhere (inl run.keeps) in
    let t = ticked m b.now in
    let ticks = fewer_leaves m.machine.sessions (λ (y : Session). not (has_run_out m.machine.store.lease m.machine.leases t.moment y.client)) h.place.session h.place.slot (Some x)
    (slotted_behind reader start before a between).sound kept in
    (run, stood (s.slot_at t h.place) x stands.slot ticks stands.here)

pub answered_again : (reader : ReplyReader) (start : Start) → AnsweredAgain (server reader.find start)
answered_again reader start before a h between b g fits reads does elsewhere fits_b reads_b place same stands =
    let s = server reader.find start in
    let (run, slot) = slot_left reader start before a h between b g fits reads does elsewhere stands in
    let m : ServerState = ran s (stepped s (ran s s.new before) a).state between in
    let x : SlotState = kept_of h.compound run.result in
    let again : judge_slot x g.compound.number g.compound.uid g.compound.args ≡ Again =
    ap (λ (c : Compound). judge_slot x c.number c.uid c.args) same ∙ again_taken h.compound.number h.compound.uid h.compound.args run.result in
    let did = kept_again reader start m b g h.place x (slotted_behind reader start before a between) fits_b reads_b place stands slot again in
    record {
      answer = did.0 ∙ ap (option_map (λ (y : Answer). let z : Answer = record y { xid = g.xid } in z)) (sym run.answer);
      state = did.1;
    }
