-- A fresh request on a slot that stands runs.
use Rattle.std.proofs.{Common.{◌≡◌, ℕ, ◌≤◌, true, List, ◌∷◌, length, Some, refl, sym, ◌∙◌, ap, subst, arith}, lemmas.Bool.{lt-leb, le-ltb, eq-eqb}}
use Rattle.std.proofs.lemmas.Option.{same_Some, slice_get_within}
use Rattle.std.specs.Prelude.{◌==◌, ◌&&◌, ◌||◌, is_some, slice_get}
use Rattle.nfs_xdr.specs.{Caller.Caller, Text.IsBytes, Numbers.next_number}
use Rattle.nfs_compound.specs.{declared.op.Item.Item, declared.op.Item.TheVariants.Operation, declared.session_args.Sequence.Sequence, Request.Request}
use Rattle.nfs_compound.specs.declared.op.Op.TheVariants as Op
use Rattle.nfs_names.specs.{declared.start.Start.Start}
use Rattle.nfs_slots.specs.Slot.{SlotState}
use Rattle.nfs_sessions.specs.{Id.id_of, Sessions.{Session, session_at}}
use Rattle.nfs_exec.specs.Step.{Executing.{executes, is_alone}, Laws.{first_runs, if_runs}, Machine.Machine, Parts.by_session, Sequence.Runs}
use Rattle.nfs_exec.specs.Step.Sequence as sequence
use Rattle.nfs_rpc.specs.CallHead.{call_of}
use Rattle.nfs_serve.specs.{Step.ServerState}
use Rattle.nfs_promises.specs.Network.{Endpoint.{Place, Heading, Arrival, stepped, ran}, ThisServer.{ReplyReader, slot_in, ticked, executes_by, server}}
use Rattle.nfs_promises.specs.Network.{AnsweredAgain.Stands, FreshRuns.{IsRun, FreshRuns, NextRuns, Passes}}
use Rattle.nfs_promises.proofs.Network.{ServerKeepsSlots.{heads, executes_is, answers_numbered}, AnsweredAgain.{is_first, of_slot, below_of, slotted_all}}
use Rattle.nfs_promises.proofs.Network.{AnsweredAgain.{slotted_behind, slot_left}, SlotsOfSessions.{IsSlotted, ticked_slotted}}

verdict_runs : (r : Request) (who : Caller) (size : ℕ) (q : Sequence) (y : Session) (x z : SlotState) → length y.slots ≡ y.channel.maxrequests
    → slice_get y.slots q.slotid ≡ Some x → slice_get y.slots q.highest_slotid ≡ Some z → q.sequenceid ≡ next_number x.number
    → size ≤ y.channel.maxrequestsize → r.declared ≤ y.channel.maxoperations → by_session r who size q (Some y) ≡ Runs y.channel
verdict_runs r who size q y x z count here below next short few =
    let on = slice_get_within y.slots q.slotid x here in
    let under = slice_get_within y.slots q.highest_slotid z below in
    rw (
      lt-leb y.channel.maxrequests q.slotid (omega (arith, on, count)),
      lt-leb y.channel.maxrequests q.highest_slotid (omega (arith, under, count)),
      here,
      eq-eqb q.sequenceid (next_number x.number) next,
      le-ltb y.channel.maxrequestsize size short,
      le-ltb y.channel.maxoperations r.declared few,
    ) refl

executes_first : (m : Machine) (r : Request) (who : Caller) (size : ℕ) (q : Sequence) (more : List Item) → r.minor ≡ 1 → r.left ≡ Operation (Op.Sequence q) ∷ more
    → is_some (if_runs q (sequence.sequenced m r who size q)) ≡ true → executes m r who size ≡ true
executes_first m r who size q more minor list runs =
    ap (λ (n : ℕ). (n == 1) && (is_some (first_runs m r who size r.left) || is_alone r.declared r.left)) minor
    ∙ (ap (λ (items : List Item). is_some (first_runs m r who size items) || is_alone r.declared items) list
    ∙ ap (λ b. b || is_alone r.declared (Operation (Op.Sequence q) ∷ more)) runs)

-- a record that is fresh on a slot which stands, in a session that lets it pass
runs_there : (reader : ReplyReader) (start : Start) (m : ServerState) (b : Arrival) (g : Heading) (p : Place) → IsSlotted m.machine.sessions → IsBytes b.bytes
    → (server reader.find start).heading b.bytes ≡ Some g → g.place ≡ p → (stands : Stands (server reader.find start) m p g.highest b.now)
    → g.compound.number ≡ next_number stands.slot.number → Passes (ticked m b.now) p b.bytes → IsRun (server reader.find start) m b g
runs_there reader start m b g p slotted fits reads on stands next passes =
    let t = ticked m b.now in
    let to = heads b.bytes g reads in
    let id = id_of to.first.sessionid in
    let place : p ≡ record { session = id; slot = to.first.slotid } = sym on ∙ ap (λ (y : Heading). y.place) (sym to.is) in
    let here : slot_in to.first.slotid (session_at t.machine.sessions id) ≡ Some stands.slot =
    ap (λ (p : Place). slot_in p.slot (session_at t.machine.sessions p.session)) (sym place) ∙ stands.here in
    let found = of_slot to.first.slotid (session_at t.machine.sessions id) stands.slot here in
    let below : slice_get found.0.slots to.first.highest_slotid ≡ Some stands.top =
    ap (slot_in to.first.highest_slotid) (sym found.1) ∙ below_of reader start m b g p to place stands in
    let same : passes.session ≡ found.0 =
    same_Some passes.session found.0 (sym passes.there ∙ (ap (λ (p : Place). session_at t.machine.sessions p.session) place ∙ found.1)) in
    let number : to.first.sequenceid ≡ next_number stands.slot.number = ap (λ (y : Heading). y.compound.number) to.is ∙ next in
    let verdict : sequence.sequenced t.machine to.request to.call.who (length b.bytes) to.first ≡ Runs found.0.channel =
    ap (by_session to.request to.call.who (length b.bytes) to.first) found.1
    ∙ verdict_runs to.request to.call.who (length b.bytes) to.first found.0 stands.slot stands.top
    ((ticked_slotted m b.now slotted).slots id found.0 found.1) found.2 below number
    (subst (λ (y : Session). length b.bytes ≤ y.channel.maxrequestsize) same passes.short)
    (subst (λ (y : Session). to.request.declared ≤ y.channel.maxoperations) same (passes.few to.call to.request to.called to.asked)) in
    let first = is_first to.request to.first to.begins in
    let does : executes_by t (length b.bytes) (call_of b.bytes) ≡ true =
    executes_is t (length b.bytes) b.bytes to.call to.request to.called to.asked
    ∙ executes_first t.machine to.request to.call.who (length b.bytes) to.first first.more first.minor first.list
    (ap (λ v. is_some (if_runs to.first v)) verdict) in
    let told = answers_numbered reader m b.bytes b.now b.choice g fits reads does in
    record { executes = does; result = told.0; answer = told.1; bears = told.2 }

pub fresh_runs : (reader : ReplyReader) (start : Start) → FreshRuns (server reader.find start) Passes
fresh_runs reader start before b g fits reads stands next passes =
    let s = server reader.find start in
    let m : ServerState = ran s s.new before in
    runs_there reader start m b g g.place (slotted_all reader start before) fits reads refl stands next passes

pub next_runs : (reader : ReplyReader) (start : Start) → NextRuns (server reader.find start) Passes
next_runs reader start before a h between b g fits reads does elsewhere fits_b reads_b place next stands passes =
    let s = server reader.find start in
    let (run, slot) = slot_left reader start before a h between b g fits reads does elsewhere stands in
    let m : ServerState = ran s (stepped s (ran s s.new before) a).state between in
    runs_there reader start m b g h.place (slotted_behind reader start before a between) fits_b reads_b place stands
    (next ∙ ap (λ (x : SlotState). next_number x.number) (sym slot)) passes
