-- This server keeps the laws of slots.
use Rattle.std.proofs.Common.{◌≡◌, inl, inr, ℕ, ◌<◌, ◌^◌, Bool, true, false, List, [], ◌∷◌, length, Option, Some, None, refl, sym, ◌∙◌, ap, subst, arith}
use Rattle.std.proofs.{lemmas.Bool.{cases_Bool, false≢true}, lemmas.Option.same_Some, lemmas.List.append-nil}
use Rattle.std.specs.{Prelude.{Result, Ok, ◌==◌, ◌||◌, not, nat_le, nat_lt, is_some, slice_get, option_map, option_and_then}, Option.option_map_or}
use Rattle.nfs_xdr.specs.{Caller.Caller, Checks.first_fault, Codec.{number, opaque}, Limits.opaque_limit, Status.status_number, Text.IsBytes}
use Rattle.nfs_xdr.specs.declared.status.Status.{Status, TheVariants.{BadSession, BadSlot, BadHighSlot, SeqMisordered, SeqFalseRetry, ReqTooBig, TooManyOps}}
use Rattle.nfs_xdr.proofs.StatusLaws.{is_status_listing}
use Rattle.nfs_rpc.specs.declared.refusal.{Refusal.{Refusal, TheVariants.{Silent, Mismatch, Auth, Accept}}, AcceptStat.TheVariants.GarbageArgs}
use Rattle.nfs_rpc.specs.{declared.call.Procedure.Procedure, HeadCodec.header, CallHead.{Call, Called, Accepted, Refused, call_of}, Reply.spell_head}
use Rattle.nfs_rpc.specs.declared.call.Procedure.TheVariants as Procedures
use Rattle.nfs_rpc.proofs.{Fragments.bytes_behind_front, HeadLaws.call_taken}
use Rattle.nfs_compound.specs.{declared.op.Item.Item, declared.op.Item.TheVariants.Operation, Request.{Request, IsRequest}, ReadRequest.request_at}
use Rattle.nfs_compound.specs.declared.session_args.Sequence.{Sequence}
use Rattle.nfs_compound.specs.declared.op.Op.TheVariants as Op
use Rattle.nfs_compound.proofs.RequestLaws.{request_takes}
use Rattle.nfs_names.specs.{declared.start.Start.Start}
use Rattle.nfs_lease.specs.Renewals.{has_run_out}
use Rattle.nfs_slots.specs.{Slot.{SlotState, judge_slot, judge, kept}, declared.slot.Verdict.Verdict}
use Rattle.nfs_slots.specs.declared.slot.Verdict.TheVariants as slot
use Rattle.nfs_slots.specs.Slot as slots
use Rattle.nfs_sessions.specs.{Id.id_of, Sessions.{Session, SessionTable, session_at, keep}, SessionTables.IsSessions}
use Rattle.nfs_sessions.proofs.TableLemmas.{slots_changed, sessions_filtered}
use Rattle.nfs_exec.specs.Step.{Machine.Machine, Sequence.{compared, Sequenced, Refuses, Repeats, Runs as RunsIn, by_slot}}
use Rattle.nfs_exec.specs.Step.{Parts.{past, slot_says, slot_fault, fresh_fault, by_session}, Compound.{in_session, by_first, compound}}
use Rattle.nfs_exec.specs.Step.{Laws.{if_runs, first_runs}, Executing.{first_sequence, sequence_of, is_alone, executes}}
use Rattle.nfs_exec.specs.Step.Sequence as sequence
use Rattle.nfs_exec.proofs.{Runs.{SlotNumbers.IsHeld, SessionsBehind.{ran_in, quiet_compound, told_compound}}, Step.Terms.or_refuses}
use Rattle.nfs_promises.specs.Network.Endpoint.{Place, Heading, Answer}
use Rattle.nfs_serve.specs.Step.{asked_of, ServerState, Stepped, refused, answered, with_arguments, by_procedure, reply_to, step}
use Rattle.nfs_promises.specs.Network.ThisServer.{ReplyReader, IsSequenced, Bears, slot_in, ticked, executes_by, heading_of, heading_by, heading, seen, server}
use Rattle.nfs_promises.proofs.Network.{StepLaws.{Repeats as RepeatsOn, Runs, IsElsewhere, KeepsSlots}, ExpiryAtMoments.step_is, SlotsLeft.{slot_at, IsGiven}}
use Rattle.nfs_promises.proofs.Network.SlotsLeft.{IsLeft, Stays, stands_given, held_sessions, held_given, held_slot, kept_slot, fewer_leaves, keep_there}
use Rattle.nfs_promises.proofs.Network.{ReplyReading.sequenced, RepliesSpelled.{IsBad, front_spelled}, ThisServer.{answer_found, refusal_found}}
use Rattle.nfs_promises.proofs.Network.{ThisServer.{sequenced_again, bears_sequenced, bears_one}, OthersUnsequenced.mute_compound}
use Rattle.nfs_promises.proofs.{Network.RunsAreSequenced.{numbered_compound, sequence_fits}, Runs.Terms.heading_in}

-- A call and its request.

-- what an accepted call is known by
pub record IsCall (call : Call) : Type 0 where
  pub small : call.xid < 2 ^ 32
  pub args : IsBytes call.args

pub taken : (bytes : List ℕ) (call : Call) → IsBytes bytes → call_of bytes ≡ Accepted call → IsCall call
taken bytes call fits e =
    let t = call_taken bytes call fits e in
    let whole = subst IsBytes t.3 fits in
    record {
      small = t.1;
      args = bytes_behind_front (header.spell t.0) call.args
          (bytes_behind_front (number.spell 2) _ (bytes_behind_front (number.spell 0) _ (bytes_behind_front (number.spell call.xid) _ whole)));
    }

pub asked_is : (call : Call) (p : Procedure) (r : Request) → asked_of call p ≡ Some r → request_at call.args ≡ Some r
asked_is call Procedures.Null r e = absurd cc
asked_is call Procedures.Compound r e = e

request_is : (call : Call) (r : Request) → IsCall call → asked_of call call.procedure ≡ Some r → IsRequest call.args r
request_is call r is e = request_takes call.args r is.args (asked_is call call.procedure r e)

-- what a heading is read from
pub record Heads (bytes : List ℕ) (h : Heading) : Type 0 where
  pub call : Call
  pub called : call_of bytes ≡ Accepted call
  pub request : Request
  pub asked : asked_of call call.procedure ≡ Some request
  pub first : Sequence
  pub begins : sequence_of request ≡ Some first
  pub is : heading_of call request first ≡ h

mapped_from : {A B : Type 0} (f : A → B) (o : Option A) (y : B) → option_map f o ≡ Some y → (x : A) × (o ≡ Some x) × (f x ≡ y)
mapped_from f None y e = absurd cc
mapped_from f (Some x) y e = (x, refl, same_Some (f x) y e)

taken_from : {A B : Type 0} (f : A → Option B) (o : Option A) (y : B) → option_and_then f o ≡ Some y → (x : A) × (o ≡ Some x) × (f x ≡ Some y)
taken_from f None y e = absurd cc
taken_from f (Some x) y e = (x, refl, e)

pub heads : (bytes : List ℕ) (h : Heading) → heading bytes ≡ Some h → Heads bytes h
heads bytes h e = by (call_of bytes) refl e
  where
    by : (c : Called) → call_of bytes ≡ c → heading_by c ≡ Some h → Heads bytes h
    by (Refused refusal) is e = absurd cc
    by (Accepted call) is e =
        let (request, asked, says) = taken_from (heading_in call) (asked_of call call.procedure) h e in
        let (first, begins, same) = mapped_from (heading_of call request) (sequence_of request) h says in
        record { call = call; called = is; request = request; asked = asked; first = first; begins = begins; is = same }

-- and back
heading_from : (bytes : List ℕ) (call : Call) (r : Request) (s : Sequence) → call_of bytes ≡ Accepted call → asked_of call call.procedure ≡ Some r
    → sequence_of r ≡ Some s → heading bytes ≡ Some (heading_of call r s)
heading_from bytes call r s called asked begins =
    ap heading_by called
    ∙ (ap (option_and_then (heading_in call)) asked ∙ ap (option_map (heading_of call r)) begins)

pub executes_is : (t : ServerState) (size : ℕ) (bytes : List ℕ) (call : Call) (r : Request) → call_of bytes ≡ Accepted call → asked_of call call.procedure ≡ Some r
    → executes_by t size (call_of bytes) ≡ executes t.machine r call.who size
executes_is t size bytes call r called asked =
    ap (executes_by t size) called ∙ ap (λ (o : Option Request). option_map_or (λ r. executes t.machine r call.who size) o false) asked

-- A step.

answered_is : (t : ServerState) (call : Call) (size : ℕ) (choice : Option ℕ) (r : Request) (p : Procedure) → asked_of call p ≡ Some r
    → by_procedure t call size choice p ≡ answered t call.xid (compound t.machine r call.who size t.moment choice)
answered_is t call size choice r Procedures.Null e = absurd cc
answered_is t call size choice r Procedures.Compound e = ap (with_arguments t call size choice) e

pub stepped_is : (s : ServerState) (bytes : List ℕ) (now : ℕ) (choice : Option ℕ) (call : Call) (r : Request) → call_of bytes ≡ Accepted call
    → asked_of call call.procedure ≡ Some r
    → step s bytes now choice ≡ answered (ticked s now) call.xid (compound (ticked s now).machine r call.who (length bytes) (ticked s now).moment choice)
stepped_is s bytes now choice call r called asked =
    step_is s bytes now choice
    ∙ (ap (reply_to (ticked s now) (length bytes) choice) called ∙ answered_is (ticked s now) call (length bytes) choice r call.procedure asked)

-- what holds of the sessions behind expiry, and behind each compound, holds behind the step
reply_holds : (P : SessionTable → Type 0) (t : ServerState) (size : ℕ) (choice : Option ℕ) (called : Called) → P t.machine.sessions
    → ((call : Call) (r : Request) → called ≡ Accepted call → asked_of call call.procedure ≡ Some r → P (compound t.machine r call.who size t.moment choice).machine.sessions)
    → P (reply_to t size choice called).state.machine.sessions
reply_holds P t size choice (Refused Silent) is does = is
reply_holds P t size choice (Refused refusal) is does = is
reply_holds P t size choice (Accepted call) is does = by_call call.procedure (λ r asked. does call r refl asked)
  where
    by_request : (o : Option Request) → ((r : Request) → o ≡ Some r → P (compound t.machine r call.who size t.moment choice).machine.sessions)
        → P (with_arguments t call size choice o).state.machine.sessions
    by_request None f = is
    by_request (Some r) f = f r refl

    by_call : (p : Procedure) → ((r : Request) → asked_of call p ≡ Some r → P (compound t.machine r call.who size t.moment choice).machine.sessions)
        → P (by_procedure t call size choice p).state.machine.sessions
    by_call Procedures.Null f = is
    by_call Procedures.Compound f = by_request (request_at call.args) f

pub step_holds : (P : SessionTable → Type 0) (s : ServerState) (bytes : List ℕ) (now : ℕ) (choice : Option ℕ) → P (ticked s now).machine.sessions
    → ((call : Call) (r : Request) → call_of bytes ≡ Accepted call → asked_of call call.procedure ≡ Some r
    → P (compound (ticked s now).machine r call.who (length bytes) (ticked s now).moment choice).machine.sessions)
    → P (step s bytes now choice).state.machine.sessions
step_holds P s bytes now choice is does =
    subst (λ (x : Stepped). P x.state.machine.sessions) (sym (step_is s bytes now choice)) (reply_holds P (ticked s now) (length bytes) choice (call_of bytes) is does)

-- behind a compound, whether it runs or not
pub compound_holds : (P : SessionTable → Type 0) → IsHeld P → (m : Machine) (r : Request) (who : Caller) (size now : ℕ) (choice : Option ℕ)
    → ((s : Sequence) (text : List ℕ) → ran_in m r who size ≡ Some s → P (keep m.sessions (id_of s.sessionid) s.slotid s.sequenceid who.uid (compared r) text))
    → P m.sessions → P (compound m r who size now choice).machine.sessions
compound_holds P held m r who size now choice runs is = by (ran_in m r who size) refl
  where
    by : (o : Option Sequence) → ran_in m r who size ≡ o → P (compound m r who size now choice).machine.sessions
    by None none = quiet_compound P held m r who size now choice none is
    by (Some s) ran =
        let told = told_compound m r who size now choice s ran in
        subst P (sym told.kept) (runs s (compound m r who size now choice).text ran)

step_sound : (s : ServerState) (bytes : List ℕ) (now : ℕ) (choice : Option ℕ) → IsSessions s.machine.sessions → IsSessions (step s bytes now choice).state.machine.sessions
step_sound s bytes now choice is =
    let t = ticked s now in
    let ticked_is = sessions_filtered s.machine.sessions (λ (x : Session). not (has_run_out s.machine.store.lease s.machine.leases t.moment x.client)) is in
    step_holds IsSessions s bytes now choice ticked_is (λ call r called asked.
    compound_holds IsSessions held_sessions t.machine r call.who (length bytes) t.moment choice
    (λ q text ran. slots_changed t.machine.sessions (id_of q.sessionid) (λ was. slots.keep was q.slotid q.sequenceid call.who.uid (compared r) text) ticked_is)
    ticked_is)

stays_given : (s : ServerState) (bytes : List ℕ) (now : ℕ) (choice : Option ℕ) (p : Place) → IsGiven p.session s.machine.sessions
    → IsGiven p.session (step s bytes now choice).state.machine.sessions
stays_given s bytes now choice p is =
    let t = ticked s now in
    step_holds (IsGiven p.session) s bytes now choice is (λ call r called asked.
    compound_holds (IsGiven p.session) (held_given p.session) t.machine r call.who (length bytes) t.moment choice (λ q text ran. is) is)

-- Which compound runs.

verdict_runs : (q : Sequence) (v : Sequenced) → (is_some (if_runs q v) || false) ≡ true → if_runs q v ≡ Some q
verdict_runs q (Refuses status) e = absurd cc
verdict_runs q (Repeats reply) e = absurd cc
verdict_runs q (RunsIn c) e = refl

items_run : (m : Machine) (r : Request) (who : Caller) (size : ℕ) (q : Sequence) (items : List Item) → first_sequence items ≡ Some q
    → (is_some (first_runs m r who size items) || is_alone r.declared items) ≡ true → first_runs m r who size items ≡ Some q
items_run m r who size q [] begins e = absurd cc
items_run m r who size q (Operation (Op.Sequence s) ∷ more) begins e =
    verdict_runs s (sequence.sequenced m r who size s) e ∙ begins
items_run m r who size q (item ∷ more) begins e = absurd cc

runs_here : (m : Machine) (r : Request) (who : Caller) (size : ℕ) (q : Sequence) → sequence_of r ≡ Some q → executes m r who size ≡ true → ran_in m r who size ≡ Some q
runs_here m r who size q begins e = elim (cases_Bool (r.minor == 1)) [
  | inl one ↦ rw one (items_run m r who size q r.left (rw one at begins) (rw one at e))
  | inr other ↦ absurd (let none : None ≡ Some q = rw other at begins in cc)
]

ran_verdict : (q s : Sequence) (v : Sequenced) → if_runs q v ≡ Some s → (Some q ≡ Some s) × ((is_some (if_runs q v) || false) ≡ true)
ran_verdict q s (Refuses status) e = absurd cc
ran_verdict q s (Repeats reply) e = absurd cc
ran_verdict q s (RunsIn c) e = (e, refl)

ran_items : (m : Machine) (r : Request) (who : Caller) (size : ℕ) (q : Sequence) (items : List Item) → first_runs m r who size items ≡ Some q
    → (first_sequence items ≡ Some q) × ((is_some (first_runs m r who size items) || is_alone r.declared items) ≡ true)
ran_items m r who size q [] e = absurd cc
ran_items m r who size q (Operation (Op.Sequence s) ∷ more) e = ran_verdict s q (sequence.sequenced m r who size s) e
ran_items m r who size q (item ∷ more) e = absurd cc

ran_executes : (m : Machine) (r : Request) (who : Caller) (size : ℕ) (q : Sequence) → ran_in m r who size ≡ Some q
    → (sequence_of r ≡ Some q) × (executes m r who size ≡ true)
ran_executes m r who size q e = elim (cases_Bool (r.minor == 1)) [
  | inl one ↦ (let did = ran_items m r who size q r.left (rw one at e) in (rw one did.0, rw one did.1))
  | inr other ↦ absurd (let none : None ≡ Some q = rw other at e in cc)
]

-- Any other step leaves the slot, or ends its session.

leaves : (reader : ReplyReader) (start : Start) (s : ServerState) (bytes : List ℕ) (now : ℕ) (choice : Option ℕ) (p : Place)
    → IsSessions s.machine.sessions → IsGiven p.session s.machine.sessions → IsElsewhere (server reader.find start) s p bytes now
    → IsLeft p.session p.slot (slot_at s.machine.sessions p.session p.slot) (step s bytes now choice).state.machine.sessions
leaves reader start s bytes now choice p is given elsewhere =
    let t = ticked s now in
    let x = slot_at s.machine.sessions p.session p.slot in
    let P : SessionTable → Type 0 = Stays p.session p.slot x in
    let held = held_slot p.session p.slot x in
    let before : P s.machine.sessions = record { sound = is; given = given; left = inl refl } in
    let ticked_is : P t.machine.sessions = held.fewer s.machine.sessions (λ (x : Session). not (has_run_out s.machine.store.lease s.machine.leases t.moment x.client)) before in
    (step_holds P s bytes now choice ticked_is (λ call r called asked.
    compound_holds P held t.machine r call.who (length bytes) t.moment choice
    (λ q text ran. kept_slot p.session p.slot x t.machine.sessions (id_of q.sessionid) q.slotid q.sequenceid call.who.uid (compared r) text
    (apart call r q called asked ran) ticked_is)
    ticked_is)).left
  where
    apart : (call : Call) (r : Request) (q : Sequence) → call_of bytes ≡ Accepted call → asked_of call call.procedure ≡ Some r
        → ran_in (ticked s now).machine r call.who (length bytes) ≡ Some q → (p.session ≡ id_of q.sessionid) × (p.slot ≡ q.slotid) → ⊥
    apart call r q called asked ran same =
        let did = ran_executes (ticked s now).machine r call.who (length bytes) q ran in
        let place : (heading_of call r q).place ≡ p =
        ap (λ i. let y : Place = record { session = i; slot = q.slotid } in y) (sym same.0)
        ∙ ap (λ k. let y : Place = record { session = p.session; slot = k } in y) (sym same.1) in
        elsewhere (heading_of call r q) (heading_from bytes call r q called asked did.0)
        (executes_is (ticked s now) (length bytes) bytes call r called asked ∙ did.1) place

-- A fresh request.

judged : (v : Verdict) (found : Option SlotState) (n uid : ℕ) (args : List ℕ) → (v ≡ slot.NoSlot → ⊥)
    → option_map_or (λ x. judge_slot x n uid args) found slot.NoSlot ≡ v → (x : SlotState) × (found ≡ Some x) × (judge_slot x n uid args ≡ v)
judged v None n uid args some e = absurd (some (sym e))
judged v (Some x) n uid args some e = (x, refl, e)

-- a slot that stands behind expiry stood before
pub stood : (s : ServerState) (now : ℕ) (p : Place) (x : SlotState) → IsSessions s.machine.sessions
    → slot_at (ticked s now).machine.sessions p.session p.slot ≡ Some x → slot_at s.machine.sessions p.session p.slot ≡ Some x
stood s now p x is e =
    let before = slot_at s.machine.sessions p.session p.slot in
    let left = fewer_leaves s.machine.sessions (λ (y : Session). not (has_run_out s.machine.store.lease s.machine.leases (ticked s now).moment y.client)) p.session p.slot before is (inl refl) in
    elim left [
      | inl same ↦ sym same ∙ e
      | inr gone ↦ absurd (let none : None ≡ Some x = sym gone ∙ e in cc)
    ]

runs_for : (reader : ReplyReader) (start : Start) (s : ServerState) (bytes : List ℕ) (now : ℕ) (choice : Option ℕ) (call : Call) (r : Request) (q : Sequence)
    → IsBytes bytes → IsSessions s.machine.sessions → call_of bytes ≡ Accepted call → asked_of call call.procedure ≡ Some r → sequence_of r ≡ Some q
    → executes_by (ticked s now) (length bytes) (call_of bytes) ≡ true
    → Runs (server reader.find start) s (heading_of call r q) (seen reader.find (step s bytes now choice))
runs_for reader start s bytes now choice call r q fits is called asked begins does =
    let t = ticked s now in
    let size = length bytes in
    let id = id_of q.sessionid in
    let known = taken bytes call fits called in
    let request = request_is call r known asked in
    let ran = runs_here t.machine r call.who size q begins (sym (executes_is t size bytes call r called asked) ∙ does) in
    let told = told_compound t.machine r call.who size t.moment choice q ran in
    let a = compound t.machine r call.who size t.moment choice in
    let did = stepped_is s bytes now choice call r called asked in
    let at = judged slot.Fresh (slice_get told.session.slots q.slotid) q.sequenceid call.who.uid (compared r) (λ k. cc) told.fresh in
    let here : slot_at t.machine.sessions id q.slotid ≡ Some at.0 = ap (slot_in q.slotid) told.there ∙ at.1 in
    let sound : IsSessions t.machine.sessions = sessions_filtered s.machine.sessions (λ (x : Session). not (has_run_out s.machine.store.lease s.machine.leases t.moment x.client)) is in
    record {
      slot = at.0;
      stands = stood s now (record { session = id; slot = q.slotid }) at.0 is here;
      fresh = at.2;
      result = a.text;
      answer = ap (λ (y : Stepped). (seen reader.find y).answer) did ∙ answer_found reader call.xid a.text known.small;
      numbered = numbered_compound t.machine r call.who size t.moment choice q request.head.tag_fits (sequence_fits call.args r q request begins) ran;
      keeps =
          ap (λ (y : Stepped). slot_at y.state.machine.sessions id q.slotid) did
          ∙ (ap (λ (k : SessionTable). slot_at k id q.slotid) told.kept
          ∙ keep_there t.machine.sessions id q.slotid q.sequenceid call.who.uid (compared r) a.text at.0 sound here);
    }

pub runs : (reader : ReplyReader) (start : Start) (s : ServerState) (bytes : List ℕ) (now : ℕ) (choice : Option ℕ) (h : Heading) → IsBytes bytes → IsSessions s.machine.sessions
    → heading bytes ≡ Some h → executes_by (ticked s now) (length bytes) (call_of bytes) ≡ true
    → Runs (server reader.find start) s h (seen reader.find (step s bytes now choice))
runs reader start s bytes now choice h fits is e does =
    let from = heads bytes h e in
    subst (λ (h : Heading). Runs (server reader.find start) s h (seen reader.find (step s bytes now choice))) from.is
    (runs_for reader start s bytes now choice from.call from.request from.first fits is from.called from.asked from.begins does)

-- A refusal of SEQUENCE is none with NFS4_OK.

bad_past : (fault : Option Status) (v : Result Sequenced Status) (status : Status) → ((x : Status) → fault ≡ Some x → IsBad x)
    → (or_refuses v ≡ Refuses status → IsBad status) → past fault v ≡ Refuses status → IsBad status
bad_past None v status bad behind e = behind e
bad_past (Some x) v status bad behind e = let same : x ≡ status = cc in subst IsBad same (bad x refl)

bad_of_two : (a b : Bool) (x y z : Status) → IsBad x → IsBad y → first_fault ((a, x) ∷ (b, y) ∷ []) ≡ Some z → IsBad z
bad_of_two true b x y z bad_x bad_y e = subst IsBad (same_Some x z e) bad_x
bad_of_two false true x y z bad_x bad_y e = subst IsBad (same_Some y z e) bad_y
bad_of_two false false x y z bad_x bad_y e = absurd cc

is_refused : (x y : Status) → IsBad x → Refuses x ≡ Refuses y → IsBad y
is_refused x y bad e = let same : x ≡ y = cc in subst IsBad same bad

bad_verdict : (r : Request) (size : ℕ) (s : Sequence) (x : Session) (v : Verdict) (status : Status) → slot_says r size s x v ≡ Refuses status → IsBad status
bad_verdict r size s x slot.NoSlot status e = is_refused BadSlot status refl e
bad_verdict r size s x slot.Misordered status e = is_refused SeqMisordered status refl e
bad_verdict r size s x slot.FalseRetry status e = is_refused SeqFalseRetry status refl e
bad_verdict r size s x slot.Again status e = absurd cc
bad_verdict r size s x slot.Fresh status e =
    bad_past (fresh_fault r size x.channel) (Ok (RunsIn x.channel)) status
    (λ y is. bad_of_two (nat_lt x.channel.maxrequestsize size) (nat_lt x.channel.maxoperations r.declared) ReqTooBig TooManyOps y refl refl is) (λ k. absurd cc) e

bad_session : (r : Request) (who : Caller) (size : ℕ) (s : Sequence) (found : Option Session) (status : Status) → by_session r who size s found ≡ Refuses status → IsBad status
bad_session r who size s None status e = is_refused BadSession status refl e
bad_session r who size s (Some x) status e =
    let c = x.channel in
    let v = judge x.slots s.slotid s.sequenceid who.uid (compared r) in
    bad_past (slot_fault s c) (by_slot r size s x v) status
    (λ y is. bad_of_two (nat_le c.maxrequests s.slotid) (nat_le c.maxrequests s.highest_slotid) BadSlot BadHighSlot y refl refl is)
    (bad_verdict r size s x v status) e

-- A repeat.

past_runs : (fault : Option Status) (c : _) (reply : List ℕ) → past fault (Ok (RunsIn c)) ≡ Repeats reply → ⊥
past_runs None c reply e = absurd cc
past_runs (Some status) c reply e = absurd cc

again_slot : (r : Request) (size : ℕ) (s : Sequence) (x : Session) (reply : List ℕ) (fault : Option Status) (v : Verdict)
    → past fault (by_slot r size s x v) ≡ Repeats reply → (v ≡ slot.Again) × (reply ≡ kept x.slots s.slotid)
again_slot r size s x reply (Some status) v e = absurd cc
again_slot r size s x reply None slot.Fresh e = absurd (past_runs (fresh_fault r size x.channel) x.channel reply e)
again_slot r size s x reply None slot.Again e = (refl, cc)
again_slot r size s x reply None v e = absurd cc

pub again_session : (r : Request) (who : Caller) (size : ℕ) (s : Sequence) (found : Option Session) (reply : List ℕ) → by_session r who size s found ≡ Repeats reply
    → (session : Session) × (found ≡ Some session) × (judge session.slots s.slotid s.sequenceid who.uid (compared r) ≡ slot.Again) × (reply ≡ kept session.slots s.slotid)
again_session r who size s None reply e = absurd cc
again_session r who size s (Some session) reply e =
    let again = again_slot r size s session reply (slot_fault s session.channel) (judge session.slots s.slotid s.sequenceid who.uid (compared r)) e in
    (session, refl, again.0, again.1)

-- what a good SEQUENCE answers that does not run
record IsAgain (m : Machine) (r : Request) (who : Caller) (size : ℕ) (q : Sequence) (text : List ℕ) : Type 0 where
  reply : List ℕ
  verdict : sequence.sequenced m r who size q ≡ Repeats reply
  text_is : text ≡ reply

verdict_again : (m : Machine) (r : Request) (who : Caller) (size now : ℕ) (choice : Option ℕ) (q : Sequence) (more : List Item) (v : Sequenced)
    → (opaque opaque_limit).Fits r.tag → sequence.sequenced m r who size q ≡ v → (is_some (if_runs q v) || false) ≡ false
    → sequenced (in_session m r who now choice q more v).text ≡ true → IsAgain m r who size q (in_session m r who now choice q more v).text
verdict_again m r who size now choice q more (Refuses status) fits is e good =
    let bad = bad_session r who size q (session_at m.sessions (id_of q.sessionid)) status is in
    let said = front_spelled (status_number status) 1 53 (status_number status) r.tag [] (is_status_listing.small status) (omega arith) (omega arith)
    (is_status_listing.small status) fits in
    absurd (false≢true (sym bad ∙ (sym said ∙ good)))
verdict_again m r who size now choice q more (Repeats reply) fits is e good = record { reply = reply; verdict = is; text_is = refl }
verdict_again m r who size now choice q more (RunsIn c) fits is e good = absurd cc

items_again : (m : Machine) (r : Request) (who : Caller) (size now : ℕ) (choice : Option ℕ) (q : Sequence) (items : List Item) → (opaque opaque_limit).Fits r.tag
    → first_sequence items ≡ Some q → (is_some (first_runs m r who size items) || is_alone r.declared items) ≡ false
    → sequenced (by_first m r who size now choice items).text ≡ true → IsAgain m r who size q (by_first m r who size now choice items).text
items_again m r who size now choice q [] fits begins e good = absurd cc
items_again m r who size now choice q (Operation (Op.Sequence s) ∷ more) fits begins e good =
    subst (λ (q : Sequence). IsAgain m r who size q (in_session m r who now choice s more (sequence.sequenced m r who size s)).text) (same_Some s q begins)
    (verdict_again m r who size now choice s more (sequence.sequenced m r who size s) fits refl e good)
items_again m r who size now choice q (item ∷ more) fits begins e good = absurd cc

compound_again : (m : Machine) (r : Request) (who : Caller) (size now : ℕ) (choice : Option ℕ) (q : Sequence) → (opaque opaque_limit).Fits r.tag
    → sequence_of r ≡ Some q → executes m r who size ≡ false → sequenced (compound m r who size now choice).text ≡ true
    → IsAgain m r who size q (compound m r who size now choice).text
compound_again m r who size now choice q fits begins e good = elim (cases_Bool (r.minor == 1)) [
  | inl one ↦ rw one (items_again m r who size now choice q r.left fits (rw one at begins) (rw one at e) (rw one at good))
  | inr other ↦ absurd (let none : None ≡ Some q = rw other at begins in cc)
]

-- what is answered to a call of a request
told_answer : (reader : ReplyReader) (s : ServerState) (bytes : List ℕ) (now : ℕ) (choice : Option ℕ) (call : Call) (r : Request) (a : Answer) → IsBytes bytes
    → call_of bytes ≡ Accepted call → asked_of call call.procedure ≡ Some r → (seen reader.find (step s bytes now choice)).answer ≡ Some a
    → (a.xid ≡ call.xid) × (a.result ≡ (compound (ticked s now).machine r call.who (length bytes) (ticked s now).moment choice).text)
told_answer reader s bytes now choice call r a fits called asked e =
    let text = (compound (ticked s now).machine r call.who (length bytes) (ticked s now).moment choice).text in
    let known = taken bytes call fits called in
    let did = stepped_is s bytes now choice call r called asked in
    let is : Some (record { xid = call.xid; result = text }) ≡ Some a =
    sym (answer_found reader call.xid text known.small) ∙ (sym (ap (λ (y : Stepped). (seen reader.find y).answer) did) ∙ e) in
    let same = same_Some (record { xid = call.xid; result = text }) a is in
    (ap (λ (a : Answer). a.xid) (sym same), ap (λ (a : Answer). a.result) (sym same))

repeats_for : (reader : ReplyReader) (start : Start) (s : ServerState) (bytes : List ℕ) (now : ℕ) (choice : Option ℕ) (call : Call) (r : Request) (q : Sequence) (a : Answer)
    → IsBytes bytes → IsSessions s.machine.sessions → call_of bytes ≡ Accepted call → asked_of call call.procedure ≡ Some r → sequence_of r ≡ Some q
    → executes_by (ticked s now) (length bytes) (call_of bytes) ≡ false → (seen reader.find (step s bytes now choice)).answer ≡ Some a → sequenced a.result ≡ true
    → RepeatsOn (server reader.find start) s (heading_of call r q) a.result
repeats_for reader start s bytes now choice call r q a fits is called asked begins idle e good =
    let t = ticked s now in
    let size = length bytes in
    let id = id_of q.sessionid in
    let known = taken bytes call fits called in
    let request = request_is call r known asked in
    let said = told_answer reader s bytes now choice call r a fits called asked e in
    let again = compound_again t.machine r call.who size t.moment choice q request.head.tag_fits begins
    (sym (executes_is t size bytes call r called asked) ∙ idle) (ap sequenced (sym said.1) ∙ good) in
    let found = again_session r call.who size q (session_at t.machine.sessions id) again.reply again.verdict in
    let at = judged slot.Again (slice_get found.0.slots q.slotid) q.sequenceid call.who.uid (compared r) (λ k. cc) found.2 in
    let here : slot_at t.machine.sessions id q.slotid ≡ Some at.0 = ap (slot_in q.slotid) found.1 ∙ at.1 in
    let reply : again.reply ≡ at.0.reply = found.3 ∙ ap (λ (o : Option SlotState). option_map_or (λ (y : SlotState). y.reply) o []) at.1 in
    record {
      slot = at.0;
      stands = stood s now (record { session = id; slot = q.slotid }) at.0 is here;
      again = at.2;
      kept = said.1 ∙ (again.text_is ∙ reply);
    }

repeats : (reader : ReplyReader) (start : Start) (s : ServerState) (bytes : List ℕ) (now : ℕ) (choice : Option ℕ) (h : Heading) (a : Answer) → IsBytes bytes
    → IsSessions s.machine.sessions → heading bytes ≡ Some h → executes_by (ticked s now) (length bytes) (call_of bytes) ≡ false
    → (seen reader.find (step s bytes now choice)).answer ≡ Some a → sequenced a.result ≡ true → RepeatsOn (server reader.find start) s h a.result
repeats reader start s bytes now choice h a fits is e idle answer good =
    let from = heads bytes h e in
    subst (λ (h : Heading). RepeatsOn (server reader.find start) s h a.result) from.is
    (repeats_for reader start s bytes now choice from.call from.request from.first a fits is from.called from.asked from.begins idle answer good)

-- The xid of an answer, and what begins with no good SEQUENCE.

same_xid : (reader : ReplyReader) (s : ServerState) (bytes : List ℕ) (now : ℕ) (choice : Option ℕ) (h : Heading) (a : Answer) → IsBytes bytes → heading bytes ≡ Some h
    → (seen reader.find (step s bytes now choice)).answer ≡ Some a → a.xid ≡ h.xid
same_xid reader s bytes now choice h a fits e answer =
    let from = heads bytes h e in
    (told_answer reader s bytes now choice from.call from.request a fits from.called from.asked answer).0 ∙ ap (λ (h : Heading). h.xid) from.is

refused_mute : (reader : ReplyReader) (t : ServerState) (refusal : Refusal) → (seen reader.find (refused t refusal)).answer ≡ None
refused_mute reader t Silent = refl
refused_mute reader t (Mismatch xid) = refusal_found reader (Mismatch xid)
refused_mute reader t (Auth xid stat) = refusal_found reader (Auth xid stat)
refused_mute reader t (Accept xid stat) = refusal_found reader (Accept xid stat)

-- no heading, so no SEQUENCE in front
no_first : (call : Call) (r : Request) (o : Option Sequence) → option_map (heading_of call r) o ≡ None → o ≡ None
no_first call r None e = refl
no_first call r (Some s) e = absurd cc

no_answer : (o : Option Answer) (a : Answer) → o ≡ None → o ≡ Some a → ⊥
no_answer o a none some = let e : None ≡ Some a = sym none ∙ some in absurd cc

call_mute : (reader : ReplyReader) (t : ServerState) (size : ℕ) (choice : Option ℕ) (call : Call) (a : Answer) (p : Procedure) → IsCall call
    → option_and_then (heading_in call) (asked_of call p) ≡ None
    → (seen reader.find (by_procedure t call size choice p)).answer ≡ Some a → sequenced a.result ≡ false
call_mute reader t size choice call a Procedures.Null known none e =
    let is : Some (record { xid = call.xid; result = [] }) ≡ Some a =
    sym (answer_found reader call.xid [] known.small) ∙ (ap reader.find (append-nil (spell_head call.xid)) ∙ e) in
    ap sequenced (ap (λ (a : Answer). a.result) (sym (same_Some (record { xid = call.xid; result = [] }) a is)))
call_mute reader t size choice call a Procedures.Compound known none e = by (request_at call.args) refl none e
  where
    by : (o : Option Request) → request_at call.args ≡ o → option_and_then (heading_in call) o ≡ None
        → (seen reader.find (with_arguments t call size choice o)).answer ≡ Some a → sequenced a.result ≡ false
    by None is none e = absurd (no_answer _ a (refused_mute reader t (Accept call.xid GarbageArgs)) e)
    by (Some r) is none e =
        let request = request_takes call.args r known.args is in
        let text = (compound t.machine r call.who size t.moment choice).text in
        let same : Some (record { xid = call.xid; result = text }) ≡ Some a = sym (answer_found reader call.xid text known.small) ∙ e in
        ap sequenced (ap (λ (a : Answer). a.result) (sym (same_Some (record { xid = call.xid; result = text }) a same)))
        ∙ mute_compound t.machine r call.who size t.moment choice (record { bytes = call.args; request = request }) request.head.tag_fits
        (no_first call r (sequence_of r) none)

no_sequence : (reader : ReplyReader) (s : ServerState) (bytes : List ℕ) (now : ℕ) (choice : Option ℕ) (a : Answer) → IsBytes bytes → heading bytes ≡ None
    → (seen reader.find (step s bytes now choice)).answer ≡ Some a → sequenced a.result ≡ false
no_sequence reader s bytes now choice a fits none e =
    by (call_of bytes) refl none (sym (ap (λ (y : Stepped). (seen reader.find y).answer) (step_is s bytes now choice)) ∙ e)
  where
    by : (c : Called) → call_of bytes ≡ c → heading_by c ≡ None → (seen reader.find (reply_to (ticked s now) (length bytes) choice c)).answer ≡ Some a
        → sequenced a.result ≡ false
    by (Refused refusal) is none e = absurd (no_answer _ a (refused_mute reader (ticked s now) refusal) e)
    by (Accepted call) is none e = call_mute reader (ticked s now) (length bytes) choice call a call.procedure (taken bytes call fits is) none e

pub keeps_slots : (reader : ReplyReader) (start : Start) → KeepsSlots (server reader.find start)
keeps_slots reader start = record {
  Sound = λ s. IsSessions s.machine.sessions;
  Given = λ s p. IsGiven p.session s.machine.sessions;
  new_sound = record { rising = omega arith };
  step_sound = step_sound;
  stands = λ s p x is e. stands_given s.machine.sessions p.session p.slot x is e;
  stays_given = stays_given;
  same_xid = same_xid reader;
  no_sequence = λ s bytes now choice a fits none e good. false≢true (sym (no_sequence reader s bytes now choice a fits none e) ∙ sequenced_again a.result good);
  well_numbered = bears_sequenced;
  one_number = bears_one;
  runs = runs reader start;
  repeats = λ s bytes now choice h a fits is reads idle e good. repeats reader start s bytes now choice h a fits is reads idle e (sequenced_again a.result good);
  leaves = leaves reader start;
}

-- What runs is answered with a good SEQUENCE, which bears its slot and number.
pub answers_numbered : (reader : ReplyReader) (s : ServerState) (bytes : List ℕ) (now : ℕ) (choice : Option ℕ) (h : Heading) → IsBytes bytes → heading bytes ≡ Some h
    → executes_by (ticked s now) (length bytes) (call_of bytes) ≡ true
    → (result : List ℕ) × ((seen reader.find (step s bytes now choice)).answer ≡ Some (record { xid = h.xid; result = result }))
    × Bears result (record { place = h.place; number = h.compound.number })
answers_numbered reader s bytes now choice h fits e does =
    let from = heads bytes h e in
    let t = ticked s now in
    let size = length bytes in
    let known = taken bytes from.call fits from.called in
    let r = from.request in
    let request = request_is from.call r known from.asked in
    let ran = runs_here t.machine r from.call.who size from.first from.begins (sym (executes_is t size bytes from.call r from.called from.asked) ∙ does) in
    let a = compound t.machine r from.call.who size t.moment choice in (
      a.text,
      ap (λ (y : Stepped). (seen reader.find y).answer) (stepped_is s bytes now choice from.call r from.called from.asked)
          ∙ (answer_found reader from.call.xid a.text known.small ∙ ap (λ (y : Heading). let z : Option Answer = Some (record { xid = y.xid; result = a.text }) in z) from.is),
      subst (λ (y : Heading). Bears a.text (record { place = y.place; number = y.compound.number })) from.is
          (numbered_compound t.machine r from.call.who size t.moment choice from.first request.head.tag_fits (sequence_fits from.call.args r from.first request from.begins) ran),
    )

pub answers_well : (reader : ReplyReader) (s : ServerState) (bytes : List ℕ) (now : ℕ) (choice : Option ℕ) (h : Heading) → IsBytes bytes → heading bytes ≡ Some h
    → executes_by (ticked s now) (length bytes) (call_of bytes) ≡ true
    → (result : List ℕ) × ((seen reader.find (step s bytes now choice)).answer ≡ Some (record { xid = h.xid; result = result })) × IsSequenced result
answers_well reader s bytes now choice h fits e does =
    let told = answers_numbered reader s bytes now choice h fits e does in
    (told.0, told.1, bears_sequenced told.0 _ told.2)
