-- A session lasts through a compound that neither ends it nor puts another id in the place of its client.
use Rattle.std.proofs.Common.{◌≡◌, ◌≢◌, inl, inr, ℕ, Bool, true, false, cond, not, List, Option, Some, None, refl, sym, ◌∙◌, ap, subst}
use Rattle.std.proofs.lemmas.Bool.{eqb-true, ne_eqb, eq-eqb, and_parts, and_from, false≢true}
use Rattle.std.specs.Prelude.{◌==◌, ◌&&◌, filter, is_some, option_map}
use Rattle.nfs_xdr.specs.Caller.{Caller}
use Rattle.nfs_xdr.proofs.Lists.{find_past, find_push_some, find_map, some_or_none}
use Rattle.nfs_compound.specs.{declared.{op.Item.{Item, TheVariants.Operation}, session_args.{CreateSession.CreateSession, Sequence.Sequence}}, Request.Request}
use Rattle.nfs_compound.specs.declared.op.Op.TheVariants as Op
use Rattle.nfs_clients.specs.CreateSession as clients
use Rattle.nfs_slots.specs.Slot.{SlotState}
use Rattle.nfs_slots.specs.Slot as slots
use Rattle.nfs_sessions.specs.{Id.id_of, Laws.{is_id, with_slots}, declared.{channel.Wish.Wish, id.SessionId.SessionId, sessions.SessionFault.SessionFault}}
use Rattle.nfs_sessions.specs.Sessions.{Session, SessionTable, is_session, session_at, create_unless, create_fault, with_session}
use Rattle.nfs_names.specs.{Context.begins, Outcome.is_ok}
use Rattle.nfs_exec.specs.Step.{Machine.{Machine, MachineOutcome}, Run.{is_here, behind_here}, Parts.{wish_of, without_any_sessions, by_created}}
use Rattle.nfs_exec.specs.Step.{Sequence.compared, Compound.{first_item, renewed, begun, in_session, compound}, Laws.Asks}
use Rattle.nfs_exec.specs.Runs.LockHeld.{takes_place, replaces}
use Rattle.nfs_promises.specs.Runs.SessionLasts.{is_end, ends_session}
use Rattle.nfs_exec.specs.Step.Sequence as sequence
use Rattle.nfs_exec.proofs.{Step.{Behind.run_sessions, AloneKeeps.not_leaving}, Runs.{ByEvent.{by_answered, by_alone}, SessionsBehind.{ran_in, told_compound}}}

-- the session stands
abbrev pub Has : SessionId → SessionTable → Type 0
Has id t = is_some (session_at t id) ≡ true

-- Tables.

pub fewer_has : (id : SessionId) (t : SessionTable) (q : Session → Bool) → ((s : Session) → is_session id s ≡ true → q s ≡ true) → Has id t
    → Has id (record t { sessions = filter q t.sessions })
fewer_has id t q stays is = ap is_some (find_past (is_session id) q t.sessions stays) ∙ is

moved_named : (id : SessionId) (b : Bool) (change : List SlotState → List SlotState) (s : Session) → is_session id (cond b (record s { slots = change s.slots }) s) ≡ is_session id s
moved_named id true change s = refl
moved_named id false change s = refl

still_some : {X : Type 0} (f : X → X) (o : Option X) → is_some (option_map f o) ≡ is_some o
still_some f None = refl
still_some f (Some x) = refl

moved_has : (id at : SessionId) (t : SessionTable) (change : List SlotState → List SlotState) → Has id t → Has id (with_slots t at change)
moved_has id at t change is =
    let f : Session → Session = λ s. cond (is_session at s) (record s { slots = change s.slots }) s in
    ap is_some (find_map (is_session id) f t.sessions (λ s. moved_named id (is_session at s) change s)) ∙ (still_some f (session_at t id) ∙ is)

made_has : (id : SessionId) (t : SessionTable) (client : ℕ) (wish : Wish) → Has id t → Has id (with_session t client wish.fore)
made_has id t client wish is = elim (some_or_none (session_at t id)) [
  | inl some ↦ ap is_some (find_push_some (is_session id) t.sessions _ some.0 some.1)
  | inr none ↦ absurd (false≢true (sym (ap is_some none) ∙ is))
]

any_has : (id : SessionId) (t : SessionTable) (o : Option ℕ) → o ≢ Some id.client → Has id t → Has id (without_any_sessions t o)
any_has id t None other is = is
any_has id t (Some gone) other is =
    fewer_has id t (λ (s : Session). not (s.client == gone)) (λ s named.
    ap not (ne_eqb s.client gone (λ same. other (ap Some (sym same ∙ eqb-true s.client id.client (and_parts _ _ named).1))))) is

same_id : (id other : SessionId) (s : Session) → is_session id s ≡ true → is_session other s ≡ true → is_id id other ≡ true
same_id id other s one two =
    let first = and_parts _ _ one in
    let second = and_parts _ _ two in
    and_from (id.counter == other.counter) (id.client == other.client)
    (eq-eqb id.counter other.counter (sym (eqb-true s.counter id.counter first.0) ∙ eqb-true s.counter other.counter second.0))
    (eq-eqb id.client other.client (sym (eqb-true s.client id.client first.1) ∙ eqb-true s.client other.client second.1))

module _ (id : SessionId) where
  made : (m : Machine) (now : ℕ) (c : CreateSession) (wish : Wish) (fault : Option SessionFault) → Has id m.sessions
      → (let did = create_unless m.sessions c.clientid wish fault in
      is_ok (by_created m now c did.after did.answer).status && takes_place id.client m.clients (Operation (Op.CreateSession c)) ≡ false
      → Has id (by_created m now c did.after did.answer).machine.sessions)
  made m now c wish None is spares =
      any_has id (with_session m.sessions c.clientid wish.fore) (clients.leaving m.clients c.clientid) (not_leaving m.clients c.clientid id.client spares)
      (made_has id m.sessions c.clientid wish is)
  made m now c wish (Some fault) is spares = is

  -- the item neither ends the session nor takes its client's place
  abbrev Spares : Machine → Item → MachineOutcome → Type 0
  Spares m i o = (is_end id i && is_ok o.status ≡ false) × (is_ok o.status && takes_place id.client m.clients i ≡ false)

  first : (m : Machine) (declared : ℕ) (who : Caller) (now : ℕ) (refused : Bool) (i : Item) → Has id m.sessions → Spares m i (first_item m declared who now refused i)
      → Has id (first_item m declared who now refused i).machine.sessions
  first m declared who now refused i is = by_alone (λ o. Spares m i o → Has id o.machine.sessions) m declared who now refused i (λ status result spares. is)
      (λ e at spares. is) (λ c at runs spares.
      (let wish = wish_of m c in
      let did = create_unless m.sessions c.clientid wish (create_fault m.sessions wish) in
      made m now c wish (create_fault m.sessions wish) is
      (subst (λ j. is_ok (by_created m now c did.after did.answer).status && takes_place id.client m.clients j ≡ false) at spares.1)))
      (λ sessionid at stood spares. fewer_has id m.sessions (λ (s : Session). not (is_session (id_of sessionid) s))
      (λ s named. by sessionid s named (is_session (id_of sessionid) s) refl (subst (λ j. is_end id j && true ≡ false) at spares.0)) is)
      (λ client at none spares. is)
    where
      by : (sessionid : List ℕ) (s : Session) → is_session id s ≡ true → (b : Bool) → is_session (id_of sessionid) s ≡ b → is_id id (id_of sessionid) && true ≡ false → not b ≡ true
      by sessionid s named true both apart = absurd (false≢true (sym apart ∙ ap (λ b. b && true) (same_id id (id_of sessionid) s named both)))
      by sessionid s named false both apart = refl

  pub lasts : (m : Machine) (r : Request) (who : Caller) (size now : ℕ) (choice : Option ℕ) → Has id m.sessions
      → ends_session id m (Asks r who size now choice) ≡ false → replaces id.client m (Asks r who size now choice) ≡ false
      → Has id (compound m r who size now choice).machine.sessions
  lasts m r who size now choice is ends replaces = by_answered (λ a ds run. Has id a.machine.sessions) m r who size now choice (λ text. is)
      (λ item more one here. first m r.declared who now (is_here choice) item is (rw (one, here) at ends, rw (one, here) at replaces)) (λ s more c here runs.
      (let text = (in_session m r who now choice s more (sequence.Runs c)).text in
      let change : List SlotState → List SlotState = λ was. slots.keep was s.slotid s.sequenceid who.uid (compared r) text in
      subst (λ (t : SessionTable). Has id (with_slots t (id_of s.sessionid) change))
      (sym (run_sessions c.maxresponsesize (begun r s c) now (behind_here choice) (renewed m now s) (begins (id_of s.sessionid).client who) more))
      (moved_has id (id_of s.sessionid) m.sessions change is)))

-- and it stands behind a request that ran in it
pub ran_has : (id : SessionId) (m : Machine) (r : Request) (who : Caller) (size now : ℕ) (choice : Option ℕ) (q : Sequence) → ran_in m r who size ≡ Some q
    → id_of q.sessionid ≡ id → Has id (compound m r who size now choice).machine.sessions
ran_has id m r who size now choice q runs same =
    let told = told_compound m r who size now choice q runs in
    let text = (compound m r who size now choice).text in
    subst (λ (t : SessionTable). Has id t) (sym told.kept)
    (moved_has id (id_of q.sessionid) m.sessions (λ was. slots.keep was q.slotid q.sequenceid who.uid (compared r) text)
    (ap (λ (i : SessionId). is_some (session_at m.sessions i)) (sym same) ∙ ap is_some told.there))
