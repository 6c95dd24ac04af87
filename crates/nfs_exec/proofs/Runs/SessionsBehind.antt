-- What a compound of which nothing runs in a session leaves of the table of sessions, and what one that runs leaves there.
use Rattle.std.proofs.Common.{◌≡◌, ℕ, Bool, List, Option, Some, None, refl, ap, subst}
use Rattle.std.specs.Prelude.{◌==◌, not, if◌then◌else◌}
use Rattle.nfs_xdr.specs.{Caller.Caller, declared.status.Status.Status}
use Rattle.nfs_compound.specs.{declared.channel_attrs.ChannelAttrs.ChannelAttrs, declared.op.Item.Item, Request.Request, declared.session_args.CreateSession.CreateSession}
use Rattle.nfs_compound.specs.declared.session_args.Sequence.{Sequence}
use Rattle.nfs_clients.specs.CreateSession as clients
use Rattle.nfs_slots.specs.{Slot.judge, declared.slot.Verdict.Verdict}
use Rattle.nfs_slots.specs.declared.slot.Verdict.TheVariants as slot
use Rattle.nfs_sessions.specs.{declared.channel.Wish.Wish, declared.sessions.SessionFault.SessionFault, Id.id_of}
use Rattle.nfs_sessions.specs.Sessions.{Session, SessionTable, is_session, session_at, create_unless, create_fault, with_session, keep}
use Rattle.nfs_names.specs.Context.{begins}
use Rattle.nfs_exec.specs.Step.{Machine.Machine, Parts.{wish_of, without_any_sessions}}
use Rattle.nfs_exec.specs.{Step.Sequence.compared, Step.Run.{is_here, behind_here}}
use Rattle.nfs_exec.specs.{Step.Compound.{Answered, first_item, renewed, begun, in_session, compound}, Step.Laws.first_runs}
use Rattle.nfs_exec.specs.Step.Sequence as sequence
use Rattle.nfs_exec.specs.Step.Parts.{past, by_session, slot_fault, by_created}
use Rattle.nfs_exec.proofs.{Step.Behind.run_sessions, Runs.ByEvent.{by_answered, by_compound, by_alone}, Runs.SlotNumbers.IsHeld}

-- the SEQUENCE behind which the compound runs
abbrev pub ran_in : Machine → Request → Caller → ℕ → Option Sequence
ran_in m r who size = if r.minor == 1 then first_runs m r who size r.left else None

module _ (P : SessionTable → Type 0) (held : IsHeld P) where
  without_any : (t : SessionTable) (o : Option ℕ) → P t → P (without_any_sessions t o)
  without_any t None is = is
  without_any t (Some client) is = held.fewer t (λ s. not (s.client == client)) is

  made : (m : Machine) (now : ℕ) (c : CreateSession) (wish : Wish) (fault : Option SessionFault) → P m.sessions
      → P (by_created m now c (create_unless m.sessions c.clientid wish fault).after (create_unless m.sessions c.clientid wish fault).answer).machine.sessions
  made m now c wish None is =
      without_any (with_session m.sessions c.clientid wish.fore) (clients.leaving m.clients c.clientid) (held.made m.sessions c.clientid wish is)
  made m now c wish (Some fault) is = is

  first : (m : Machine) (declared : ℕ) (who : Caller) (now : ℕ) (refused : Bool) (i : Item) → P m.sessions
      → P (first_item m declared who now refused i).machine.sessions
  first m declared who now refused i is = by_alone (λ o. P o.machine.sessions) m declared who now refused i (λ status result. is) (λ e at. is)
      (λ c at runs. (let wish = wish_of m c in made m now c wish (create_fault m.sessions wish) is))
      (λ sessionid at stood. held.fewer m.sessions (λ s. not (is_session (id_of sessionid) s)) is) (λ client at none. is)

  pub quiet_compound : (m : Machine) (r : Request) (who : Caller) (size now : ℕ) (choice : Option ℕ) → ran_in m r who size ≡ None
      → P m.sessions → P (compound m r who size now choice).machine.sessions
  quiet_compound m r who size now choice none is = by_compound (λ left ds run. run ≡ None → P left.sessions) m r who size now choice (λ none. is)
      (λ item none. first m r.declared who now (is_here choice) item is) (λ s more c same none. absurd (none_some none)) none
    where
      none_some : {s : Sequence} → Some s ≡ None → ⊥
      none_some e = cc

fresh_slot : (r : Request) (size : ℕ) (s : Sequence) (x : Session) (c : ChannelAttrs) (fault : Option Status) (v : Verdict)
    → past fault (sequence.by_slot r size s x v) ≡ sequence.Runs c → v ≡ slot.Fresh
fresh_slot r size s x c (Some status) v e = absurd cc
fresh_slot r size s x c None slot.Fresh e = refl
fresh_slot r size s x c None slot.Again e = absurd cc
fresh_slot r size s x c None slot.FalseRetry e = absurd cc
fresh_slot r size s x c None slot.Misordered e = absurd cc
fresh_slot r size s x c None slot.NoSlot e = absurd cc

fresh_session : (r : Request) (who : Caller) (size : ℕ) (s : Sequence) (found : Option Session) (c : ChannelAttrs) → by_session r who size s found ≡ sequence.Runs c
    → (session : Session) × (found ≡ Some session) × (judge session.slots s.slotid s.sequenceid who.uid (compared r) ≡ slot.Fresh)
fresh_session r who size s None c e = absurd cc
fresh_session r who size s (Some session) c e =
    (session, refl, fresh_slot r size s session c (slot_fault s session.channel) (judge session.slots s.slotid s.sequenceid who.uid (compared r)) e)

-- A request that ran: its number was fresh on its slot, which keeps the answer.
pub record IsTold (m : Machine) (r : Request) (who : Caller) (after : SessionTable) (text : List ℕ) (s : Sequence) : Type 0 where
  pub session : Session
  pub there : session_at m.sessions (id_of s.sessionid) ≡ Some session
  pub fresh : judge session.slots s.slotid s.sequenceid who.uid (compared r) ≡ slot.Fresh
  pub kept : after ≡ keep m.sessions (id_of s.sessionid) s.slotid s.sequenceid who.uid (compared r) text

abbrev IsToldBy : Machine → Request → Caller → Sequence → Answered → Type 0
IsToldBy m r who s a = IsTold m r who a.machine.sessions a.text s

pub told_compound : (m : Machine) (r : Request) (who : Caller) (size now : ℕ) (choice : Option ℕ) (t : Sequence) → ran_in m r who size ≡ Some t
    → IsToldBy m r who t (compound m r who size now choice)
told_compound m r who size now choice t =
    by_answered (λ a ds run. run ≡ Some t → IsToldBy m r who t a) m r who size now choice (λ text runs. absurd cc) (λ item more one at runs. absurd cc) (λ s more c at is runs.
    (let fresh = fresh_session r who size s (session_at m.sessions (id_of s.sessionid)) c is in
    let same : s ≡ t = cc in
    let did = in_session m r who now choice s more (sequence.Runs c) in
    subst (λ (s : Sequence). IsToldBy m r who s did) same (record {
      session = fresh.0;
      there = fresh.1;
      fresh = fresh.2;
      kept = ap (λ (k : SessionTable). keep k (id_of s.sessionid) s.slotid s.sequenceid who.uid (compared r) did.text)
          (run_sessions c.maxresponsesize (begun r s c) now (behind_here choice) (renewed m now s) (begins (id_of s.sessionid).client who) more);
    })))
