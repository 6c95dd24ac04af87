-- Each session has as many slots as its channel says, whatever comes to the server.
use Rattle.std.proofs.Common.{◌≡◌, inl, inr, ℕ, ◌+◌, suc, Bool, true, false, List, [], ◌∷◌, length, Option, Some, None, refl, sym, ◌∙◌, subst}
use Rattle.std.proofs.{lemmas.Option.same_Some, lemmas.List.{length-set, length-replicate}}
use Rattle.std.specs.Prelude.{not, filter, if◌then◌else◌, option_map}
use Rattle.nfs_names.specs.{declared.start.Start.Start}
use Rattle.nfs_lease.specs.Renewals.{has_run_out}
use Rattle.nfs_slots.specs.Slot.{SlotState, unused_slot}
use Rattle.nfs_slots.specs.Slot as slots
use Rattle.nfs_sessions.specs.{declared.{id.SessionId.SessionId, channel.Wish.Wish}, Channel.granted, Id.id_of, Laws.is_id}
use Rattle.nfs_sessions.specs.{Sessions.{Session, SessionTable, new_session, is_session, session_at, with_session, keep}, SessionTables.IsSessions}
use Rattle.nfs_sessions.proofs.{LawLemmas.sessions_are_a_map, TableLemmas.{sessions_filtered, sessions_with, slots_changed, is_counter}}
use Rattle.nfs_exec.specs.Step.Sequence.{compared}
use Rattle.nfs_exec.proofs.Runs.SlotNumbers.{IsHeld}
use Rattle.nfs_promises.specs.Network.{Endpoint.{Arrival, ran}, ThisServer.{ReplyReader, ticked, server}}
use Rattle.nfs_serve.specs.{Step.{ServerState, step}}
use Rattle.nfs_promises.proofs.Network.{SlotsLeft.found_fewer, ServerKeepsSlots.{step_holds, compound_holds}}

abbrev pub HasSlots : Session → Type 0
HasSlots s = length s.slots ≡ s.channel.maxrequests

pub record IsSlotted (t : SessionTable) : Type 0 where
  pub sound : IsSessions t
  pub slots : (id : SessionId) (s : Session) → session_at t id ≡ Some s → HasSlots s

fewer_slotted : (t : SessionTable) (p : Session → Bool) → IsSlotted t → IsSlotted (record t { sessions = filter p t.sessions })
fewer_slotted t p is = record {
  sound = sessions_filtered t p is.sound;
  slots = λ id s e. elim (found_fewer (λ (s : Session). s.counter) id.counter 1 (suc t.last) (is_session id) p t.sessions (is_counter id) is.sound.rising) [
    | inl same ↦ is.slots id s (sym same ∙ e)
    | inr gone ↦ absurd (let none : None ≡ Some s = sym gone ∙ e in cc)
  ];
}

made_slotted : (t : SessionTable) (client : ℕ) (wish : Wish) → IsSlotted t → IsSlotted (with_session t client wish.fore)
made_slotted t client wish is = record {
  sound = sessions_with t client wish is.sound;
  slots = λ id s e. by id s (is_id id (record { client = client; counter = t.last + 1 })) (sym ((sessions_are_a_map t is.sound).created client wish id) ∙ e);
}
  where
    by : (id : SessionId) (s : Session) (b : Bool)
        → (if b then Some (new_session (t.last + 1) client (granted wish.fore)) else session_at t id) ≡ Some s → HasSlots s
    by id s true e = subst HasSlots (same_Some _ s e) (length-replicate (granted wish.fore).maxrequests unused_slot)
    by id s false e = is.slots id s e

kept_slotted : (t : SessionTable) (at : SessionId) (slot number uid : ℕ) (args reply : List ℕ) → IsSlotted t → IsSlotted (keep t at slot number uid args reply)
kept_slotted t at slot number uid args reply is = record {
  sound = slots_changed t at change is.sound;
  slots = λ id s e. by id s (is_id id at) (sym ((sessions_are_a_map t is.sound).changed_at at id change) ∙ e);
}
  where
    change : List SlotState → List SlotState
    change was = slots.keep was slot number uid args reply

    moved : (o : Option Session) (s : Session) → ((x : Session) → o ≡ Some x → HasSlots x) → option_map (λ (x : Session). record x { slots = change x.slots }) o ≡ Some s → HasSlots s
    moved None s was e = absurd cc
    moved (Some x) s was e = subst HasSlots (same_Some _ s e) (length-set x.slots slot _ ∙ was x refl)

    by : (id : SessionId) (s : Session) (b : Bool)
        → (if b then option_map (λ (x : Session). record x { slots = change x.slots }) (session_at t id) else session_at t id) ≡ Some s → HasSlots s
    by id s true e = moved (session_at t id) s (is.slots id) e
    by id s false e = is.slots id s e

held_slotted : IsHeld IsSlotted
held_slotted = record { fewer = fewer_slotted; made = made_slotted }

pub ticked_slotted : (s : ServerState) (now : ℕ) → IsSlotted s.machine.sessions → IsSlotted (ticked s now).machine.sessions
ticked_slotted s now is = fewer_slotted s.machine.sessions (λ (x : Session). not (has_run_out s.machine.store.lease s.machine.leases (ticked s now).moment x.client)) is

pub step_slotted : (s : ServerState) (bytes : List ℕ) (now : ℕ) (choice : Option ℕ) → IsSlotted s.machine.sessions → IsSlotted (step s bytes now choice).state.machine.sessions
step_slotted s bytes now choice is =
    let t = ticked s now in
    let ticked_is = ticked_slotted s now is in
    step_holds IsSlotted s bytes now choice ticked_is (λ call r called asked.
    compound_holds IsSlotted held_slotted t.machine r call.who (length bytes) t.moment choice
    (λ q text ran. kept_slotted t.machine.sessions (id_of q.sessionid) q.slotid q.sequenceid call.who.uid (compared r) text ticked_is)
    ticked_is)

-- behind any records
pub ran_slotted : (reader : ReplyReader) (start : Start) (s : ServerState) (records : List Arrival) → IsSlotted s.machine.sessions
    → IsSlotted (ran (server reader.find start) s records).machine.sessions
ran_slotted reader start s [] is = is
ran_slotted reader start s (a ∷ more) is =
    ran_slotted reader start (step s a.bytes a.now a.choice).state more (step_slotted s a.bytes a.now a.choice is)
