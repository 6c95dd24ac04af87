-- No slot keeps a reply that says NFS4ERR_BADSESSION of its SEQUENCE: what a slot keeps was answered to a request that ran.
use Rattle.std.proofs.Common.{◌≡◌, ◌⊎◌, inl, inr, ℕ, ◌<◌, ◌^◌, zero, suc, Bool, true, false, cond, List, [], ◌∷◌, ◌++◌, set, replicate, length, Option, Some}
use Rattle.std.proofs.{Common.{None, refl, sym, ◌∙◌, ap, subst}, lemmas.Option.{get_or_from_slice_get, slice_get_within}}
use Rattle.std.specs.{Prelude.{not, slice_get}, Option.option_map_or}
use Rattle.nfs_xdr.specs.{Spelling.number, Tables.In, Caller.Caller, Status.status_number, declared.status.Status.TheVariants.BadSession}
use Rattle.nfs_xdr.proofs.Lists.{in_at, in_filter, in_push, in_map}
use Rattle.nfs_compound.specs.{declared.session_args.Sequence.Sequence, Request.Request}
use Rattle.nfs_names.specs.{declared.start.Start.Start}
use Rattle.nfs_lease.specs.Renewals.{has_run_out}
use Rattle.nfs_slots.specs.Slot.{SlotState, kept, unused_slot}
use Rattle.nfs_slots.specs.Slot as slots
use Rattle.nfs_sessions.specs.{declared.id.SessionId.SessionId, Channel.granted, Id.id_of, Sessions.{Session, SessionTable, is_session, keep}}
use Rattle.nfs_exec.specs.{Step.Machine.Machine, Step.Sequence.compared, Step.Compound.compound}
use Rattle.nfs_exec.proofs.{Runs.SlotNumbers.IsHeld, Runs.SessionsBehind.{ran_in, quiet_compound, told_compound}}
use Rattle.nfs_serve.specs.{Step.{ServerState, new_state}}
use Rattle.nfs_promises.specs.{Network.{Endpoint.Arrival, ThisServer.ticked}, Runs.Points.{state_after, state_after_all, reached}}
use Rattle.nfs_promises.proofs.Network.{FirstOfReply.{first_said, first_there, tag_short}, RunsAreSequenced.answered_compound, ServerKeepsSlots.asked_is}
use Rattle.nfs_promises.proofs.Network.ServerKeepsSlots.{step_holds}

-- SEQUENCE with NFS4ERR_BADSESSION
abbrev pub bad_sequence : List ℕ
bad_sequence = number 53 ++ number (status_number BadSession)

abbrev pub IsGood : List ℕ → Type 0
IsGood reply = first_said reply ≡ bad_sequence → ⊥

abbrev pub KeepGood : SessionTable → Type 0
KeepGood t = (s : Session) → In s t.sessions → (x : SlotState) → In x s.slots → IsGood x.reply

none_good : IsGood []
unfolding number
none_good e = absurd cc

pub good_other : number 53 ++ number 0 ≡ bad_sequence → ⊥
unfolding number
good_other e = absurd cc

in_set : (xs : List SlotState) (i : ℕ) (new x : SlotState) → In x (set xs i new) → (x ≡ new) ⊎ In x xs
in_set [] i new x there = absurd there
in_set (y ∷ ys) zero new x (inl is) = inl is
in_set (y ∷ ys) zero new x (inr more) = inr (inr more)
in_set (y ∷ ys) (suc i) new x (inl is) = inr (inl is)
in_set (y ∷ ys) (suc i) new x (inr more) = elim (in_set ys i new x more) [ inl is ↦ inl is | inr there ↦ inr (inr there) ]

in_replicate : (n : ℕ) (a x : SlotState) → In x (replicate n a) → x ≡ a
in_replicate zero a x there = absurd there
in_replicate (suc n) a x (inl is) = is
in_replicate (suc n) a x (inr more) = in_replicate n a x more

-- what a slot keeps
pub kept_said : (xs : List SlotState) (slot : ℕ) → ((x : SlotState) → In x xs → IsGood x.reply) → IsGood (kept xs slot)
kept_said xs slot each = by (slice_get xs slot) refl
  where
    by : (o : Option SlotState) → slice_get xs slot ≡ o → IsGood (option_map_or (λ (x : SlotState). x.reply) o [])
    by None none = none_good
    by (Some x) found =
        each x (subst (λ x. In x xs) (get_or_from_slice_get xs slot x x found) (in_at xs slot x (slice_get_within xs slot x found)))

held_good : IsHeld KeepGood
held_good = record {
  fewer = λ t p is s there. is s (in_filter p t.sessions s there).0;
  made = λ t client wish is s there x slot. elim (in_push t.sessions _ s there) [
    | inr old ↦ is s old x slot
    | inl new ↦ (
        let unused : x ≡ unused_slot = in_replicate (granted wish.fore).maxrequests unused_slot x (subst (λ (s : Session). In x s.slots) new slot) in
        subst (λ (x : SlotState). IsGood x.reply) (sym unused) none_good)
  ];
}

kept_good : (t : SessionTable) (id : SessionId) (slot number uid : ℕ) (args reply : List ℕ) → IsGood reply → KeepGood t → KeepGood (keep t id slot number uid args reply)
kept_good t id slot number uid args reply good is s there x slotted =
    let (y, was, same) = in_map _ t.sessions s there in
    by y was (is_session id y) (subst (λ (s : Session). In x s.slots) same slotted)
  where
    by : (y : Session) → In y t.sessions → (b : Bool) → In x (cond b (record y { slots = slots.keep y.slots slot number uid args reply }) y).slots → IsGood x.reply
    by y was true slotted = elim (in_set y.slots slot _ x slotted) [
      | inl new ↦ subst (λ (x : SlotState). IsGood x.reply) (sym new) good
      | inr old ↦ is y was x old
    ]
    by y was false slotted = is y was x slotted

-- a request that ran was answered with a good SEQUENCE
pub ran_good : (m : Machine) (r : Request) (who : Caller) (size now : ℕ) (choice : Option ℕ) (s : Sequence) → length r.tag < 2 ^ 32 → ran_in m r who size ≡ Some s
    → IsGood (compound m r who size now choice).text
ran_good m r who size now choice s small ran bad =
    let a = answered_compound m r who size now choice s ran in
    good_other (sym (first_there a.status a.count r.tag small 53 0 _) ∙ (ap first_said (sym a.is) ∙ bad))

compound_good : (m : Machine) (r : Request) (who : Caller) (size now : ℕ) (choice : Option ℕ) → length r.tag < 2 ^ 32 → KeepGood m.sessions
    → KeepGood (compound m r who size now choice).machine.sessions
compound_good m r who size now choice small is = by (ran_in m r who size) refl
  where
    by : (o : Option Sequence) → ran_in m r who size ≡ o → KeepGood (compound m r who size now choice).machine.sessions
    by None none = quiet_compound KeepGood held_good m r who size now choice none is
    by (Some s) ran =
        let told = told_compound m r who size now choice s ran in
        subst KeepGood (sym told.kept) (kept_good m.sessions (id_of s.sessionid) s.slotid s.sequenceid who.uid (compared r) (compound m r who size now choice).text
        (ran_good m r who size now choice s small ran) is)

pub ticked_good : (s : ServerState) (now : ℕ) → KeepGood s.machine.sessions → KeepGood (ticked s now).machine.sessions
ticked_good s now is = held_good.fewer s.machine.sessions (λ (x : Session). not (has_run_out s.machine.store.lease s.machine.leases (ticked s now).moment x.client)) is

pub next_good : (s : ServerState) (c : Arrival) → KeepGood s.machine.sessions → KeepGood (state_after s c).machine.sessions
next_good s c is =
    let t = ticked s c.now in
    let here = ticked_good s c.now is in
    step_holds KeepGood s c.bytes c.now c.choice here (λ call r called asked.
    compound_good t.machine r call.who (length c.bytes) t.moment c.choice (tag_short call.args r (asked_is call call.procedure r asked)) here)

all_good : (s : ServerState) (records : List Arrival) → KeepGood s.machine.sessions → KeepGood (state_after_all s records).machine.sessions
all_good s [] is = is
all_good s (c ∷ more) is = all_good (state_after s c) more (next_good s c is)

pub reached_good : (start : Start) (records : List Arrival) → KeepGood (reached start records).machine.sessions
reached_good start records = all_good (new_state start) records (λ s there. absurd there)
