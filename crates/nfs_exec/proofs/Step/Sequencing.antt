-- What SEQUENCE makes of a number.
use Rattle.std.proofs.{Common.{◌≡◌, ℕ, Bool, true, false, List, [], ◌∷◌, Option, Some, None, refl, sym, ◌∙◌, ap}, lemmas.Bool.{eqb-true, eq-eqb, true≢false}}
use Rattle.std.proofs.lemmas.Slice.Eq.{bytes_eq-Decides}
use Rattle.std.specs.{Prelude.{Result, Ok, ◌==◌, ◌&&◌, not, nat_le, nat_lt, bytes_eq, slice_get, if◌then◌else◌}, Option.option_map_or}
use Rattle.nfs_xdr.specs.{Caller.Caller, Checks.first_fault, declared.status.Status.Status}
use Rattle.nfs_xdr.specs.declared.status.Status.TheVariants.{BadSlot, BadHighSlot, SeqFalseRetry, ReqTooBig, TooManyOps}
use Rattle.nfs_xdr.specs.Numbers.{next_number}
use Rattle.nfs_compound.specs.{declared.session_args.Sequence.Sequence, Request.Request}
use Rattle.nfs_slots.specs.{Slot.{SlotState, judge, judge_slot}, declared.slot.Verdict.Verdict}
use Rattle.nfs_slots.specs.declared.slot.Verdict.TheVariants.{Fresh, Again, FalseRetry, Misordered, NoSlot}
use Rattle.nfs_sessions.specs.{Id.id_of, Sessions.{Session, session_at}}
use Rattle.nfs_exec.specs.Step.{Machine.Machine, Sequence.{Sequenced, Refuses, Runs, compared, by_slot}}
use Rattle.nfs_exec.specs.Step.Parts.{past, slot_says, by_session, slot_fault, fresh_fault}
use Rattle.nfs_exec.specs.Step.Sequencing.{IsOn, TookAnother, NextNumberRuns, FalseRetriesAreTrue}
use Rattle.nfs_exec.proofs.Step.Terms.{or_refuses}

pub next_runs : NextNumberRuns
next_runs = λ m r who size s session x on number none fresh.
    ap (by_session r who size s) on.found ∙ rw (none, on.slot, eq-eqb s.sequenceid (next_number x.number) number, fresh) refl

-- Which verdict is refused so.

of_two : (a b : Bool) (x y status : Status) → (x ≡ status → ⊥) → (y ≡ status → ⊥) → first_fault ((a, x) ∷ (b, y) ∷ []) ≡ Some status → ⊥
of_two true b x y status apart other e = apart cc
of_two false true x y status apart other e = other cc
of_two false false x y status apart other e = cc

refused_by : (f : Option Status) (v : Result Sequenced Status) (status : Status) → (f ≡ Some status → ⊥) → past f v ≡ Refuses status → or_refuses v ≡ Refuses status
refused_by None v status apart e = e
refused_by (Some x) v status apart e = let same : x ≡ status = cc in absurd (apart (ap (λ (y : Status). let o : Option Status = Some y in o) same))

verdict_is : (r : Request) (size : ℕ) (s : Sequence) (x : Session) (v : Verdict) → slot_says r size s x v ≡ Refuses SeqFalseRetry → v ≡ FalseRetry
verdict_is r size s x NoSlot e = absurd cc
verdict_is r size s x Misordered e = absurd cc
verdict_is r size s x FalseRetry e = refl
verdict_is r size s x Again e = absurd cc
verdict_is r size s x Fresh e =
    let runs : Runs x.channel ≡ Refuses SeqFalseRetry =
    refused_by (fresh_fault r size x.channel) (Ok (Runs x.channel)) SeqFalseRetry
    (of_two (nat_lt x.channel.maxrequestsize size) (nat_lt x.channel.maxoperations r.declared) ReqTooBig TooManyOps SeqFalseRetry (λ k. cc) (λ k. cc)) e in
    absurd cc

-- What the slot keeps then.

false_when : (fresh apart same : Bool) → (if fresh then Fresh else if apart then Misordered else if same then Again else FalseRetry) ≡ FalseRetry → (apart ≡ false) × (same ≡ false)
false_when true apart same e = absurd cc
false_when false true same e = absurd cc
false_when false false true e = absurd cc
false_when false false false e = (refl, refl)

pub kept_when : (used same : Bool) → not (used && same) ≡ false → (used ≡ true) × (same ≡ true)
kept_when true true e = (refl, refl)
kept_when true false e = absurd (true≢false e)
kept_when false same e = absurd (true≢false e)

-- the slot stands, and says so
judged : (o : Option SlotState) (number uid : ℕ) (args : List ℕ) → option_map_or (λ (x : SlotState). judge_slot x number uid args) o NoSlot ≡ FalseRetry
    → (x : SlotState) × (o ≡ Some x) × (judge_slot x number uid args ≡ FalseRetry)
judged None number uid args e = absurd cc
judged (Some x) number uid args e = (x, refl, e)

took_another : (m : Machine) (r : Request) (who : Caller) (s : Sequence) (session : Session) (x : SlotState) → IsOn m s session x
    → judge_slot x s.sequenceid who.uid (compared r) ≡ FalseRetry → TookAnother m r who s
took_another m r who s session x on e =
    let parts = false_when (s.sequenceid == next_number x.number) (not (x.used && (s.sequenceid == x.number))) ((who.uid == x.uid) && bytes_eq (compared r) x.args) e in
    let kept = kept_when x.used (s.sequenceid == x.number) parts.0 in
    record {
      session = session;
      slot = x;
      on = on;
      used = kept.0;
      number = sym (eqb-true s.sequenceid x.number kept.1);
      another = λ uid args.
          let both : ((who.uid == x.uid) && bytes_eq (compared r) x.args) ≡ true =
          rw (eq-eqb who.uid x.uid (sym uid), (bytes_eq-Decides (compared r) x.args).1 (sym args)) refl in
          true≢false (sym both ∙ parts.1);
    }

false_in : (m : Machine) (r : Request) (who : Caller) (size : ℕ) (s : Sequence) (o : Option Session) → session_at m.sessions (id_of s.sessionid) ≡ o
    → by_session r who size s o ≡ Refuses SeqFalseRetry → TookAnother m r who s
false_in m r who size s None found e = absurd cc
false_in m r who size s (Some session) found e =
    let v = judge session.slots s.slotid s.sequenceid who.uid (compared r) in
    let refused = refused_by (slot_fault s session.channel) (by_slot r size s session v) SeqFalseRetry
    (of_two (nat_le session.channel.maxrequests s.slotid) (nat_le session.channel.maxrequests s.highest_slotid) BadSlot BadHighSlot SeqFalseRetry (λ k. cc) (λ k. cc)) e in
    let (x, slot, says) = judged (slice_get session.slots s.slotid) s.sequenceid who.uid (compared r) (verdict_is r size s session v refused) in
    took_another m r who s session x (record { found = found; slot = slot }) says

pub false_retries_are_true : FalseRetriesAreTrue
false_retries_are_true = λ m r who size s e. false_in m r who size s (session_at m.sessions (id_of s.sessionid)) refl e
