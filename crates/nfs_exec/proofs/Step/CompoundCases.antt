-- The whole compound: which of its cases a request is.
use Rattle.std.proofs.{Common.{◌≡◌, ℕ, Bool, List, ◌∷◌, ◌++◌, Option, Some, None, refl, sym, ◌∙◌, ap, subst}, lemmas.Bool.eq-eqb}
use Rattle.nfs_xdr.specs.{Caller.Caller, SheetState.{SheetState, Puts}, declared.status.Status.Status, declared.status.Status.TheVariants.Nfs4Ok}
use Rattle.nfs_compound.specs.{declared.op.Item.Item, declared.op.Item.TheVariants.Operation, Request.Request, declared.session_args.Sequence.Sequence}
use Rattle.nfs_compound.specs.declared.op.Op.TheVariants as Op
use Rattle.nfs_results.specs.{Results.spell_compound_head, OpenHead.{HeadsAt, SetsHead}}
use Rattle.nfs_slots.specs.{Slot.judge, declared.slot.Verdict.Verdict, declared.slot.Verdict.TheVariants.{Fresh, Again, FalseRetry, Misordered, NoSlot}}
use Rattle.nfs_sessions.specs.{Sessions.{Session, session_at}, Id.id_of}
use Rattle.nfs_names.specs.Outcome.{is_lack}
use Rattle.nfs_exec.specs.Step.Machine.{Machine}
use Rattle.nfs_exec.specs.{Step.Sequence.{compared, Sequenced, Refuses, Repeats, Runs, by_slot, sequenced}, Step.Parts.{past, by_session, slot_fault}}
use Rattle.nfs_exec.specs.{Step.Run.{only, is_here}, Step.Compound.{Answered, answers, first_item, in_session, by_first, compound}, Step.View.{Does, Answers}}
use Rattle.nfs_exec.proofs.{Step.Running.{choice_of, chosen}, Step.RepliesKept.closed_one}

-- what is left of the list decides nothing

verdict_same : (r : Request) (xs : List Item) (size : ℕ) (s : Sequence) (x : Session) (v : Verdict)
    → by_slot (record r { left = xs }) size s x v ≡ by_slot r size s x v
verdict_same r xs size s x NoSlot = refl
verdict_same r xs size s x Misordered = refl
verdict_same r xs size s x FalseRetry = refl
verdict_same r xs size s x Again = refl
verdict_same r xs size s x Fresh = refl

session_same : (r : Request) (xs : List Item) (who : Caller) (size : ℕ) (s : Sequence) (o : Option Session)
    → by_session (record r { left = xs }) who size s o ≡ by_session r who size s o
session_same r xs who size s None = refl
session_same r xs who size s (Some x) =
    ap (past (slot_fault s x.channel)) (verdict_same r xs size s x (judge x.slots s.slotid s.sequenceid who.uid (compared r)))

answer_same : (m : Machine) (r : Request) (xs : List Item) (who : Caller) (now : ℕ) (choice : Option ℕ) (s : Sequence) (more : List Item) (v : Sequenced) →
    in_session m (record r { left = xs }) who now choice s more v ≡ in_session m r who now choice s more v
answer_same m r xs who now choice s more (Refuses status) = refl
answer_same m r xs who now choice s more (Repeats reply) = refl
answer_same m r xs who now choice s more (Runs c) = refl

pub for_sequence : (m : Machine) (r q : Request) (who : Caller) (size now : ℕ) (choice : Option ℕ) (s : Sequence) (old new : SheetState) (left : Machine) →
    r.minor ≡ 1 → r.left ≡ Operation (Op.Sequence s) ∷ q.left → q ≡ record r { left = q.left } →
    Answers (in_session m q who now choice s q.left (sequenced m q who size s)) old new left → Answers (compound m r who size now choice) old new left
for_sequence m r q who size now choice s old new left one list is did =
    let whole : compound m r who size now choice ≡ in_session m r who now choice s q.left (sequenced m r who size s) = rw (eq-eqb r.minor 1 one, list) refl in
    let found = session_at m.sessions (id_of s.sessionid) in
    let same : in_session m q who now choice s q.left (sequenced m q who size s) ≡ in_session m r who now choice s q.left (sequenced m r who size s) =
    ap (λ (p : Request). in_session m p who now choice s q.left (sequenced m p who size s)) is
    ∙ answer_same m r q.left who now choice s q.left (by_session (record r { left = q.left }) who size s found)
    ∙ ap (in_session m r who now choice s q.left) (session_same r q.left who size s found) in
    subst (λ (a : Answered). Answers a old new left) (same ∙ sym whole) did

other_first : (m : Machine) (r : Request) (who : Caller) (size now : ℕ) (choice : Option ℕ) (a : Item) (more : List Item) → ((x : _) → a ≡ Operation (Op.Sequence x) → ⊥) →
    by_first m r who size now choice (a ∷ more) ≡ answers r (only (first_item m r.declared who now (is_here choice) a))
other_first m r who size now choice (Operation (Op.Sequence x)) more other = absurd (other x refl)
other_first m r who size now choice a more other = refl

pub for_other : (m : Machine) (r : Request) (who : Caller) (size now declared : ℕ) (a : Item) (more : List Item) (status : Status) (status_at count_at : ℕ)
    (tag : List ℕ) (before first second last : SheetState) (left : Machine) →
    r.minor ≡ 1 → r.left ≡ a ∷ more → ((x : _) → a ≡ Operation (Op.Sequence x) → ⊥) → declared ≡ r.declared → tag ≡ r.tag →
    HeadsAt status_at count_at before.bytes tag → Puts before first (spell_compound_head Nfs4Ok tag 0) →
    Does (first_item m declared who now (is_lack status) a) status left first second → SetsHead status_at count_at status 1 second last →
    (choice : Option ℕ) × Answers (compound m r who size now choice) before last left
for_other m r who size now declared a more status status_at count_at tag before first second last left one list other count named places put does sets =
    let choice = choice_of (is_lack status) in
    let o = first_item m declared who now (is_lack status) a in
    let whole : compound m r who size now choice ≡ answers r (only o) =
    rw (eq-eqb r.minor 1 one, list) (other_first m r who size now choice a more other)
    ∙ ap (λ (refused : Bool). answers r (only (first_item m r.declared who now refused a))) (chosen (is_lack status))
    ∙ ap (λ (n : ℕ). answers r (only (first_item m n who now (is_lack status) a))) (sym count) in
    let text : Puts before last (spell_compound_head o.status r.tag 1 ++ o.result) =
    subst (λ (t : List ℕ). Puts before last (spell_compound_head o.status t 1 ++ o.result)) named
    (subst (λ (u : Status). Puts before last (spell_compound_head u tag 1 ++ o.result)) does.status
    (closed_one before first second last status_at count_at status 1 tag o.result places put does.put sets)) in
    (choice, subst (λ (answered : Answered). Answers answered before last left) (sym whole) (record { put = text; machine = does.machine }))
