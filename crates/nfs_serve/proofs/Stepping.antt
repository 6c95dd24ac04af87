-- How the reply on the sheet is that of the step.
use Rattle.std.proofs.Common.{◌≡◌, ℕ, ◌≤◌, max, List, [], ◌++◌, length, drop, Option, Some, None, refl, sym, ap, subst, arith, inl, inr, ◌∙◌}
use Rattle.std.proofs.{lemmas.Bool.cases_Bool, lemmas.List.{drop_at, length-append}}
use Rattle.nfs_xdr.specs.{Codec.number, Text.IsBytes, SheetState.{SheetState, Puts}}
use Rattle.nfs_rpc.specs.{declared.refusal.Refusal.Refusal, declared.refusal.Refusal.TheVariants.{Silent, Mismatch, Auth, Accept}, Reply.spell_refusal}
use Rattle.nfs_rpc.specs.{HeadCodec.header, CallHead.{Call, Called, Accepted, call_of}}
use Rattle.nfs_rpc.proofs.HeadLaws.{call_taken}
use Rattle.nfs_lease.specs.{Renewals.has_run_out, Queue.IsLatest}
use Rattle.nfs_exec.specs.{Step.Machine.Machine, Step.Expiry.expired}
use Rattle.nfs_serve.specs.{Step.{ServerState, Stepped, refused, reply_to, step}, Server.IsAnswer, Engine.{PutsReply, PutsAnswer, outcome_of}}
use Rattle.nfs_serve.specs.declared.form.Outcome.{Outcome}
use Rattle.nfs_serve.specs.declared.form.Outcome.TheVariants as Outcomes

-- what a step is, once its call is known
pub step_of : (s : ServerState) (bytes : List ℕ) (now moment : ℕ) (choice : Option ℕ) (tables : Machine) (called : Called)
    → moment ≡ max s.moment now → tables ≡ expired moment s.machine → call_of bytes ≡ called
    → step s bytes now choice ≡ reply_to (record { machine = tables; moment = moment }) (length bytes) choice called
unfolding step
step_of s bytes now moment choice tables called taken is read =
    rw (is, read) (subst (λ (n : ℕ). reply_to (record { machine = expired n s.machine; moment = n }) (length bytes) choice called
    ≡ reply_to (record { machine = expired moment s.machine; moment = moment }) (length bytes) choice called) taken refl)

-- a reply that was put behind the front of the sheet
pub lies_behind : {r : Stepped} {old new : SheetState} {left : ServerState} → length old.bytes ≡ 8 → PutsReply r old new left → r.reply ≡ Some (drop 8 new.bytes)
lies_behind {r} {old} front h = h.reply ∙ ap Some (sym (ap (drop 8) h.put.bytes ∙ drop_at old.bytes h.text 8 front))

silence : spell_refusal Silent ≡ []
unfolding spell_refusal
silence = refl

-- what a refusal puts is its reply, where it is answered
pub refusal_puts : (s : ServerState) (refusal : Refusal) (old new : SheetState) → Puts old new (spell_refusal refusal)
    → PutsAnswer (outcome_of refusal) (refused s refusal) old new s
refusal_puts s Silent old new put = (refl, subst (Puts old new) silence put, refl)
refusal_puts s (Mismatch xid) old new put = record { text = _; reply = refl; put = put; state = refl }
refusal_puts s (Auth xid stat) old new put = record { text = _; reply = refl; put = put; state = refl }
refusal_puts s (Accept xid stat) old new put = record { text = _; reply = refl; put = put; state = refl }

-- what was put behind the front of the sheet is the answer
pub answer_lies : (outcome : Outcome) (r : Stepped) (old new : SheetState) (left : ServerState) → length old.bytes ≡ 8 → PutsAnswer outcome r old new left
    → IsAnswer outcome r.reply (drop 8 new.bytes) × (left ≡ r.state)
answer_lies Outcomes.Reply r old new left front h = (lies_behind front h, h.state)
answer_lies Outcomes.Silent r old new left front h = ((h.0, ap (drop 8) h.1.bytes ∙ drop_at old.bytes [] 8 front), h.2)

-- Leases.

-- what has run out takes its lease with it, and what is left was renewed no later
pub latest_expired : (m left : Machine) (before now : ℕ) → left ≡ expired now m → before ≤ now → IsLatest m.leases before → IsLatest left.leases now
latest_expired m left before now is le latest = subst (λ (k : Machine). IsLatest k.leases now) (sym is) (record {
  each = λ client moment e. elim (cases_Bool (has_run_out m.store.lease m.leases now client)) [
    | inl out ↦ absurd (let bad : None ≡ Some moment = rw out at e in cc)
    | inr stays ↦ (let h = latest.each client moment (rw stays at e) in omega (arith, h, le))
  ];
})

-- the arguments of a call are a part of its record
pub arguments_within : (bytes : List ℕ) (c : Call) → IsBytes bytes → call_of bytes ≡ Accepted c → length c.args ≤ length bytes
arguments_within bytes c fits read =
    let taken = call_taken bytes c fits read in
    let h = taken.0 in
    let spelled = ap length taken.3 in
    let a = length-append (number.spell c.xid) (number.spell 0 ++ (number.spell 2 ++ (header.spell h ++ c.args))) in
    let b = length-append (number.spell 0) (number.spell 2 ++ (header.spell h ++ c.args)) in
    let d = length-append (number.spell 2) (header.spell h ++ c.args) in
    let e = length-append (header.spell h) c.args in
    omega (arith, spelled, a, b, d, e)
