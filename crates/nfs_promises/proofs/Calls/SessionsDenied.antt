-- A session that stands is not answered NFS4ERR_BADSESSION, neither by what a call comes to nor by a reply that a slot keeps.
use Rattle.std.proofs.Common.{◌≡◌, ℕ, ◌+◌, ◌<◌, ◌^◌, Bool, true, false, cond, List, [], ◌∷◌, ◌++◌, append_assoc, length, Option, Some, None, refl, sym, ◌∙◌, ap, subst, inl, inr}
use Rattle.std.proofs.{lemmas.Bool.{cases_Bool, cases_lt, false≢true}, lemmas.Option.same_Some}
use Rattle.std.specs.{Prelude.{◌==◌, is_some}, Option.option_map_or}
use Rattle.nfs_xdr.specs.{Caller.Caller, Spelling.number, Status.status_number, declared.status.Status.Status}
use Rattle.nfs_xdr.specs.declared.status.Status.TheVariants as S
use Rattle.nfs_xdr.proofs.Lists.{find_in}
use Rattle.nfs_rpc.specs.{CallHead.{Call, Accepted, call_of}, Reply.spell_head}
use Rattle.nfs_compound.specs.{Request.{Request, item_number}, declared.{op.Item.{Item, TheVariants.Operation}, op_num.OpNum.OpNum}, OpNum.op_number}
use Rattle.nfs_compound.specs.declared.op.Op.TheVariants as Op
use Rattle.nfs_compound.specs.declared.op_num.OpNum.TheVariants as Num
use Rattle.nfs_results.specs.Results.{done_head, refusal, spell_compound_head, spell_result}
use Rattle.nfs_names.specs.{declared.start.Start.Start}
use Rattle.nfs_slots.specs.Slot.{SlotState}
use Rattle.nfs_sessions.specs.{declared.id.SessionId.SessionId, Id.id_of, Sessions.{Session, is_session, session_at}}
use Rattle.nfs_exec.specs.Step.{Compound.{bare, by_first, compound}, Machine.Machine, Run.is_here}
use Rattle.nfs_serve.specs.{Step.{ServerState, Stepped, asked_of}}
use Rattle.nfs_promises.specs.{Network.{Endpoint.{Arrival, Heading}, ThisServer.ticked}, Locks.LockKept.{renews_by, replaces_by}, Runs.Points.state_after}
use Rattle.nfs_promises.specs.{Runs.Points.{state_after_all, reached, taken, before}, Calls.SessionStays.{HasSession, StaysThere, ends_by}}
use Rattle.nfs_promises.specs.Calls.SessionsDenied.{SaysFirst, IsBadSession, BySequence, ByDestroy, HasEnded, Stands, Made, Ran, BadSessionIsTrue}
use Rattle.nfs_promises.specs.Answers.FirstSays.{session_named, FirstReason, FirstTrue, FirstSays, No, Unread, Again, Yes, BySlot, ByRecord, ByRefusal}
use Rattle.nfs_promises.proofs.Network.{AnsweredAgain.is_first, FirstOfReply.{first_said, first_there, none_there, same_status, tag_short, one_result, begins_so}}
use Rattle.nfs_promises.proofs.Network.ServerKeepsSlots.{asked_is, heads, stepped_is}
use Rattle.nfs_promises.proofs.Calls.NoBadSessionKept.{KeepGood, kept_said, ticked_good, next_good, reached_good}
use Rattle.nfs_promises.proofs.{Answers.FirstSays.{has_id, first_says, one_status}, Calls.{SessionMade.made_stays, SessionStays.sessions_stay}}

-- What stands first in a compound, and names a session that stands, is not refused so: that has no reason, and no slot keeps it.

nothing : (n k : ℕ) → [] ≡ number n ++ number k → ⊥
unfolding number
nothing n k e = absurd cc

bad_is : number (status_number S.Nfs4Ok) ≡ number (status_number S.BadSession) → ⊥
unfolding number
bad_is e = absurd cc

module _ (m : Machine) (r : Request) (who : Caller) (size now : ℕ) (choice : Option ℕ) (small : length r.tag < 2 ^ 32) (keeps : KeepGood m.sessions) where
  -- the first operation of a compound, with its status
  told : (n : ℕ) (f g : Status) (count : ℕ) (rest : List ℕ)
      → first_said (spell_compound_head g r.tag count ++ ((number n ++ number (status_number f)) ++ rest)) ≡ number n ++ number (status_number S.BadSession) → f ≡ S.BadSession
  told n f g count rest said =
      one_status f S.BadSession [] [] (ap (λ k. number k ++ []) (same_status n f S.BadSession (sym (first_there (status_number g) count r.tag small n (status_number f) rest) ∙ said)))

  module _ (i : Item) (id : List ℕ) (named : session_named i ≡ Some id) (some : is_some (session_at m.sessions (id_of id)) ≡ true)
      (spells : (f : Status) → spell_result (refusal (item_number i) f) ≡ (number (item_number i) ++ number (status_number f)) ++ [])
      (yes : (text : List ℕ) (t : Machine) → FirstTrue m r who i text t → (g : Status) × (count : ℕ) × (rest : List ℕ)
      × (text ≡ spell_compound_head g r.tag count ++ ((number (item_number i) ++ number (status_number S.Nfs4Ok)) ++ rest))) where
    abbrev Said : List ℕ → Type 0
    Said text = first_said text ≡ number (item_number i) ++ number (status_number S.BadSession)

    stands : FirstReason m r who size (is_here choice) i S.BadSession → ⊥
    stands (other, names, none) = by (session_at m.sessions (id_of id)) refl some
      where
        by : (o : Option Session) → session_at m.sessions (id_of id) ≡ o → is_some o ≡ true → ⊥
        by None at e = false≢true e
        by (Some s) at e =
            let there = find_in (is_session (id_of id)) m.sessions.sessions s at in
            none s there.0 (has_id s other (ap (λ n. is_session (id_of n) s) (sym (same_Some id other (sym named ∙ names))) ∙ there.1))

    not_so : (text : List ℕ) (t : Machine) → FirstSays m r who size (is_here choice) i text t → Said text → ⊥
    not_so text t (No f is why) said =
        stands (subst (FirstReason m r who size (is_here choice) i)
        (told (item_number i) f f 1 [] (ap first_said (sym (is ∙ ap (λ w. spell_compound_head f r.tag 1 ++ w) (spells f))) ∙ said)) why)
    not_so text t (Unread n f is so) said = (let bad : None ≡ Some id = ap session_named (sym is) ∙ named in cc)
    not_so text t (Again (BySlot k x there used number_is is)) said = kept_said k.session.slots k.asked.slotid (keeps k.session k.there)
        (ap (λ o. first_said (option_map_or (λ (x : SlotState). x.reply) o [])) there
        ∙ (ap first_said (sym is) ∙ (said ∙ ap (λ j. number (item_number j) ++ number (status_number S.BadSession)) k.is)))
    not_so text t (Again (ByRecord k body next kept is)) said = (let bad : None ≡ Some id = ap session_named (sym k.is) ∙ named in cc)
    not_so text t (Again (ByRefusal k f next kept is)) said = (let bad : None ≡ Some id = ap session_named (sym k.is) ∙ named in cc)
    not_so text t (Yes is) said =
        let (g, count, rest, says) = yes text t is in
        bad_is (ap (λ f. number (status_number f)) (told (item_number i) S.Nfs4Ok g count rest (ap first_said (sym says) ∙ said)))

    first_not : (more : List Item) → r.left ≡ i ∷ more → Said (compound m r who size now choice).text → ⊥
    first_not more list said = by (r.minor == 1) refl said
      where
        by : (b : Bool) → (r.minor == 1) ≡ b → Said (cond b (by_first m r who size now choice r.left) (bare r S.MinorVersMismatch m)).text → ⊥
        by true one said = not_so _ _ (first_says m r who size now choice i more _ refl) (ap (λ items. first_said (by_first m r who size now choice items).text) (sym list) ∙ said)
        by false other said = nothing (item_number i) (status_number S.BadSession) (sym (none_there (status_number S.MinorVersMismatch) 0 r.tag small) ∙ said)

-- A session that stands.

-- what the reply says is what its compound comes to
abbrev Says : OpNum → ServerState → Arrival → Call → Request → Type 0
Says n s c call r = first_said (compound (ticked s c.now).machine r call.who (length c.bytes) (ticked s c.now).moment c.choice).text
    ≡ number (op_number n) ++ number (status_number S.BadSession)

says : (n : OpNum) (s : ServerState) (c : Arrival) (call : Call) (r : Request) → call_of c.bytes ≡ Accepted call → asked_of call call.procedure ≡ Some r
    → SaysFirst n S.BadSession s c → Says n s c call r
says n s c call r called asked told =
    let text = (compound (ticked s c.now).machine r call.who (length c.bytes) (ticked s c.now).moment c.choice).text in
    let did = stepped_is s c.bytes c.now c.choice call r called asked in
    let sent : told.reply ≡ spell_head call.xid ++ text = same_Some _ _ (sym told.sent ∙ ap (λ (y : Stepped). y.reply) did) in
    ap first_said (sym (one_result told.reply call.xid text told.answer sent told.is)) ∙ begins_so (op_number n) S.BadSession told.answer.result told.first

never_bad : (id : SessionId) (s : ServerState) (c : Arrival) → KeepGood s.machine.sessions → HasSession id (before s c) → IsBadSession id s c → ⊥
never_bad id s c keeps has (BySequence h reads same told) =
    let m = (ticked s c.now).machine in
    let from = heads c.bytes h reads in
    let q = from.first in
    let r = from.request in
    let first = is_first r q from.begins in
    let here : id_of q.sessionid ≡ id = ap (λ (y : Heading). y.place.session) from.is ∙ same in
    first_not m r from.call.who (length c.bytes) (ticked s c.now).moment c.choice (tag_short from.call.args r (asked_is from.call from.call.procedure r from.asked)) (ticked_good s c.now keeps)
    (Operation (Op.Sequence q)) q.sessionid refl (ap (λ i. is_some (session_at m.sessions i)) here ∙ has) (λ f. refl)
    (λ text t is. (is.status, is.count, _, is.says ∙ ap (λ w. spell_compound_head is.status r.tag is.count ++ w) (append_assoc (done_head Num.Sequence) _ is.rest)))
    first.more first.list (says Num.Sequence s c from.call r from.called from.asked told)
never_bad id s c keeps has (ByDestroy call r sessionid more called asked first same told) =
    let m = (ticked s c.now).machine in
    first_not m r call.who (length c.bytes) (ticked s c.now).moment c.choice (tag_short call.args r (asked_is call call.procedure r asked)) (ticked_good s c.now keeps)
    (Operation (Op.DestroySession sessionid)) sessionid refl (ap (λ i. is_some (session_at m.sessions i)) same ∙ has) (λ f. refl)
    (λ text t is. (S.Nfs4Ok, 1, [], is.says)) more first (says Num.DestroySession s c call r called asked told)

-- one of the records ended it, or time did
ended : (id : SessionId) (lease last : ℕ) (s : ServerState) (between : List Arrival) (d : Arrival) → KeepGood s.machine.sessions → StaysThere id lease last s (between ++ d ∷ [])
    → IsBadSession id (state_after_all s between) d → HasEnded id lease last s between d
ended id lease last s [] d keeps stays bad = elim (cases_lt (last + lease) (taken s d)) [
  | inl past ↦ past
  | inr within ↦ absurd (never_bad id s d keeps (stays.1 within).0 bad)
]
ended id lease last s (c ∷ more) d keeps stays bad = elim (cases_lt (last + lease) (taken s c)) [
  | inl past ↦ inl (inl past)
  | inr within ↦ elim (cases_Bool (ends_by id s c)) [
    | inl ends ↦ inl (inr (inl ends))
    | inr other ↦ elim (cases_Bool (replaces_by id.client s c)) [
      | inl replaced ↦ inl (inr (inr replaced))
      | inr alone ↦ inr (ended id lease (cond (renews_by id.client s c) (taken s c) last) (state_after s c) more d (next_good s c keeps) ((stays.1 within).1 other alone) bad)
    ]
  ]
]

leave_from : (start : Start) (earlier : List Arrival) (c : Arrival) (id : SessionId) (between : List Arrival) (d : Arrival)
    → (let s = reached start earlier in Stands id s c → StaysThere id start.lease (taken s c) (state_after s c) (between ++ d ∷ []))
leave_from start earlier c id between d (Ran there) = sessions_stay start earlier c id there (between ++ d ∷ [])
leave_from start earlier c id between d (Made number text gives makes same) =
    made_stays start earlier c id number text gives makes same (between ++ d ∷ [])

pub bad_session_is_true : BadSessionIsTrue
bad_session_is_true start earlier c id between d there bad =
    let s = reached start earlier in
    ended id start.lease (taken s c) (state_after s c) between d (next_good s c (reached_good start earlier))
    (leave_from start earlier c id between d there) bad
