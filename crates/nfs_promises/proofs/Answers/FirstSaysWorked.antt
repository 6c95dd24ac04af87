-- What stands first in a compound, answered wrongly, computed.
use Rattle.std.proofs.Common.{◌≡◌, ◌≢◌, ℕ, ◌<◌, ◌≤◌, Bool, true, false, cond, List, [], ◌∷◌, ◌++◌, length, Some, None, get_or, refl, sym, ◌∙◌, ap, subst, arith, inl, inr}
use Rattle.std.proofs.lemmas.{Bool.{false≢true, leb-false, ltb-true}, Option.same_Some}
use Rattle.std.specs.Prelude.{◌==◌, ◌+◌, ◌-◌, ◌*◌, ◌^◌, nat_le, nat_lt, slice_get}
use Rattle.nfs_xdr.specs.{Numbers.next_number, Spelling.{number, hyper}, Tables.In, declared.status.Status.Status}
use Rattle.nfs_xdr.specs.declared.status.Status.TheVariants as S
use Rattle.nfs_compound.specs.{OpNum.op_number, Request.Request, declared.channel_attrs.ChannelAttrs.ChannelAttrs, declared.op.{Item.TheVariants.{Operation, Fault}}}
use Rattle.nfs_compound.specs.declared.session_args.{CreateSession.CreateSession, ExchangeId.ExchangeId, Sequence.Sequence}
use Rattle.nfs_compound.specs.declared.op.Op.TheVariants as Op
use Rattle.nfs_compound.specs.declared.op_num.OpNum.TheVariants as Num
use Rattle.nfs_results.specs.declared.res.{CreateSessionOk.CreateSessionOk, ExchangeIdOk.ExchangeIdOk, SequenceOk.SequenceOk}
use Rattle.nfs_results.specs.declared.res.Res.TheVariants as Res
use Rattle.nfs_results.specs.Results.{refusal, spell_compound_head, spell_result}
use Rattle.nfs_clients.specs.Roster.{ClientRecord}
use Rattle.nfs_slots.specs.Slot.{SlotState}
use Rattle.nfs_sessions.specs.Sessions.{Session}
use Rattle.nfs_exec.specs.Step.Machine.{Machine}
use Rattle.nfs_promises.specs.{Calls.OwnIds.answered, Locks.LockKeptWorked.outset, Runs.Requests.{session, words}}
use Rattle.nfs_promises.specs.Answers.FirstSays.{InSession, ByClient, FirstReason, FirstSays, No, Unread, Again, Yes, IsKept, IsSequenced, BySlot, ByRecord, ByRefusal}
use Rattle.nfs_promises.specs.Answers.FirstSaysWorked.{FirstsRefused, Lies, renews, with_bytes}
use Rattle.nfs_promises.proofs.{Answers.{FirstSays.one_status}, Runs.{Computing.computing, LastOperation.only}}

-- a refusal has 20 bytes, where the compound has no tag
refusal_length : (n : ℕ) (f : Status) (text : List ℕ) → (n == op_number Num.SetAttr) ≡ false → text ≡ spell_compound_head f [] 1 ++ spell_result (refusal n f) → length text ≡ 20
unfolding number
refusal_length n f text other is =
    ap (λ (t : List ℕ). length t) is ∙ ap (λ b. length (spell_compound_head f [] 1 ++ spell_result (cond b (Res.SetAttr f []) (Res.Refused n f)))) other

no_refusal : (n : ℕ) (f : Status) (text : List ℕ) → (n == op_number Num.SetAttr) ≡ false → nat_lt 20 (length text) ≡ true
    → text ≡ spell_compound_head f [] 1 ++ spell_result (refusal n f) → ⊥
no_refusal n f text other long is =
    let more : 20 < length text = ltb-true 20 (length text) long in
    let same : length text ≡ 20 = refusal_length n f text other is in
    absurd (omega (arith, more, same))

-- SEQUENCE

module _ (m : Machine) (r : Request) (a : Sequence) (s : Session) (x : SlotState) (one : m.sessions.sessions ≡ s ∷ []) (at : slice_get s.slots a.slotid ≡ Some x) (fresh : x.used ≡ false) where
  asked_is : (k : InSession m (Operation (Op.Sequence a))) → a ≡ k.asked
  asked_is k = let same : Operation (Op.Sequence a) ≡ Operation (Op.Sequence k.asked) = k.is in cc

  session_is : (k : InSession m (Operation (Op.Sequence a))) → k.session ≡ s
  session_is k = only (λ (t : Session). t ≡ s) m.sessions.sessions s one refl k.session k.there

  not_kept : (text : List ℕ) → IsKept m r (Operation (Op.Sequence a)) text → ⊥
  not_kept text (BySlot k y there used number is) =
      let same : x ≡ y = same_Some x y (sym at ∙ (ap (λ (a : Sequence). slice_get s.slots a.slotid) (asked_is k)
      ∙ (ap (λ (t : Session). slice_get t.slots k.asked.slotid) (sym (session_is k)) ∙ there))) in
      false≢true (sym fresh ∙ (ap (λ (x : SlotState). x.used) same ∙ used))
  not_kept text (ByRecord k body next kept is) = (let bad : Operation (Op.Sequence a) ≡ Operation (Op.CreateSession k.asked) = k.is in cc)
  not_kept text (ByRefusal k f next kept is) = (let bad : Operation (Op.Sequence a) ≡ Operation (Op.CreateSession k.asked) = k.is in cc)

-- the last byte of the flags
flags_told : (told : SequenceOk) (f : Status) (count : ℕ) (rest text : List ℕ) (none : ℕ) → told.sessionid ≡ session 1 → told.status_flags ≡ 0
    → text ≡ spell_compound_head f [] count ++ (spell_result (Res.Sequence told) ++ rest) → get_or text 55 none ≡ 0
unfolding computing
flags_told told f count rest text none id flags is =
    ap (λ (t : List ℕ). get_or t 55 none) is
    ∙ (ap (λ id. get_or (spell_compound_head f [] count ++ (spell_result (Res.Sequence (record told { sessionid = id })) ++ rest)) 55 none) id
    ∙ ap (λ flags. get_or (spell_compound_head f [] count ++ (spell_result (Res.Sequence (record told { sessionid = session 1; status_flags = flags })) ++ rest)) 55 none) flags)

eight : ◌≢◌ {A = ℕ} 8 0
eight e = absurd (omega arith)

-- .. and that of the highest slot
highest_told : (told : SequenceOk) (f : Status) (count : ℕ) (rest text : List ℕ) → told.sessionid ≡ session 1 → told.highest_slotid ≡ 3
    → text ≡ spell_compound_head f [] count ++ (spell_result (Res.Sequence told) ++ rest) → get_or text 47 0 ≡ 3
unfolding computing
highest_told told f count rest text id highest is =
    ap (λ (t : List ℕ). get_or t 47 0) is
    ∙ (ap (λ id. get_or (spell_compound_head f [] count ++ (spell_result (Res.Sequence (record told { sessionid = id })) ++ rest)) 47 0) id
    ∙ ap (λ n. get_or (spell_compound_head f [] count ++ (spell_result (Res.Sequence (record told { sessionid = session 1; highest_slotid = n })) ++ rest)) 47 0) highest)

three : ◌≢◌ {A = ℕ} 63 3
three e = absurd (omega arith)

-- a first SEQUENCE on its slot, in the only session, is answered by its result
sequence_lies : (m : Machine) (r : Request) (who : _) (size : ℕ) (refused : Bool) (a : Sequence) (text : List ℕ) (t : Machine) (s : Session) (x : SlotState)
    → m.sessions.sessions ≡ s ∷ [] → slice_get s.slots a.slotid ≡ Some x → x.used ≡ false → r.tag ≡ [] → nat_lt 20 (length text) ≡ true
    → (IsSequenced m r (Operation (Op.Sequence a)) text → ⊥) → FirstSays m r who size refused (Operation (Op.Sequence a)) text t → ⊥
sequence_lies m r who size refused a text t s x one at fresh tag long lies (No f is why) =
    no_refusal (op_number Num.Sequence) f text refl long (is ∙ ap (λ tag. spell_compound_head f tag 1 ++ spell_result (refusal (op_number Num.Sequence) f)) tag)
sequence_lies m r who size refused a text t s x one at fresh tag long lies (Unread n f is so) = (let bad : Operation (Op.Sequence a) ≡ Fault n f = is in cc)
sequence_lies m r who size refused a text t s x one at fresh tag long lies (Again kept) = not_kept m r a s x one at fresh text kept
sequence_lies m r who size refused a text t s x one at fresh tag long lies (Yes is) = lies is

flag_lies : (m : Machine) (r : Request) (who : _) (size : ℕ) (refused : Bool) (a : Sequence) (text : List ℕ) (t : Machine) (s : Session) (x : SlotState)
    → m.sessions.sessions ≡ s ∷ [] → slice_get s.slots a.slotid ≡ Some x → x.used ≡ false → r.tag ≡ [] → a.sessionid ≡ session 1 → nat_lt 20 (length text) ≡ true
    → get_or text 55 0 ≡ 8 → FirstSays m r who size refused (Operation (Op.Sequence a)) text t → ⊥
flag_lies m r who size refused a text t s x one at fresh tag id long flag = sequence_lies m r who size refused a text t s x one at fresh tag long (λ is.
    eight (sym flag ∙ flags_told is.told is.status is.count is.rest text 0 (is.session ∙ (ap (λ (a : Sequence). a.sessionid) (sym (asked_is m r a s x one at fresh is.of)) ∙ id)) is.flags
    (is.says ∙ ap (λ tag. spell_compound_head is.status tag is.count ++ (spell_result (Res.Sequence is.told) ++ is.rest)) tag)))

highest_lies : (m : Machine) (r : Request) (who : _) (size : ℕ) (refused : Bool) (a : Sequence) (text : List ℕ) (t : Machine) (s : Session) (x : SlotState)
    → m.sessions.sessions ≡ s ∷ [] → slice_get s.slots a.slotid ≡ Some x → x.used ≡ false → r.tag ≡ [] → a.sessionid ≡ session 1 → nat_lt 20 (length text) ≡ true
    → s.channel.maxrequests ≡ 4 → get_or text 47 0 ≡ 63 → FirstSays m r who size refused (Operation (Op.Sequence a)) text t → ⊥
highest_lies m r who size refused a text t s x one at fresh tag id long four told = sequence_lies m r who size refused a text t s x one at fresh tag long (λ is.
    (let slots : is.of.session.channel.maxrequests ≡ 4 = ap (λ (s : Session). s.channel.maxrequests) (session_is m r a s x one at fresh is.of) ∙ four in
    three (sym told ∙ highest_told is.told is.status is.count is.rest text (is.session ∙ (ap (λ (a : Sequence). a.sessionid) (sym (asked_is m r a s x one at fresh is.of)) ∙ id))
    (is.highest ∙ ap (λ n. n - 1) slots) (is.says ∙ ap (λ tag. spell_compound_head is.status tag is.count ++ (spell_result (Res.Sequence is.told) ++ is.rest)) tag))))

far : Lies outset renews (with_bytes 44 (words (63 ∷ [])) (answered outset renews))
unfolding computing
far lie = highest_lies _ _ _ _ _ _ _ _ _ _ refl refl refl refl refl refl refl refl (lie _ _ _ _ _ _ _ refl refl refl)

-- a refusal has no byte there
none_there : get_or (spell_compound_head S.BadSlot [] 1 ++ spell_result (refusal (op_number Num.Sequence) S.BadSlot)) 55 8 ≡ 8
unfolding number
none_there = refl

slot_lies : (m : Machine) (r : Request) (who : _) (size : ℕ) (refused : Bool) (a : Sequence) (t : Machine) (s : Session) (x : SlotState)
    → m.sessions.sessions ≡ s ∷ [] → slice_get s.slots a.slotid ≡ Some x → x.used ≡ false → r.tag ≡ [] → a.sessionid ≡ session 1
    → nat_le s.channel.maxrequests a.slotid ≡ false
    → FirstSays m r who size refused (Operation (Op.Sequence a)) (spell_compound_head S.BadSlot [] 1 ++ spell_result (refusal (op_number Num.Sequence) S.BadSlot)) t → ⊥
unfolding number
slot_lies m r who size refused a t s x one at fresh tag id within (No f is why) = by (subst (FirstReason m r who size refused (Operation (Op.Sequence a))) (sym status_is) why)
  where
    status_is : S.BadSlot ≡ f
    status_is = one_status S.BadSlot f _ _ (is ∙ ap (λ tag. spell_compound_head f tag 1 ++ spell_result (refusal (op_number Num.Sequence) f)) tag)

    by : FirstReason m r who size refused (Operation (Op.Sequence a)) S.BadSlot → ⊥
    by (k, inl far) =
        let most : s.channel.maxrequests ≤ a.slotid = subst (λ (t : Session). t.channel.maxrequests ≤ a.slotid) (session_is m r a s x one at fresh k)
        (subst (λ (b : Sequence). k.session.channel.maxrequests ≤ b.slotid) (sym (asked_is m r a s x one at fresh k)) far) in
        let less : a.slotid < s.channel.maxrequests = leb-false s.channel.maxrequests a.slotid within in
        absurd (omega (arith, most, less))
    by (k, inr none) =
        (let bad : Some x ≡ None = sym at ∙ (ap (λ (a : Sequence). slice_get s.slots a.slotid) (asked_is m r a s x one at fresh k)
        ∙ (ap (λ (t : Session). slice_get t.slots k.asked.slotid) (sym (session_is m r a s x one at fresh k)) ∙ none)) in cc)
slot_lies m r who size refused a t s x one at fresh tag id within (Unread n f is so) = (let bad : Operation (Op.Sequence a) ≡ Fault n f = is in cc)
slot_lies m r who size refused a t s x one at fresh tag id within (Again kept) = not_kept m r a s x one at fresh _ kept
slot_lies m r who size refused a t s x one at fresh tag id within (Yes is) =
    eight (sym none_there ∙ flags_told is.told is.status is.count is.rest _ 8 (is.session ∙ (ap (λ (a : Sequence). a.sessionid) (sym (asked_is m r a s x one at fresh is.of)) ∙ id)) is.flags
    (is.says ∙ ap (λ tag. spell_compound_head is.status tag is.count ++ (spell_result (Res.Sequence is.told) ++ is.rest)) tag))

-- CREATE_SESSION

slots_told : (told : CreateSessionOk) (client counter : ℕ) (text : List ℕ) → told.sessionid ≡ hyper client ++ hyper counter → told.fore_chan_attrs.maxrequests ≡ 4
    → text ≡ spell_compound_head S.Nfs4Ok [] 1 ++ spell_result (Res.CreateSession told) → get_or text 67 0 ≡ 4
unfolding computing
slots_told told client counter text id slots is =
    ap (λ (t : List ℕ). get_or t 67 0) is
    ∙ (ap (λ id. get_or (spell_compound_head S.Nfs4Ok [] 1 ++ spell_result (Res.CreateSession (record told { sessionid = id }))) 67 0) id
    ∙ ap (λ n. get_or (spell_compound_head S.Nfs4Ok [] 1 ++ spell_result (Res.CreateSession (record told {
      sessionid = hyper client ++ hyper counter;
      fore_chan_attrs = record told.fore_chan_attrs { maxrequests = n };
    }))) 67 0) slots)

many : ◌≢◌ {A = ℕ} 64 4
many e = absurd (omega arith)

two : ◌≢◌ {A = ℕ} 2 1
two e = absurd (omega arith)

module _ (m : Machine) (r : Request) (c : CreateSession) (k : ClientRecord) (one : m.clients.records ≡ k ∷ []) (first : c.sequence ≡ 1) (next : k.number ≡ 1) where
  no_repeat : (b : ByClient m (Operation (Op.CreateSession c))) → next_number b.asked.sequence ≡ b.record_of.number → ⊥
  no_repeat b same =
      let asked : c ≡ b.asked = (let is : Operation (Op.CreateSession c) ≡ Operation (Op.CreateSession b.asked) = b.is in cc) in
      let its : b.record_of.number ≡ 1 = only (λ (k : ClientRecord). k.number ≡ 1) m.clients.records k one next b.record_of b.there in
      two (ap next_number (sym first) ∙ (ap (λ (c : CreateSession). next_number c.sequence) asked ∙ (same ∙ its)))

  not_made : (text : List ℕ) → IsKept m r (Operation (Op.CreateSession c)) text → ⊥
  not_made text (BySlot b y there used number is) = (let bad : Operation (Op.CreateSession c) ≡ Operation (Op.Sequence b.asked) = b.is in cc)
  not_made text (ByRecord b body same kept is) = no_repeat b same
  not_made text (ByRefusal b f same kept is) = no_repeat b same

channel_lies : (m : Machine) (r : Request) (who : _) (size : ℕ) (refused : Bool) (c : CreateSession) (text : List ℕ) (t : Machine) (k : ClientRecord) (s : Session)
    → m.clients.records ≡ k ∷ [] → c.sequence ≡ 1 → k.number ≡ 1 → t.sessions.sessions ≡ s ∷ [] → s.channel.maxrequests ≡ 4 → r.tag ≡ [] → nat_lt 20 (length text) ≡ true
    → get_or text 67 0 ≡ 64 → FirstSays m r who size refused (Operation (Op.CreateSession c)) text t → ⊥
channel_lies m r who size refused c text t k s one first next made four tag long told (No f is why) =
    no_refusal (op_number Num.CreateSession) f text refl long (is ∙ ap (λ tag. spell_compound_head f tag 1 ++ spell_result (refusal (op_number Num.CreateSession) f)) tag)
channel_lies m r who size refused c text t k s one first next made four tag long told (Unread n f is so) = (let bad : Operation (Op.CreateSession c) ≡ Fault n f = is in cc)
channel_lies m r who size refused c text t k s one first next made four tag long told (Again kept) = not_made m r c k one first next text kept
channel_lies m r who size refused c text t k s one first next made four tag long told (Yes is) =
    let slots : is.session.channel.maxrequests ≡ 4 = only (λ (s : Session). s.channel.maxrequests ≡ 4) t.sessions.sessions s made four is.session is.there in
    many (sym told ∙ slots_told is.told is.session.client is.session.counter text is.id (ap (λ (a : ChannelAttrs). a.maxrequests) is.channel ∙ slots)
    (is.says ∙ ap (λ tag. spell_compound_head S.Nfs4Ok tag 1 ++ spell_result (Res.CreateSession is.told)) tag))

-- EXCHANGE_ID

id_told : (told : ExchangeIdOk) (text : List ℕ) → told.clientid ≡ 7 * 2 ^ 32 + 2 → text ≡ spell_compound_head S.Nfs4Ok [] 1 ++ spell_result (Res.ExchangeId told) → get_or text 27 0 ≡ 2
unfolding computing
id_told told text id is =
    ap (λ (t : List ℕ). get_or t 27 0) is ∙ ap (λ id. get_or (spell_compound_head S.Nfs4Ok [] 1 ++ spell_result (Res.ExchangeId (record told { clientid = id }))) 27 0) id

another_name : ◌≢◌ {A = List ℕ} (0x41 ∷ []) (0x42 ∷ [])
another_name same = (let bad : ◌≡◌ {A = ℕ} 0x41 0x42 = ap (λ (t : List ℕ). get_or t 0 0) same in absurd (omega arith))

id_lies : (m : Machine) (r : Request) (who : _) (size : ℕ) (refused : Bool) (e : ExchangeId) (text : List ℕ) (t : Machine) (a b : ClientRecord)
    → t.clients.records ≡ a ∷ b ∷ [] → a.owner ≡ 0x41 ∷ [] → b.id ≡ 7 * 2 ^ 32 + 2 → e.ownerid ≡ 0x42 ∷ [] → r.tag ≡ [] → nat_lt 20 (length text) ≡ true
    → get_or text 27 0 ≡ 1 → FirstSays m r who size refused (Operation (Op.ExchangeId e)) text t → ⊥
id_lies m r who size refused e text t a b both first second name tag long told (No f is why) =
    no_refusal (op_number Num.ExchangeId) f text refl long (is ∙ ap (λ tag. spell_compound_head f tag 1 ++ spell_result (refusal (op_number Num.ExchangeId) f)) tag)
id_lies m r who size refused e text t a b both first second name tag long told (Unread n f is so) = (let bad : Operation (Op.ExchangeId e) ≡ Fault n f = is in cc)
id_lies m r who size refused e text t a b both first second name tag long told (Again (BySlot k y there used number is)) = (let bad : Operation (Op.ExchangeId e) ≡ Operation (Op.Sequence k.asked) = k.is in cc)
id_lies m r who size refused e text t a b both first second name tag long told (Again (ByRecord k body next kept is)) = (let bad : Operation (Op.ExchangeId e) ≡ Operation (Op.CreateSession k.asked) = k.is in cc)
id_lies m r who size refused e text t a b both first second name tag long told (Again (ByRefusal k f next kept is)) = (let bad : Operation (Op.ExchangeId e) ≡ Operation (Op.CreateSession k.asked) = k.is in cc)
id_lies m r who size refused e text t a b both first second name tag long told (Yes is) = two (sym (id_told is.told text (sym is.id ∙ its is.record_of is.there (is.owner ∙ asked))
    (is.says ∙ ap (λ tag. spell_compound_head S.Nfs4Ok tag 1 ++ spell_result (Res.ExchangeId is.told)) tag)) ∙ told)
  where
    asked : is.asked.ownerid ≡ 0x42 ∷ []
    asked =
        let one : e ≡ is.asked = (let same : Operation (Op.ExchangeId e) ≡ Operation (Op.ExchangeId is.asked) = is.is in cc) in
        ap (λ (e : ExchangeId). e.ownerid) (sym one) ∙ name

    by : (c : ClientRecord) → In c (a ∷ b ∷ []) → c.owner ≡ 0x42 ∷ [] → c.id ≡ 7 * 2 ^ 32 + 2
    by c (inl same) owner = absurd (another_name (sym first ∙ (ap (λ (c : ClientRecord). c.owner) (sym same) ∙ owner)))
    by c (inr (inl same)) owner = ap (λ (c : ClientRecord). c.id) same ∙ second
    by c (inr (inr none)) owner = absurd none

    its : (c : ClientRecord) → In c t.clients.records → c.owner ≡ 0x42 ∷ [] → c.id ≡ 7 * 2 ^ 32 + 2
    its c there owner = by c (subst (In c) both there) owner

pub firsts_refused : FirstsRefused
unfolding computing
firsts_refused = record {
  flagged = λ lie. flag_lies _ _ _ _ _ _ _ _ _ _ refl refl refl refl refl refl refl (lie _ _ _ _ _ _ _ refl refl refl);
  far = far;
  no_slot = λ lie. slot_lies _ _ _ _ _ _ _ _ _ refl refl refl refl refl refl (lie _ _ _ _ _ _ _ refl refl refl);
  slots = λ lie. channel_lies _ _ _ _ _ _ _ _ _ _ refl refl refl refl refl refl refl refl (lie _ _ _ _ _ _ _ refl refl refl);
  another = λ lie. id_lies _ _ _ _ _ _ _ _ _ _ refl refl refl refl refl refl refl (lie _ _ _ _ _ _ _ refl refl refl);
}
