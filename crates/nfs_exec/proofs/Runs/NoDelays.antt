-- Nothing answers NFS4ERR_DELAY where memory is not refused.
use Rattle.std.proofs.Common.{◌≡◌, ℕ, ◌+◌, Bool, true, false, cond, eqb, ltb, not, List, [], ◌∷◌, ◌++◌, length, Option, Some, None, refl, sym, ◌∙◌, ap, subst, inl, inr}
use Rattle.std.proofs.lemmas.Bool.{cases_Bool, and_parts}
use Rattle.std.specs.{Prelude.{◌==◌, ◌&&◌, ◌||◌, nat_lt, nat_le, filter, is_some, unwrap_or, Result, Ok, Err, IfSome}, Option.{option_map, option_map_or}}
use Rattle.nfs_xdr.specs.{Caller.Caller, Tables.In, Checks.first_fault, declared.status.Status.Status}
use Rattle.nfs_xdr.specs.declared.status.Status.TheVariants.{RepTooBig, NotSupp, Delay, BadSession, BadSlot, BadHighSlot, SeqMisordered, SeqFalseRetry}
use Rattle.nfs_xdr.specs.declared.status.Status.TheVariants.{ReqTooBig, TooManyOps, StaleClientId, ClidInUse, ClientIdBusy, NotOnlyOp, OpNotInSession}
use Rattle.nfs_xdr.specs.declared.status.Status.TheVariants.{TooSmall, NoSpc, ServerFault, MinorVersMismatch}
use Rattle.nfs_xdr.proofs.Lists.{in_filter, in_map, in_push, find_in}
use Rattle.nfs_xdr.specs.Numbers.{next_number}
use Rattle.nfs_compound.specs.{declared.op.Op.Op, declared.op.Item.Item, declared.op.Item.TheVariants.Operation, Arguments.arguments}
use Rattle.nfs_compound.specs.{Request.{Request, item_number}, declared.session_args.CreateSession.CreateSession, declared.session_args.Sequence.Sequence}
use Rattle.nfs_results.specs.{Largest.largest, Results.{status_of_result, refusal}}
use Rattle.nfs_clients.specs.Roster.{ClientRecord, Roster, client_at, with_changed, is_unconfirmed_of, confirmed_of}
use Rattle.nfs_clients.specs.ExchangeId.{carries_confirmed, updates, same_verifier, same_user}
use Rattle.nfs_clients.specs.ExchangeId.{Ask, Case, Refuses, Stays, Adds, has_room, case_by, if_room, case_of, does, client_fault_status}
use Rattle.nfs_clients.specs.{Marks.has_reclaimed, declared.created.CreateResult.CreateResult}
use Rattle.nfs_clients.specs.declared.exchange_id.ClientFault.TheVariants as Faults
use Rattle.nfs_clients.specs.CreateSession as clients
use Rattle.nfs_clients.specs.declared.created.CreateResult.TheVariants as results
use Rattle.nfs_lease.specs.Renewals.{has_run_out}
use Rattle.nfs_slots.specs.{Slot.judge, declared.slot.Verdict.Verdict, declared.slot.Verdict.TheVariants.{Fresh, Again, FalseRetry, Misordered, NoSlot}}
use Rattle.nfs_sessions.specs.Id.{id_of}
use Rattle.nfs_sessions.specs.Sessions.{Session, SessionTable, session_at, create, create_checks, create_unless, create_fault}
use Rattle.nfs_sessions.specs.Sessions.{session_fault_status as session_status}
use Rattle.nfs_sessions.specs.{declared.channel.Wish.Wish, declared.id.SessionId.SessionId, declared.sessions.SessionFault.SessionFault}
use Rattle.nfs_sessions.specs.declared.sessions.SessionFault.TheVariants as Sessions
use Rattle.nfs_names.specs.{declared.context.Context.Context, Context.begins, State.{State, time_at}}
use Rattle.nfs_names.specs.{Outcome.{Outcome as OfStore, or_lack as or_lack_there, is_delay, is_ok}, Checks.current, Ending.has_open}
use Rattle.nfs_names.specs.Operation as names
use Rattle.nfs_names.proofs.{Faulted.status_of_refusal, Ones.each_of}
use Rattle.nfs_files.proofs.Outcomes as files
use Rattle.nfs_files.proofs.{Outcomes.for_each, Prompt.{IsPrompt, all_pass, first_passes, not_true, first_prompt, current_prompt, names_prompt}}
use Rattle.nfs_files.proofs.PromptFiles.{files_prompt}
use Rattle.nfs_exec.specs.Step.{Machine.{Machine, MachineOutcome, or_with_delay, with_refusal as exec_refuses, starts}, Parts.wish_of}
use Rattle.nfs_exec.specs.Step.Behind.{step, otherwise}
use Rattle.nfs_exec.specs.Step.CreateSession.{made_body}
use Rattle.nfs_exec.specs.{Step.Destroy.{destroy_session, client_fault}, Step.ExchangeId.exchange_id}
use Rattle.nfs_exec.specs.Step.{ReclaimComplete.reclaim_complete, Run.{in_room, reserve, is_here, behind_here}}
use Rattle.nfs_exec.specs.Step.{Place.{stands_alone, is_sequence, place_fault, status_behind}, Sequence.{compared, Sequenced, sequenced}}
use Rattle.nfs_exec.specs.{Step.Compound.{carried_out, first_item, bare, renewed, begun, in_session, by_first}, Step.Delayed.NothingDelays}
use Rattle.nfs_exec.specs.{Step.Laws.{MachineEvent, Expires, Asks, stepped, all_stepped}, Runs.Ops.{RanOp, ops, ops_in, ops_of}}
use Rattle.nfs_exec.specs.Step.Sequence as sequence
use Rattle.nfs_exec.specs.Step.Parts as parts
use Rattle.nfs_exec.proofs.Step.{InSteps.{exchange_id_is, create_session_is}, Terms.{by_fault, is_client, of_one, of_all, or_refuses}}
use Rattle.nfs_exec.specs.Step.Parts.{by_number, creates, by_created, did_exchange, ask_of}
use Rattle.nfs_exec.proofs.{Step.Behind.{IsKeptByEach, by_step, kept_run}, Runs.KeptByRuns.in_more}
use Rattle.nfs_exec.proofs.Step.Terms.{has_session, client_ended}
use Rattle.nfs_clients.proofs.Terms.{new_client, without_any, confirms}

-- One operation behind SEQUENCE.

undelayed : (g : Bool) (s : State) (x : Context) (n : _) (o : OfStore) → is_delay (status_of_result o.result) ≡ false
    → is_delay (status_of_result (or_lack_there (g && false) s x n o).result) ≡ false
undelayed true s x n o fails = fails
undelayed false s x n o fails = fails

refused_prompt : (n : ℕ) (s : Status) → is_delay s ≡ false → is_delay (status_of_result (refusal n s)) ≡ false
refused_prompt n s fails = ap is_delay (status_of_refusal n s) ∙ fails

one_prompt : (m : Machine) (v : _) → IsPrompt v → is_delay (of_one m v).status ≡ false
one_prompt m (Ok d) is = refl
one_prompt m (Err s) is = refused_prompt 58 s (is s refl)

all_prompt : (m : Machine) (x : Context) → is_delay (of_all m x).status ≡ false
all_prompt m x = elim (cases_Bool (has_reclaimed m.clients x.client)) [ inl again ↦ rw again refl | inr once ↦ rw once refl ]

reclaim_prompt : (m : Machine) (x : Context) (one : Bool) → is_delay (reclaim_complete m x one).status ≡ false
reclaim_prompt m x true = one_prompt m (current m.store x) (current_prompt m.store x)
reclaim_prompt m x false = all_prompt m x

behind_prompt : (op : Op) → is_delay (status_behind (Operation op)) ≡ false
behind_prompt (Op.Sequence s) = refl
behind_prompt op = refl

otherwise_prompt : (m : Machine) (x : Context) (op : Op) → is_delay (otherwise m x (Operation op)).outcome.status ≡ false
otherwise_prompt m x (Op.ReclaimComplete one) = reclaim_prompt m x one
otherwise_prompt m x op = refused_prompt (item_number (Operation op)) (status_behind (Operation op)) (behind_prompt op)

undelayed_if : (g : Bool) (s : State) (x : Context) (n : _) (v : Option OfStore) → IfSome v (λ o. is_delay (status_of_result o.result) ≡ false)
    → IfSome (option_map (or_lack_there (g && false) s x n) v) (λ o. is_delay (status_of_result o.result) ≡ false)
undelayed_if g s x n None prompt = tt
undelayed_if g s x n (Some o) prompt = undelayed g s x n o prompt

step_prompt : (m : Machine) (x : Context) (now : ℕ) (op : Op) → is_delay (step m x now false (Operation op)).outcome.status ≡ false
step_prompt m x now op =
    by_step (λ s. is_delay s.outcome.status ≡ false) m x now false (Operation op)
    (each_of (λ o. is_delay (status_of_result o.result) ≡ false) (names.comes_to false m.store x (time_at m.store now) (Operation op))
    (undelayed_if (names.grows m.store x op) m.store x (arguments op).op (names.one m.store x (time_at m.store now) op) (names_prompt m.store x (time_at m.store now) op)))
    (for_each (λ o. is_delay (status_of_result o.result) ≡ false) false m.store x (time_at m.store now) (Operation op)
    (undelayed (files.grows m.store x op) m.store x (arguments op).op (files.one m.store x (time_at m.store now) op) (files_prompt m.store x (time_at m.store now) op)))
    (λ none other. otherwise_prompt m x op)

room_prompt : (limit sofar now : ℕ) (m : Machine) (x : Context) (op : Op) → is_delay (in_room limit sofar now false m x (Operation op)).outcome.status ≡ false
room_prompt limit sofar now m x op = elim (cases_Bool (ltb limit (sofar + largest (Operation op) + reserve))) [
  | inl big ↦ rw big (refused_prompt (item_number (Operation op)) RepTooBig refl)
  | inr fits ↦ rw fits (step_prompt m x now op)
]

-- The operations of a compound.

item_prompt : (limit sofar now : ℕ) (m : Machine) (x : Context) (i : Item) (op : Op) → i ≡ Operation op → is_delay (in_room limit sofar now false m x i).outcome.status ≡ false
item_prompt limit sofar now m x i op is =
    subst (λ (j : Item). is_delay (in_room limit sofar now false m x j).outcome.status ≡ false) (sym is) (room_prompt limit sofar now m x op)

ops_prompt : (limit sofar now : ℕ) (m : Machine) (x : Context) (items : List Item) (d : RanOp) (op : Op) → In d (ops limit sofar now None m x items)
    → d.item ≡ Operation op → is_delay d.status ≡ false
ops_prompt limit sofar now m x [] d op there is = absurd there
ops_prompt limit sofar now m x (i ∷ more) d op there is =
    let s = in_room limit sofar now false m x i in
    let next = sofar + length s.outcome.result in
    elim there [
      | inl here ↦ ap (λ (d : RanOp). is_delay d.status) here ∙ item_prompt limit sofar now m x i op (sym (ap (λ (d : RanOp). d.item) here) ∙ is)
      | inr later ↦ ops_prompt limit next now s.outcome.machine s.context more d op
          (in_more (is_ok s.outcome.status) d (ops limit next now None s.outcome.machine s.context more) later) is
    ]

session_prompt : (m : Machine) (r : Request) (who : Caller) (now : ℕ) (s : Sequence) (more : List Item) (v : Sequenced) (d : RanOp) (op : Op)
    → In d (ops_in m r who now None s more v) → d.item ≡ Operation op → is_delay d.status ≡ false
session_prompt m r who now s more (sequence.Refuses status) d op there is = absurd there
session_prompt m r who now s more (sequence.Repeats reply) d op there is = absurd there
session_prompt m r who now s more (sequence.Runs c) d op there is =
    ops_prompt c.maxresponsesize (begun r s c) now (renewed m now s) (begins (id_of s.sessionid).client who) more d op there is

first_ops_prompt : (m : Machine) (r : Request) (who : Caller) (size now : ℕ) (items : List Item) (d : RanOp) (op : Op)
    → In d (ops_of m r who size now None items) → d.item ≡ Operation op → is_delay d.status ≡ false
first_ops_prompt m r who size now [] d op there is = absurd there
first_ops_prompt m r who size now (Operation (Op.Sequence s) ∷ more) d op there is = session_prompt m r who now s more (sequenced m r who size s) d op there is
first_ops_prompt m r who size now (item ∷ more) d op there is = absurd there

-- SEQUENCE.

refuses_prompt : (o : Option Status) (v : Result Sequenced Status) (status : Status) → ((fault : Status) → o ≡ Some fault → is_delay fault ≡ false)
    → (or_refuses v ≡ sequence.Refuses status → is_delay status ≡ false) → parts.past o v ≡ sequence.Refuses status → is_delay status ≡ false
refuses_prompt None v status fails more e = more e
refuses_prompt (Some fault) v status fails more e = let same : fault ≡ status = cc in ap is_delay (sym same) ∙ fails fault refl

refuses_as : (fault status : Status) → sequence.Refuses fault ≡ sequence.Refuses status → is_delay fault ≡ false → is_delay status ≡ false
refuses_as fault status e fails = let same : fault ≡ status = cc in ap is_delay (sym same) ∙ fails

verdict_prompt : (r : Request) (size : ℕ) (s : Sequence) (x : Session) (v : Verdict) (status : Status) → parts.slot_says r size s x v ≡ sequence.Refuses status
    → is_delay status ≡ false
verdict_prompt r size s x NoSlot status e = refuses_as BadSlot status e refl
verdict_prompt r size s x Misordered status e = refuses_as SeqMisordered status e refl
verdict_prompt r size s x FalseRetry status e = refuses_as SeqFalseRetry status e refl
verdict_prompt r size s x Again status e = absurd cc
verdict_prompt r size s x Fresh status e =
    refuses_prompt (parts.fresh_fault r size x.channel) (Ok (sequence.Runs x.channel)) status
    (first_prompt ((nat_lt x.channel.maxrequestsize size, ReqTooBig) ∷ (nat_lt x.channel.maxoperations r.declared, TooManyOps) ∷ []) refl) (λ e. absurd cc) e

by_session_prompt : (r : Request) (who : Caller) (size : ℕ) (s : Sequence) (o : Option Session) (status : Status) → parts.by_session r who size s o ≡ sequence.Refuses status
    → is_delay status ≡ false
by_session_prompt r who size s None status e = refuses_as BadSession status e refl
by_session_prompt r who size s (Some session) status e =
    refuses_prompt (parts.slot_fault s session.channel) (sequence.by_slot r size s session (judge session.slots s.slotid s.sequenceid who.uid (compared r))) status
    (first_prompt ((nat_le session.channel.maxrequests s.slotid, BadSlot) ∷ (nat_le session.channel.maxrequests s.highest_slotid, BadHighSlot) ∷ []) refl)
    (verdict_prompt r size s session (judge session.slots s.slotid s.sequenceid who.uid (compared r)) status) e

-- Outside a session. What a number of CREATE_SESSION came to is no NFS4ERR_DELAY.

abbrev pub IsCalm : ClientRecord → Type 0
IsCalm c = (status : Status) → c.kept ≡ Some (results.Refused status) → is_delay status ≡ false

abbrev pub AreCalm : Roster → Type 0
AreCalm t = (c : ClientRecord) → In c t.records → IsCalm c

abbrev calm_case : Case → Bool
calm_case (Refuses fault) = not (is_delay (client_fault_status fault))
calm_case case = true

rows_prompt : (rows : List (Bool × Case)) → all_pass calm_case rows ≡ true → calm_case (unwrap_or (first_fault rows) Adds) ≡ true
rows_prompt [] all = refl
rows_prompt (row ∷ rows) all =
    let p = and_parts _ _ all in
    elim (cases_Bool row.0) [ inl here ↦ rw here p.0 | inr other ↦ rw other (rows_prompt rows p.1) ]

case_prompt : (a : Ask) (o : Option ClientRecord) → calm_case (case_by a o) ≡ true
case_prompt a None = rows_prompt ((carries_confirmed a, Refuses Faults.Inval) ∷ (updates a, Refuses Faults.NoEnt) ∷ []) refl
case_prompt a (Some c) =
    rows_prompt ((carries_confirmed a, Refuses Faults.Inval)
    ∷ (updates a && not (same_verifier a c), Refuses Faults.NotSame)
    ∷ (updates a && not (same_user a c), Refuses Faults.Perm)
    ∷ (updates a, Stays c)
    ∷ (same_user a c && same_verifier a c, Stays c)
    ∷ (same_user a c, Adds)
    ∷ (a.has_open, Refuses Faults.ClidInUse)
    ∷ []) refl

room_calm : (b : Bool) (v : Case) → calm_case v ≡ true → calm_case (if_room b v) ≡ true
room_calm false Adds e = refl
room_calm false (Refuses fault) e = e
room_calm false (Stays c) e = e
room_calm true v e = e

exchanged_prompt : (m : Machine) (now : ℕ) (a : Ask) (v : Case) → calm_case v ≡ true → is_delay (did_exchange m now (does m.clients a v)).status ≡ false
exchanged_prompt m now a (Refuses fault) e = not_true (is_delay (client_fault_status fault)) e
exchanged_prompt m now a (Stays c) e = refl
exchanged_prompt m now a Adds e = refl

-- what is answered again was kept
verdict_kept : (o : Option ClientRecord) (number uid : ℕ) (result : CreateResult) → clients.verdict_by o number uid ≡ clients.Again result
    → (c : ClientRecord) × (o ≡ Some c) × (c.kept ≡ Some result)
verdict_kept None number uid result e = absurd cc
verdict_kept (Some c) number uid result e = (c, refl, by_tests (number == c.number) (c.uid == uid) (next_number number == c.number) c.kept e)
  where
    by_tests : (here mine before : Bool) (k : Option CreateResult)
        → cond here (cond mine clients.Runs clients.InUse) (cond before (option_map_or clients.Again k clients.Misordered) clients.Misordered) ≡ clients.Again result
        → k ≡ Some result
    by_tests true true before k e = absurd cc
    by_tests true false before k e = absurd cc
    by_tests false mine true None e = absurd cc
    by_tests false mine true (Some r) e = let same : r ≡ result = cc in ap Some same
    by_tests false mine false k e = absurd cc

abbrev calm_fault : SessionFault → Bool
calm_fault fault = not (is_delay (session_status fault))

made_prompt : (m : Machine) (now : ℕ) (c : CreateSession) (id : ℕ) (wish : Wish) (o : Option SessionFault)
    → ((fault : SessionFault) → o ≡ Some fault → is_delay (session_status fault) ≡ false)
    → is_delay (creates m now c (create_unless m.sessions id wish o)).status ≡ false
made_prompt m now c id wish None fails = refl
made_prompt m now c id wish (Some fault) fails = refused_prompt 43 (session_status fault) (fails fault refl)

created_prompt : (m : Machine) (now : ℕ) (c : CreateSession) (v : clients.Verdict)
    → ((status : Status) → v ≡ clients.Again (results.Refused status) → is_delay status ≡ false) → is_delay (by_number m now false c v).status ≡ false
created_prompt m now c clients.Stale kept = refused_prompt 43 StaleClientId refl
created_prompt m now c (clients.Again (results.Done body)) kept = refl
created_prompt m now c (clients.Again (results.Refused status)) kept = refused_prompt 43 status (kept status refl)
created_prompt m now c clients.Misordered kept = refused_prompt 43 SeqMisordered refl
created_prompt m now c clients.InUse kept = refused_prompt 43 ClidInUse refl
created_prompt m now c clients.Runs kept =
    made_prompt m now c c.clientid (wish_of m c) (create_fault m.sessions (wish_of m c)) (λ fault e.
    not_true (is_delay (session_status fault)) (first_passes calm_fault (create_checks m.sessions (wish_of m c)) refl fault e))

session_gone_prompt : (m : Machine) (sessionid : List ℕ) → is_delay (destroy_session m sessionid).status ≡ false
session_gone_prompt m sessionid = elim (cases_Bool (is_some (session_at m.sessions (id_of sessionid)))) [
  | inl stood ↦ rw stood refl
  | inr gone ↦ rw gone (refused_prompt 44 BadSession refl)
]

client_gone_prompt : (m : Machine) (client : ℕ) (o : Option Status) → ((fault : Status) → o ≡ Some fault → is_delay fault ≡ false)
    → is_delay (by_fault m 57 o (client_ended m client)).status ≡ false
client_gone_prompt m client None fails = refl
client_gone_prompt m client (Some fault) fails = refused_prompt 57 fault (fails fault refl)

carried_prompt : (m : Machine) (who : Caller) (now : ℕ) (op : Op) → AreCalm m.clients → is_delay (carried_out m who now false (Operation op)).status ≡ false
carried_prompt m who now (Op.ExchangeId e) calm =
    let a = ask_of m who e in
    ap (λ (o : MachineOutcome). is_delay o.status) (exchange_id_is m who now e)
    ∙ exchanged_prompt m now a (case_of m.clients a) (room_calm (has_room m.clients a.owner) (case_by a (confirmed_of m.clients a.owner)) (case_prompt a (confirmed_of m.clients a.owner)))
carried_prompt m who now (Op.CreateSession c) calm =
    ap (λ (o : MachineOutcome). is_delay o.status) (create_session_is m who now false c)
    ∙ created_prompt m now c (clients.create_verdict m.clients c.clientid c.sequence who.uid) (λ status e.
    (let (k, at, kept) = verdict_kept (client_at m.clients c.clientid) c.sequence who.uid (results.Refused status) e in
    calm k (find_in (λ (k : ClientRecord). k.id == c.clientid) m.clients.records k at).0 status kept))
carried_prompt m who now (Op.DestroySession sessionid) calm = session_gone_prompt m sessionid
carried_prompt m who now (Op.DestroyClientId client) calm =
    client_gone_prompt m client (client_fault m client) (λ fault e. not_true (is_delay fault) (first_passes (λ s. not (is_delay s)) (
    (not (is_client m.clients client), StaleClientId)
    ∷ (has_session m.sessions client || has_open m.store client, ClientIdBusy)
    ∷ []) refl fault e))
carried_prompt m who now op calm = refused_prompt (item_number (Operation op)) NotSupp refl

placed_prompt : (m : Machine) (n : ℕ) (o : Option Status) (done : MachineOutcome) → ((fault : Status) → o ≡ Some fault → is_delay fault ≡ false) → is_delay done.status ≡ false
    → is_delay (by_fault m n o done).status ≡ false
placed_prompt m n None done fails is = is
placed_prompt m n (Some fault) done fails is = refused_prompt n fault (fails fault refl)

alone_prompt : (m : Machine) (declared : ℕ) (who : Caller) (now : ℕ) (op : Op) → AreCalm m.clients
    → is_delay (first_item m declared who now false (Operation op)).status ≡ false
alone_prompt m declared who now op calm =
    placed_prompt m (item_number (Operation op)) (place_fault declared (Operation op)) (carried_out m who now false (Operation op))
    (first_prompt ((stands_alone op && nat_lt 1 declared, NotOnlyOp) ∷ (not (stands_alone op || is_sequence op), OpNotInSession) ∷ []) refl)
    (carried_prompt m who now op calm)

-- And so it stays.

calm_filtered : (t : Roster) (p : ClientRecord → Bool) → AreCalm t → AreCalm (record t { records = filter p t.records })
calm_filtered t p calm c there = calm c (in_filter p t.records c there).0

calm_changed : (t : Roster) (id : ℕ) (f : ClientRecord → ClientRecord) → ((c : ClientRecord) → IsCalm c → IsCalm (f c)) → AreCalm t → AreCalm (with_changed t id f)
calm_changed t id f keeps calm c there =
    let (x, was, is) = in_map _ t.records c there in
    subst IsCalm (sym is) (elim (x.id == id) as (λ v. IsCalm (cond v (f x) x)) [ true ↦ keeps x (calm x was) | false ↦ calm x was ])

calm_pushed : (t : Roster) (xs : List ClientRecord) (new : ClientRecord) (last : ℕ) → ((c : ClientRecord) → In c xs → IsCalm c) → IsCalm new
    → AreCalm (record t { records = xs ++ new ∷ []; last = last })
calm_pushed t xs new last calm is c there = elim (in_push xs new c there) [ inl here ↦ subst IsCalm (sym here) is | inr was ↦ calm c was ]

none_kept : (c : ClientRecord) → c.kept ≡ None → IsCalm c
none_kept c none status e = absurd (let bad : None ≡ Some (results.Refused status) = sym none ∙ e in cc)

calm_done : (body : List ℕ) (c : ClientRecord) → IsCalm c → IsCalm (clients.keeps (results.Done body) c)
calm_done body c calm status e = absurd (let bad : Some (results.Done body) ≡ Some (results.Refused status) = e in cc)

some_refused : (a b : Status) → Some (results.Refused a) ≡ Some (results.Refused b) → a ≡ b
some_refused a b e = cc

calm_refused : (fault : SessionFault) (c : ClientRecord) → IsCalm c → IsCalm (clients.keeps (results.Refused (session_status fault)) c)
calm_refused Sessions.TooSmall c calm status e = ap is_delay (sym (some_refused TooSmall status e))
calm_refused Sessions.NoSpc c calm status e = ap is_delay (sym (some_refused NoSpc status e))
calm_refused Sessions.ServerFault c calm status e = ap is_delay (sym (some_refused ServerFault status e))
calm_refused Sessions.Memory c calm status e = calm status e

calm_exchanged : (m : Machine) (now : ℕ) (a : Ask) (v : Case) → AreCalm m.clients → AreCalm (did_exchange m now (does m.clients a v)).machine.clients
calm_exchanged m now a (Refuses fault) calm = calm
calm_exchanged m now a (Stays c) calm = calm
calm_exchanged m now a Adds calm =
    calm_pushed m.clients (filter (λ c. not (is_unconfirmed_of a.owner c)) m.clients.records) (new_client m.clients a.owner a.verifier a.uid) (m.clients.last + 1)
    (calm_filtered m.clients (λ c. not (is_unconfirmed_of a.owner c)) calm) (none_kept (new_client m.clients a.owner a.verifier a.uid) refl)

calm_delayed : (m : Machine) (o : MachineOutcome) (refused : Bool) (n : ℕ) → AreCalm m.clients → AreCalm o.machine.clients → AreCalm (or_with_delay refused m n o).machine.clients
calm_delayed m o refused n before after = go (refused && is_ok o.status)
  where
    go : (b : Bool) → AreCalm (cond b (exec_refuses m n Delay) o).machine.clients
    go true = before
    go false = after

calm_without : (t : Roster) (o : Option ℕ) → AreCalm t → AreCalm (without_any t o)
calm_without t None calm = calm
calm_without t (Some gone) calm = calm_filtered t (λ c. not (c.id == gone)) calm

calm_made : (m : Machine) (now : ℕ) (c : CreateSession) (t : SessionTable) (v : Result SessionId SessionFault) → AreCalm m.clients
    → AreCalm (by_created m now c t v).machine.clients
calm_made m now c t (Ok id) calm =
    calm_changed (clients.with_confirmed m.clients c.clientid) c.clientid (clients.keeps (results.Done (made_body c id))) (calm_done (made_body c id))
    (calm_changed (without_any m.clients (clients.leaving m.clients c.clientid)) c.clientid confirms (λ k is. is)
    (calm_without m.clients (clients.leaving m.clients c.clientid) calm))
calm_made m now c t (Err fault) calm =
    calm_changed m.clients c.clientid (clients.keeps (results.Refused (session_status fault))) (calm_refused fault) calm

calm_created : (m : Machine) (now : ℕ) (refused : Bool) (c : CreateSession) (v : clients.Verdict) → AreCalm m.clients → AreCalm (by_number m now refused c v).machine.clients
calm_created m now refused c clients.Stale calm = calm
calm_created m now refused c (clients.Again (results.Done body)) calm = calm
calm_created m now refused c (clients.Again (results.Refused status)) calm = calm
calm_created m now refused c clients.Misordered calm = calm
calm_created m now refused c clients.InUse calm = calm
calm_created m now refused c clients.Runs calm =
    let did = create m.sessions c.clientid (wish_of m c) in
    calm_delayed m (creates m now c did) refused 43 calm (calm_made m now c did.after did.answer calm)

calm_session : (m : Machine) (sessionid : List ℕ) → AreCalm m.clients → AreCalm (destroy_session m sessionid).machine.clients
calm_session m sessionid calm = elim (cases_Bool (is_some (session_at m.sessions (id_of sessionid)))) [ inl stood ↦ rw stood calm | inr gone ↦ rw gone calm ]

calm_destroyed : (m : Machine) (client : ℕ) (o : Option Status) → AreCalm m.clients → AreCalm (by_fault m 57 o (client_ended m client)).machine.clients
calm_destroyed m client None calm = calm_filtered m.clients (λ c. not (c.id == client)) calm
calm_destroyed m client (Some fault) calm = calm

calm_carried : (m : Machine) (who : Caller) (now : ℕ) (refused : Bool) (i : Item) → AreCalm m.clients → AreCalm (carried_out m who now refused i).machine.clients
calm_carried m who now refused (Operation (Op.ExchangeId e)) calm =
    calm_delayed m (exchange_id m who now e) refused 42 calm
    (subst (λ (o : MachineOutcome). AreCalm o.machine.clients) (sym (exchange_id_is m who now e))
    (calm_exchanged m now (ask_of m who e) (case_of m.clients (ask_of m who e)) calm))
calm_carried m who now refused (Operation (Op.CreateSession c)) calm =
    subst (λ (o : MachineOutcome). AreCalm o.machine.clients) (sym (create_session_is m who now refused c))
    (calm_created m now refused c (clients.create_verdict m.clients c.clientid c.sequence who.uid) calm)
calm_carried m who now refused (Operation (Op.DestroySession sessionid)) calm = calm_session m sessionid calm
calm_carried m who now refused (Operation (Op.DestroyClientId client)) calm = calm_destroyed m client (client_fault m client) calm
calm_carried m who now refused i calm = calm

calm_first : (m : Machine) (declared : ℕ) (who : Caller) (now : ℕ) (refused : Bool) (i : Item) → AreCalm m.clients → AreCalm (first_item m declared who now refused i).machine.clients
calm_first m declared who now refused i calm = go (place_fault declared i)
  where
    go : (f : Option Status) → AreCalm (by_fault m (item_number i) f (carried_out m who now refused i)).machine.clients
    go None = calm_carried m who now refused i calm
    go (Some status) = calm

keeps_calm : IsKeptByEach (λ m. AreCalm m.clients)
keeps_calm = record {
  stored = λ m s is. is;
  reclaimed = λ m x is. elim (cases_Bool (has_reclaimed m.clients x.client)) [
    | inl again ↦ rw again is
    | inr once ↦ rw once (calm_changed m.clients x.client (λ c. record c { reclaimed = true }) (λ c calm. calm) is)
  ];
}

calm_session_run : (m : Machine) (r : Request) (who : Caller) (now : ℕ) (choice : Option ℕ) (s : Sequence) (more : List Item) (v : Sequenced) → AreCalm m.clients
    → AreCalm (in_session m r who now choice s more v).machine.clients
calm_session_run m r who now choice s more (sequence.Refuses status) calm = calm
calm_session_run m r who now choice s more (sequence.Repeats reply) calm = calm
calm_session_run m r who now choice s more (sequence.Runs c) calm =
    kept_run (λ m. AreCalm m.clients) keeps_calm c.maxresponsesize (begun r s c) now (behind_here choice) (renewed m now s) (begins (id_of s.sessionid).client who) more calm

calm_items : (m : Machine) (r : Request) (who : Caller) (size now : ℕ) (choice : Option ℕ) (items : List Item) → AreCalm m.clients
    → AreCalm (by_first m r who size now choice items).machine.clients
calm_items m r who size now choice [] calm = calm
calm_items m r who size now choice (Operation (Op.Sequence s) ∷ more) calm = calm_session_run m r who now choice s more (sequenced m r who size s) calm
calm_items m r who size now choice (item ∷ more) calm = calm_first m r.declared who now (is_here choice) item calm

calm_event : (m : Machine) (e : MachineEvent) → AreCalm m.clients → AreCalm (stepped m e).clients
calm_event m (Expires now) calm = calm_filtered m.clients (λ c. not (has_run_out m.store.lease m.leases now c.id)) calm
calm_event m (Asks r who size now choice) calm = go (eqb r.minor 1)
  where
    go : (b : Bool) → AreCalm (cond b (by_first m r who size now choice r.left) (bare r MinorVersMismatch m)).machine.clients
    go true = calm_items m r who size now choice r.left calm
    go false = calm

calm_events : (m : Machine) (events : List MachineEvent) → AreCalm m.clients → AreCalm (all_stepped m events).clients
calm_events m [] calm = calm
calm_events m (e ∷ more) calm = calm_events (stepped m e) more (calm_event m e calm)

pub nothing_delays : NothingDelays
nothing_delays start events r who size now =
    let m = all_stepped (starts start) events in
    record {
      behind = λ d op there is. first_ops_prompt m r who size now r.left d op (in_more (eqb r.minor 1) d (ops_of m r who size now None r.left) there) is;
      alone = λ op. alone_prompt m r.declared who now op (calm_events (starts start) events (λ c there. absurd there));
      first = λ s status e. by_session_prompt r who size s (session_at m.sessions (id_of s.sessionid)) status e;
    }
