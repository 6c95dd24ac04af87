-- A CREATE_SESSION makes one session, and its repeat none.
use Rattle.std.proofs.Common.{◌≡◌, ◌≢◌, ℕ, ◌+◌, ◌-◌, ◌^◌, ◌<◌, Bool, true, false, cond, eqb, not, List, [], ◌∷◌, ◌++◌, length, take, drop, Option, Some, None, refl, sym, ◌∙◌, ap, subst, arith, inl, inr}
use Rattle.std.proofs.{lemmas.Bool.{cases_Bool, eqb-true, eqb-false, eq-eqb, ne_eqb, and_parts, false≢true}, lemmas.List.{length-append, take_at, drop_at}}
use Rattle.std.specs.Prelude.{◌==◌, ◌⊎◌, ◌&&◌, find, option_map, is_some, Result, Ok, Err}
use Rattle.nfs_xdr.specs.{Caller.Caller, Tables.In, Spelling.{hyper, opaque}, declared.status.Status.Status}
use Rattle.nfs_xdr.specs.declared.status.Status.TheVariants.{Nfs4Ok, Delay, StaleClientId, SeqMisordered, ClidInUse, MinorVersMismatch}
use Rattle.nfs_xdr.proofs.Lists.{find_in, in_filter, in_push, push_in, stays_in, find_push_none, find_past, find_none}
use Rattle.nfs_xdr.specs.Numbers.{next_number}
use Rattle.nfs_compound.specs.declared.op_num.OpNum.TheVariants as Num
use Rattle.nfs_compound.specs.{OpNum.op_number, declared.op.Item.Item, declared.op.Item.TheVariants.Operation, Request.{Request, item_number}}
use Rattle.nfs_compound.specs.{declared.session_args.CreateSession.CreateSession, declared.session_args.Sequence.Sequence}
use Rattle.nfs_compound.specs.declared.op.Op.TheVariants as Op
use Rattle.nfs_results.specs.declared.res.Res.TheVariants as Res
use Rattle.nfs_results.specs.Results.{spell_result, done_head, spell_compound_head}
use Rattle.nfs_results.specs.Items as item
use Rattle.nfs_results.proofs.Lengths.{length_head, length_spelled}
use Rattle.nfs_results.proofs.Heads as heads
use Rattle.nfs_clients.specs.{Roster.{ClientRecord, Roster, IsRoster, client_at, is_confirmed_of}, ExchangeId.case_of}
use Rattle.nfs_clients.specs.CreateSession.{create_verdict, leaving, is_other_confirmed_of, with_kept, with_confirmed}
use Rattle.nfs_clients.specs.Marks.{has_reclaimed}
use Rattle.nfs_clients.specs.CreateSession as clients
use Rattle.nfs_clients.specs.declared.created.CreateResult.TheVariants as results
use Rattle.nfs_sessions.specs.{declared.id.SessionId.SessionId, declared.channel.Wish.Wish, declared.sessions.SessionFault.SessionFault, Id.{id_of, id_bytes}}
use Rattle.nfs_sessions.specs.Sessions.{Session, SessionTable, new_session, is_session, session_at, create, create_unless, create_fault, session_fault_status}
use Rattle.nfs_sessions.specs.Sessions.{with_session}
use Rattle.nfs_sessions.specs.Channel.{granted}
use Rattle.nfs_lease.specs.Renewals.{has_run_out}
use Rattle.nfs_names.specs.{declared.context.Context.Context, declared.node.Node.Node, Context.begins, Checks.current, State.time_at}
use Rattle.nfs_names.specs.Outcome.{is_ok}
use Rattle.nfs_files.proofs.Outcomes.{for_each}
use Rattle.nfs_exec.specs.Step.{Machine.{Machine, MachineOutcome, or_with_delay, with_refusal, starts}, Behind.{step, otherwise}, Place.place_fault}
use Rattle.nfs_exec.specs.Step.{Run.{run, in_room, is_here, behind_here}, ReclaimComplete.reclaim_complete, Parts.{wish_of, without_any_sessions}}
use Rattle.nfs_exec.specs.Step.ExchangeId.{exchange_id}
use Rattle.nfs_exec.specs.Step.CreateSession.{confirmed, made_body}
use Rattle.nfs_exec.specs.{Step.Destroy.{destroy_session, client_fault}, Step.Sequence.{Sequenced, sequenced}}
use Rattle.nfs_exec.specs.Step.Compound.{carried_out, first_item, renewed, begun, bare, Answered, in_session, by_first, compound}
use Rattle.nfs_exec.specs.{Step.Laws.{MachineEvent, Expires, Asks, stepped, all_stepped}, Runs.OneSession.{asks_of, asks_session, Gives, MakesOne, GivesOne}}
use Rattle.nfs_exec.specs.Step.Sequence as sequence
use Rattle.nfs_exec.proofs.Step.{InSteps.{exchange_id_is, create_session_is}, Terms.{by_fault, of_one, of_all}}
use Rattle.nfs_exec.specs.Step.Parts.{ask_of, by_number, creates, by_created}
use Rattle.nfs_exec.proofs.{Step.Behind.{by_step, follow_kept}, Step.Creating.length_id, Runs.WhatWasDone.in_room_is, Runs.SlotNumbers.IsCounted}
use Rattle.nfs_exec.proofs.{Runs.SlotNumbersAlong.counted_all, Runs.SessionNumbers.{After, IsAgain, IsNext, IsCarried, ToldBy, more, after_own, after_carried}}
use Rattle.nfs_exec.proofs.Runs.SessionNumbers.{carried_case, carried_confirmed, verdict_again, verdict_next, after_again, after_next, not_next, same_kept, next_is_new}
use Rattle.nfs_exec.proofs.Runs.SessionNumbers.{tells_more, tells_carried, tells_refused, tells_made}
use Rattle.nfs_clients.proofs.Members.{leaving_by}
use Rattle.nfs_exec.proofs.Step.Terms.{client_ended}

-- The client records, through whatever comes that asks for no session of the client.

delayed_after : (P : Machine → Type 0) (m : Machine) (o : MachineOutcome) (refused : Bool) (number : ℕ) → P m → P o.machine → P (or_with_delay refused m number o).machine
delayed_after P m o refused number before after = elim (cases_Bool (refused && is_ok o.status)) [ inl here ↦ rw here before | inr other ↦ rw other after ]

by_number_after : (P : Machine → Type 0) (m : Machine) (now : ℕ) (refused : Bool) (c : CreateSession) (v : clients.Verdict) → P m
    → ((t : SessionTable) (r : Result SessionId SessionFault) → P (by_created m now c t r).machine) → P (by_number m now refused c v).machine
by_number_after P m now refused c clients.Stale same made = same
by_number_after P m now refused c (clients.Again (results.Done body)) same made = same
by_number_after P m now refused c (clients.Again (results.Refused status)) same made = same
by_number_after P m now refused c clients.Misordered same made = same
by_number_after P m now refused c clients.InUse same made = same
by_number_after P m now refused c clients.Runs same made =
    let did = create m.sessions c.clientid (wish_of m c) in
    delayed_after P m (creates m now c did) refused 43 same (made did.after did.answer)

asked_same : (n : ℕ) (i : Item) (rest : List Item) → asks_of n (i ∷ rest) ≡ asks_of n (i ∷ [])
asked_same n (Operation (Op.CreateSession c)) rest = refl
asked_same n i rest = refl

module _ (n : ℕ) (P : Roster → Type 0) (held : IsCarried n P) where
  one_carried : (m : Machine) (v : Result Node Status) → P m.clients → P (of_one m v).machine.clients
  one_carried m (Ok d) a = a
  one_carried m (Err status) a = a

  all_carried : (m : Machine) (x : Context) → P m.clients → P (of_all m x).machine.clients
  all_carried m x a = elim (cases_Bool (has_reclaimed m.clients x.client)) [
    | inl again ↦ rw again a
    | inr once ↦ rw once (held.quiet m.clients x.client (λ c. record c { reclaimed = true }) (record { id = λ c. refl; owner = λ c. refl; verifier = λ c. refl; number = λ c. refl; kept = λ c. refl }) a)
  ]

  reclaim_carried : (m : Machine) (x : Context) (one : Bool) → P m.clients → P (reclaim_complete m x one).machine.clients
  reclaim_carried m x true a = one_carried m (current m.store x) a
  reclaim_carried m x false a = all_carried m x a

  otherwise_carried : (m : Machine) (x : Context) (i : Item) → P m.clients → P (otherwise m x i).outcome.machine.clients
  otherwise_carried m x (Operation (Op.ReclaimComplete one)) a = reclaim_carried m x one a
  otherwise_carried m x i a = a

  step_carried : (m : Machine) (x : Context) (now : ℕ) (refused : Bool) (i : Item) → P m.clients → P (step m x now refused i).outcome.machine.clients
  step_carried m x now refused i a =
      by_step (λ s. P s.outcome.machine.clients) m x now refused i (λ o e. a)
      (for_each (λ o. P m.clients) refused m.store x (time_at m.store now) i a) (λ none other. otherwise_carried m x i a)

  run_carried : (limit sofar now : ℕ) (choice : Option ℕ) (m : Machine) (x : Context) (items : List Item) → P m.clients
      → P (run limit sofar now choice m x items).machine.clients
  run_carried limit sofar now choice m x [] a = a
  run_carried limit sofar now choice m x (i ∷ rest) a =
      let s = in_room limit sofar now (is_here choice) m x i in
      let next = sofar + length s.outcome.result in
      let one : P s.outcome.machine.clients =
      in_room_is (λ s. P s.outcome.machine.clients) limit sofar now (is_here choice) m x i a (step_carried m x now (is_here choice) i a) in
      follow_kept (λ m. P m.clients) s.outcome (run limit next now (behind_here choice) s.outcome.machine s.context rest) one
      (run_carried limit next now (behind_here choice) s.outcome.machine s.context rest one)

  -- a CREATE_SESSION of another client
  made_other : (m : Machine) (now : ℕ) (c : CreateSession) (t : SessionTable) (v : Result SessionId SessionFault) → c.clientid ≢ n → P m.clients
      → P (by_created m now c t v).machine.clients
  made_other m now c t (Ok id) other a =
      held.other (with_confirmed m.clients c.clientid) c.clientid (results.Done (made_body c id)) other (carried_confirmed n P held m.clients c.clientid a)
  made_other m now c t (Err fault) other a = held.other m.clients c.clientid (results.Refused (session_fault_status fault)) other a

  destroyed_carried : (m : Machine) (client : ℕ) (o : Option Status) → P m.clients → P (by_fault m 57 o (client_ended m client)).machine.clients
  destroyed_carried m client None a = held.fewer m.clients (λ c. not (c.id == client)) a
  destroyed_carried m client (Some fault) a = a

  ended_carried : (m : Machine) (sessionid : List ℕ) → P m.clients → P (destroy_session m sessionid).machine.clients
  ended_carried m sessionid a = elim (cases_Bool (is_some (session_at m.sessions (id_of sessionid)))) [ inl stood ↦ rw stood a | inr gone ↦ rw gone a ]

  out_carried : (m : Machine) (who : Caller) (now : ℕ) (refused : Bool) (i : Item) → asks_of n (i ∷ []) ≡ false → P m.clients
      → P (carried_out m who now refused i).machine.clients
  out_carried m who now refused (Operation (Op.CreateSession c)) other a =
      subst (λ (o : MachineOutcome). P o.machine.clients) (sym (create_session_is m who now refused c))
      (by_number_after (λ m. P m.clients) m now refused c (create_verdict m.clients c.clientid c.sequence who.uid) a
      (λ t r. made_other m now c t r (eqb-false c.clientid n other) a))
  out_carried m who now refused (Operation (Op.ExchangeId e)) other a =
      delayed_after (λ m. P m.clients) m (exchange_id m who now e) refused 42 a
      (subst (λ (o : MachineOutcome). P o.machine.clients) (sym (exchange_id_is m who now e))
      (carried_case n P held m.clients (ask_of m who e) (case_of m.clients (ask_of m who e)) a))
  out_carried m who now refused (Operation (Op.DestroySession sessionid)) other a = ended_carried m sessionid a
  out_carried m who now refused (Operation (Op.DestroyClientId client)) other a =
      destroyed_carried m client (client_fault m client) a
  out_carried m who now refused i other a = a

  first_carried : (m : Machine) (declared : ℕ) (who : Caller) (now : ℕ) (refused : Bool) (i : Item) → asks_of n (i ∷ []) ≡ false → P m.clients
      → P (first_item m declared who now refused i).machine.clients
  first_carried m declared who now refused i other a = go (place_fault declared i)
    where
      go : (f : Option Status) → P (by_fault m (item_number i) f (carried_out m who now refused i)).machine.clients
      go None = out_carried m who now refused i other a
      go (Some status) = a

  session_carried : (m : Machine) (r : Request) (who : Caller) (now : ℕ) (choice : Option ℕ) (s : Sequence) (rest : List Item) (v : Sequenced) → P m.clients
      → P (in_session m r who now choice s rest v).machine.clients
  session_carried m r who now choice s rest (sequence.Refuses status) a = a
  session_carried m r who now choice s rest (sequence.Repeats reply) a = a
  session_carried m r who now choice s rest (sequence.Runs c) a =
      run_carried c.maxresponsesize (begun r s c) now (behind_here choice) (renewed m now s) (begins (id_of s.sessionid).client who) rest a

  items_carried : (m : Machine) (r : Request) (who : Caller) (size now : ℕ) (choice : Option ℕ) (items : List Item) → asks_of n items ≡ false → P m.clients
      → P (by_first m r who size now choice items).machine.clients
  items_carried m r who size now choice [] other a = a
  items_carried m r who size now choice (Operation (Op.Sequence s) ∷ rest) other a = session_carried m r who now choice s rest (sequenced m r who size s) a
  items_carried m r who size now choice (i ∷ rest) other a = first_carried m r.declared who now (is_here choice) i (sym (asked_same n i rest) ∙ other) a

  pub event_carried : (m : Machine) (e : MachineEvent) → asks_session n e ≡ false → P m.clients → P (stepped m e).clients
  event_carried m (Expires now) other a = held.fewer m.clients (λ c. not (has_run_out m.store.lease m.leases now c.id)) a
  event_carried m (Asks r who size now choice) other a = go (eqb r.minor 1)
    where
      go : (v : Bool) → P (cond v (by_first m r who size now choice r.left) (bare r MinorVersMismatch m)).machine.clients
      go true = items_carried m r who size now choice r.left other a
      go false = a

-- What asks for a session of the client changes nothing, or runs: and then it is answered what it came to.

abbrev pub created : Machine → ℕ → CreateSession → MachineOutcome
created m now c = creates m now c (create m.sessions c.clientid (wish_of m c))

record IsRun (m : Machine) (now : ℕ) (c : CreateSession) (o : MachineOutcome) : Type 0 where
  pub next : IsNext m.clients c.clientid c.sequence
  pub is : o ≡ created m now c

delay_runs : (m : Machine) (now : ℕ) (c : CreateSession) (refused : Bool) → IsNext m.clients c.clientid c.sequence
    → (let o = or_with_delay refused m 43 (created m now c) in (o.machine ≡ m) ⊎ IsRun m now c o)
delay_runs m now c refused next = go (refused && is_ok (created m now c).status)
  where
    go : (v : Bool) → (let o = cond v (with_refusal m 43 Delay) (created m now c) in (o.machine ≡ m) ⊎ IsRun m now c o)
    go true = inl refl
    go false = inr (record { next = next; is = refl })

verdict_runs : (m : Machine) (who : Caller) (now : ℕ) (refused : Bool) (c : CreateSession) (v : clients.Verdict)
    → create_verdict m.clients c.clientid c.sequence who.uid ≡ v → (let o = by_number m now refused c v in (o.machine ≡ m) ⊎ IsRun m now c o)
verdict_runs m who now refused c clients.Stale e = inl refl
verdict_runs m who now refused c clients.Misordered e = inl refl
verdict_runs m who now refused c clients.InUse e = inl refl
verdict_runs m who now refused c (clients.Again (results.Refused status)) e = inl refl
verdict_runs m who now refused c (clients.Again (results.Done body)) e = inl refl
verdict_runs m who now refused c clients.Runs e =
    delay_runs m now c refused (verdict_next m.clients c.clientid c.sequence who.uid (client_at m.clients c.clientid) refl e)

item_runs : (m : Machine) (declared : ℕ) (who : Caller) (now : ℕ) (refused : Bool) (c : CreateSession)
    → (let o = first_item m declared who now refused (Operation (Op.CreateSession c)) in (o.machine ≡ m) ⊎ IsRun m now c o)
item_runs m declared who now refused c = go (place_fault declared (Operation (Op.CreateSession c)))
  where
    go : (f : Option Status) → (let o = by_fault m (op_number Num.CreateSession) f (carried_out m who now refused (Operation (Op.CreateSession c))) in
        (o.machine ≡ m) ⊎ IsRun m now c o)
    go None = subst (λ (o : MachineOutcome). (o.machine ≡ m) ⊎ IsRun m now c o) (sym (create_session_is m who now refused c))
        (verdict_runs m who now refused c (create_verdict m.clients c.clientid c.sequence who.uid) refl)
    go (Some status) = inl refl

pub record IsAsked (n : ℕ) (m : Machine) (r : Request) (now : ℕ) (a : Answered) : Type 0 where
  pub asked : CreateSession
  pub more : List Item
  pub first : r.left ≡ Operation (Op.CreateSession asked) ∷ more
  pub for : asked.clientid ≡ n
  pub next : IsNext m.clients asked.clientid asked.sequence
  pub text : a.text ≡ spell_compound_head (created m now asked).status r.tag 1 ++ (created m now asked).result
  pub machine : a.machine ≡ (created m now asked).machine

items_run : (n : ℕ) (m : Machine) (r : Request) (who : Caller) (size now : ℕ) (choice : Option ℕ) (items : List Item) → r.left ≡ items → asks_of n items ≡ true
    → (let a = by_first m r who size now choice items in (a.machine ≡ m) ⊎ IsAsked n m r now a)
items_run n m r who size now choice (Operation (Op.CreateSession c) ∷ more) left asks = elim (item_runs m r.declared who now (is_here choice) c) [
  | inl same ↦ inl same
  | inr run ↦ inr (record {
    asked = c;
    more = more;
    first = left;
    for = eqb-true c.clientid n asks;
    next = run.next;
    text = ap (λ (o : MachineOutcome). spell_compound_head o.status r.tag 1 ++ o.result) run.is;
    machine = ap (λ (o : MachineOutcome). o.machine) run.is;
  })
]
items_run n m r who size now choice items left asks = absurd (false≢true asks)

pub compound_runs : (n : ℕ) (m : Machine) (r : Request) (who : Caller) (size now : ℕ) (choice : Option ℕ) → asks_of n r.left ≡ true
    → (let a = compound m r who size now choice in (a.machine ≡ m) ⊎ IsAsked n m r now a)
compound_runs n m r who size now choice asks = go (eqb r.minor 1)
  where
    go : (v : Bool) → (let a = cond v (by_first m r who size now choice r.left) (bare r MinorVersMismatch m) in (a.machine ≡ m) ⊎ IsAsked n m r now a)
    go true = items_run n m r who size now choice r.left refl asks
    go false = inl refl

-- The client's number: it moves on by one at most where a session of it is asked for.

made_own : (n number most : ℕ) (body : List ℕ) (m : Machine) (now : ℕ) (c : CreateSession) (v : Result SessionId SessionFault) → After n number body most m.clients
    → After n number body (most + 1) (by_created m now c (create m.sessions c.clientid (wish_of m c)).after v).machine.clients
made_own n number most body m now c (Ok id) a =
    after_own n number most body (with_confirmed m.clients c.clientid) c.clientid (results.Done (made_body c id))
    (carried_confirmed n (After n number body most) (after_carried n number most body) m.clients c.clientid a)
made_own n number most body m now c (Err fault) a = after_own n number most body m.clients c.clientid (results.Refused (session_fault_status fault)) a

asked_after : (n number most : ℕ) (body : List ℕ) (m : Machine) (e : MachineEvent) → asks_session n e ≡ true → After n number body most m.clients
    → After n number body (most + 1) (stepped m e).clients
asked_after n number most body m (Expires now) asks a = absurd (false≢true asks)
asked_after n number most body m (Asks r who size now choice) asks a = elim (compound_runs n m r who size now choice asks) [
  | inl same ↦ subst (λ (m : Machine). After n number body (most + 1) m.clients) (sym same) (more n number (most + 1) most body m.clients (omega arith) a)
  | inr run ↦ subst (λ (m : Machine). After n number body (most + 1) m.clients) (sym run.machine)
      (made_own n number most body m now run.asked (create m.sessions run.asked.clientid (wish_of m run.asked)).answer a)
]

pub event_after : (n number most : ℕ) (body : List ℕ) (m : Machine) (e : MachineEvent) → After n number body most m.clients
    → After n number body (most + cond (asks_session n e) 1 0) (stepped m e).clients
event_after n number most body m e a = elim (cases_Bool (asks_session n e)) [
  | inl asks ↦ rw asks (asked_after n number most body m e asks a)
  | inr other ↦ rw other (more n number (most + 0) most body (stepped m e).clients (omega arith)
      (event_carried n (After n number body most) (after_carried n number most body) m e other a))
]

-- What a CREATE_SESSION that answered NFS4_OK did.

-- a refusal ends behind its status
refused_short : (status : Status) (id behind : List ℕ) → length id ≡ 16
    → spell_result (Res.Refused (op_number Num.CreateSession) status) ≡ done_head Num.CreateSession ++ (id ++ behind) → ⊥
refused_short status id behind long e =
    let whole = ap length e in
    let spelled = length_spelled (Res.Refused (op_number Num.CreateSession) status) in
    let head = length_head (op_number Num.CreateSession) Nfs4Ok in
    let both = length-append (done_head Num.CreateSession) (id ++ behind) in
    let rest = length-append id behind in absurd (omega arith)

-- it repeated what was kept
record IsRepeat (m : Machine) (n number : ℕ) (body : List ℕ) (left : Machine) : Type 0 where
  pub again : IsAgain m.clients n number (results.Done body)
  pub unchanged : left ≡ m

-- or it ran
record IsMade (m : Machine) (now : ℕ) (c : CreateSession) (body : List ℕ) (left : Machine) : Type 0 where
  pub next : IsNext m.clients c.clientid c.sequence
  pub id : SessionId
  pub text : body ≡ made_body c id
  pub did : (create m.sessions c.clientid (wish_of m c)).answer ≡ Ok id
  pub changed : left ≡ confirmed (record m { sessions = (create m.sessions c.clientid (wish_of m c)).after }) now c.clientid body

abbrev IsEither : Machine → ℕ → CreateSession → List ℕ → Machine → Type 0
IsEither m now c body left = IsRepeat m c.clientid c.sequence body left ⊎ IsMade m now c body left

-- what stands behind the head of its result
abbrev Tells : List ℕ → MachineOutcome → Type 0
Tells text o = o.result ≡ done_head Num.CreateSession ++ text

same_text : (a b : List ℕ) → done_head Num.CreateSession ++ a ≡ done_head Num.CreateSession ++ b → a ≡ b
same_text a b e =
    let head = length_head (op_number Num.CreateSession) Nfs4Ok in
    sym (drop_at (done_head Num.CreateSession) a 8 head) ∙ (ap (drop 8) e ∙ drop_at (done_head Num.CreateSession) b 8 head)

made_either : (m : Machine) (now : ℕ) (c : CreateSession) (id behind : List ℕ) (v : Result SessionId SessionFault) → length id ≡ 16 → IsNext m.clients c.clientid c.sequence
    → (create m.sessions c.clientid (wish_of m c)).answer ≡ v
    → (let o = by_created m now c (create m.sessions c.clientid (wish_of m c)).after v in Tells (id ++ behind) o → IsEither m now c (id ++ behind) o.machine)
made_either m now c id behind (Err fault) long next did told = absurd (refused_short (session_fault_status fault) id behind long told)
made_either m now c id behind (Ok session) long next did told =
    (let same : made_body c session ≡ id ++ behind = same_text (made_body c session) (id ++ behind) told in
    inr (record {
      next = next;
      id = session;
      text = sym same;
      did = did;
      changed = ap (λ (text : List ℕ). confirmed (record m { sessions = (create m.sessions c.clientid (wish_of m c)).after }) now c.clientid text) same;
    }))

delay_either : (m : Machine) (now : ℕ) (c : CreateSession) (id behind : List ℕ) (refused : Bool) (o : MachineOutcome) → length id ≡ 16
    → (Tells (id ++ behind) o → IsEither m now c (id ++ behind) o.machine)
    → (let d = or_with_delay refused m 43 o in Tells (id ++ behind) d → IsEither m now c (id ++ behind) d.machine)
delay_either m now c id behind refused o long each = go (refused && is_ok o.status)
  where
    go : (v : Bool) → (let d = cond v (with_refusal m 43 Delay) o in Tells (id ++ behind) d → IsEither m now c (id ++ behind) d.machine)
    go true = λ told. absurd (refused_short Delay id behind long told)
    go false = each

verdict_either : (m : Machine) (who : Caller) (now : ℕ) (refused : Bool) (c : CreateSession) (id behind : List ℕ) (v : clients.Verdict) → length id ≡ 16
    → create_verdict m.clients c.clientid c.sequence who.uid ≡ v
    → (let o = by_number m now refused c v in Tells (id ++ behind) o → IsEither m now c (id ++ behind) o.machine)
verdict_either m who now refused c id behind clients.Stale long e = λ told. absurd (refused_short StaleClientId id behind long told)
verdict_either m who now refused c id behind clients.Misordered long e = λ told. absurd (refused_short SeqMisordered id behind long told)
verdict_either m who now refused c id behind clients.InUse long e = λ told. absurd (refused_short ClidInUse id behind long told)
verdict_either m who now refused c id behind (clients.Again (results.Refused status)) long e = λ told. absurd (refused_short status id behind long told)
verdict_either m who now refused c id behind (clients.Again (results.Done body)) long e = λ told.
    (let same : body ≡ id ++ behind = same_text body (id ++ behind) told in
    inl (record {
      again = subst (λ (text : List ℕ). IsAgain m.clients c.clientid c.sequence (results.Done text)) same
          (verdict_again m.clients c.clientid c.sequence who.uid (results.Done body) (client_at m.clients c.clientid) refl e);
      unchanged = refl;
    }))
verdict_either m who now refused c id behind clients.Runs long e =
    let did = create m.sessions c.clientid (wish_of m c) in
    delay_either m now c id behind refused (creates m now c did) long
    (made_either m now c id behind did.answer long (verdict_next m.clients c.clientid c.sequence who.uid (client_at m.clients c.clientid) refl e) refl)

item_either : (m : Machine) (declared : ℕ) (who : Caller) (now : ℕ) (refused : Bool) (c : CreateSession) (id behind : List ℕ) → length id ≡ 16
    → (let o = first_item m declared who now refused (Operation (Op.CreateSession c)) in Tells (id ++ behind) o → IsEither m now c (id ++ behind) o.machine)
item_either m declared who now refused c id behind long = go (place_fault declared (Operation (Op.CreateSession c)))
  where
    go : (f : Option Status) → (let o = by_fault m (op_number Num.CreateSession) f (carried_out m who now refused (Operation (Op.CreateSession c))) in
        Tells (id ++ behind) o → IsEither m now c (id ++ behind) o.machine)
    go None = subst (λ (o : MachineOutcome). Tells (id ++ behind) o → IsEither m now c (id ++ behind) o.machine) (sym (create_session_is m who now refused c))
        (verdict_either m who now refused c id behind (create_verdict m.clients c.clientid c.sequence who.uid) long refl)
    go (Some status) = λ told. absurd (refused_short status id behind long told)

-- behind a compound's head
pub behind_head : (a b : Status) (tag : List ℕ) (count : ℕ) (xs ys : List ℕ) → spell_compound_head a tag count ++ xs ≡ spell_compound_head b tag 1 ++ ys → xs ≡ ys
behind_head a b tag count xs ys e =
    let n = 8 + length (opaque tag) in
    sym (drop_at (spell_compound_head a tag count) xs n (heads.length_head a tag count))
    ∙ (ap (drop n) e ∙ drop_at (spell_compound_head b tag 1) ys n (heads.length_head b tag 1))

none_told : (id behind : List ℕ) → length id ≡ 16 → [] ≡ done_head Num.CreateSession ++ (id ++ behind) → ⊥
none_told id behind long e =
    let whole = ap length e in
    let head = length_head (op_number Num.CreateSession) Nfs4Ok in
    let both = length-append (done_head Num.CreateSession) (id ++ behind) in absurd (omega arith)

either : (client number : ℕ) (id : List ℕ) (m : Machine) (e : MachineEvent) (g : Gives client number id m e)
    → IsEither m g.now g.asked (id ++ g.behind) (stepped m e)
either client number id m e g =
    subst (λ e. IsEither m g.now g.asked (id ++ g.behind) (stepped m e)) (sym g.is) (by_minor (eqb g.request.minor 1) g.answers)
  where
    by_items : (items : List Item) → items ≡ Operation (Op.CreateSession g.asked) ∷ g.more
        → (by_first m g.request g.who g.size g.now g.choice items).text ≡ spell_compound_head Nfs4Ok g.request.tag 1 ++ (done_head Num.CreateSession ++ (id ++ g.behind))
        → IsEither m g.now g.asked (id ++ g.behind) (by_first m g.request g.who g.size g.now g.choice items).machine
    by_items items same told =
        let list : by_first m g.request g.who g.size g.now g.choice items ≡ by_first m g.request g.who g.size g.now g.choice (Operation (Op.CreateSession g.asked) ∷ g.more) =
        ap (by_first m g.request g.who g.size g.now g.choice) same in
        let o = first_item m g.request.declared g.who g.now (is_here g.choice) (Operation (Op.CreateSession g.asked)) in
        subst (λ a. IsEither m g.now g.asked (id ++ g.behind) a.machine) (sym list)
        (item_either m g.request.declared g.who g.now (is_here g.choice) g.asked id g.behind g.long
        (behind_head o.status Nfs4Ok g.request.tag 1 o.result (done_head Num.CreateSession ++ (id ++ g.behind)) (ap (λ a. a.text) (sym list) ∙ told)))

    by_minor : (v : Bool) → (let a = cond v (by_first m g.request g.who g.size g.now g.choice g.request.left) (bare g.request MinorVersMismatch m) in
        a.text ≡ spell_compound_head Nfs4Ok g.request.tag 1 ++ (done_head Num.CreateSession ++ (id ++ g.behind))
        → IsEither m g.now g.asked (id ++ g.behind) a.machine)
    by_minor true = λ told. by_items g.request.left g.first told
    by_minor false = λ told. absurd (none_told id g.behind g.long
        (behind_head MinorVersMismatch Nfs4Ok g.request.tag 0 [] (done_head Num.CreateSession ++ (id ++ g.behind)) told))

-- From the first answer on, and at the second.

pub given_after : (client number : ℕ) (id : List ℕ) (m : Machine) (e : MachineEvent) → IsRoster m.clients → (g : Gives client number id m e)
    → After client number (id ++ g.behind) 0 (stepped m e).clients
given_after client number id m e is g = subst (λ n. After n number (id ++ g.behind) 0 (stepped m e).clients) g.for
    (subst (λ k. After g.asked.clientid k (id ++ g.behind) 0 (stepped m e).clients) g.with (elim (either client number id m e g) [
      | inl repeat ↦ subst (λ (m : Machine). After g.asked.clientid g.asked.sequence (id ++ g.behind) 0 m.clients) (sym repeat.unchanged)
          (after_again m.clients g.asked.clientid g.asked.sequence (id ++ g.behind) is repeat.again)
      | inr made ↦ subst (λ (m : Machine). After g.asked.clientid g.asked.sequence (id ++ g.behind) 0 m.clients) (sym made.changed)
          (after_next m.clients g.asked.clientid g.asked.sequence (id ++ g.behind) is made.next)
    ]))

pub first_bytes : (a b x y : List ℕ) → length a ≡ 16 → length b ≡ 16 → a ++ x ≡ b ++ y → a ≡ b
first_bytes a b x y long also e = sym (take_at a x 16 long) ∙ (ap (take 16) e ∙ take_at b y 16 also)

pub given_again : (client number most : ℕ) (id behind other : List ℕ) (m : Machine) (e : MachineEvent) → length id ≡ 16 → After client number (id ++ behind) most m.clients
    → most < 2 ^ 32 - 1 → Gives client number other m e → (other ≡ id) × (stepped m e ≡ m)
given_again client number most id behind other m e long after few g =
    let mine : After g.asked.clientid g.asked.sequence (id ++ behind) most m.clients =
    subst (λ n. After n g.asked.sequence (id ++ behind) most m.clients) (sym g.for) (subst (λ k. After client k (id ++ behind) most m.clients) (sym g.with) after) in
    elim (either client number other m e g) [
      | inl repeat ↦ (let same : results.Done (other ++ g.behind) ≡ results.Done (id ++ behind) =
          same_kept m.clients g.asked.clientid g.asked.sequence most (id ++ behind) (results.Done (other ++ g.behind)) mine few repeat.again in
          let text : other ++ g.behind ≡ id ++ behind = cc in
          (first_bytes other id g.behind behind g.long long text, repeat.unchanged))
      | inr made ↦ absurd (not_next m.clients g.asked.clientid g.asked.sequence most (id ++ behind) mine few made.next)
    ]

-- What it makes.

made_id : (c : CreateSession) (id : SessionId) → (behind : List ℕ) × (made_body c id ≡ id_bytes id ++ behind)
unfolding item.create_session hyper
made_id c id = (_, refl)

created_is : (t : SessionTable) (client : ℕ) (wish : Wish) (id : SessionId) (o : Option SessionFault) → (create_unless t client wish o).answer ≡ Ok id
    → (id ≡ record { client = client; counter = t.last + 1 }) × ((create_unless t client wish o).after ≡ with_session t client wish.fore)
created_is t client wish id None e =
    (let given : record { client = client; counter = t.last + 1 } ≡ id = cc in (sym given, refl))
created_is t client wish id (Some fault) e = absurd cc

-- the client's own record is not the one that leaves
not_leaving : (t : Roster) (n : ℕ) (c : ClientRecord) (o : Option ClientRecord) → client_at t n ≡ Some c → find (is_other_confirmed_of c) t.records ≡ o
    → option_map (λ (d : ClientRecord). d.id) o ≢ Some n
not_leaving t n c None at found leaves = (let bad : None ≡ Some n = leaves in absurd cc)
not_leaving t n c (Some d) at found leaves =
    let gone : Some d.id ≡ Some n = leaves in
    let same : d.id ≡ n = cc in
    let here = find_in (λ (c : ClientRecord). c.id == n) t.records c at in
    let there = find_in (is_other_confirmed_of c) t.records d found in
    let parts = and_parts (is_confirmed_of c.owner d) (not (d.id == c.id)) there.1 in
    absurd (false≢true (sym (ap not (eq-eqb d.id c.id (same ∙ sym (eqb-true c.id n here.1)))) ∙ parts.1))

stays_own : (t : Roster) (n : ℕ) (c : ClientRecord) → client_at t n ≡ Some c → leaving t n ≢ Some n
stays_own t n c at leaves = not_leaving t n c (find (is_other_confirmed_of c) t.records) at refl (sym (ap (leaving_by t) at) ∙ leaves)

-- a session more, and those of another client gone
left_in : (t : SessionTable) (o : Option ℕ) (s : Session) → In s (without_any_sessions t o).sessions → In s t.sessions
left_in t None s there = there
left_in t (Some gone) s there = (in_filter (λ (s : Session). not (s.client == gone)) t.sessions s there).0

own_stays : (o : Option ℕ) (client : ℕ) (t : SessionTable) (s : Session) → o ≢ Some client → In s t.sessions → s.client ≡ client → In s (without_any_sessions t o).sessions
own_stays None client t s other there same = there
own_stays (Some gone) client t s other there same =
    stays_in (λ (s : Session). not (s.client == gone)) t.sessions s there (ap not (ne_eqb s.client gone (λ here. other (ap (λ n. Some n) (sym here ∙ same)))))

new_is : (last client : ℕ) → eqb (last + 1) (last + 1) && eqb client client ≡ true
new_is last client = rw (eq-eqb (last + 1) (last + 1) refl, eq-eqb client client refl) refl

found_new : (t : SessionTable) (client : ℕ) (wish : Wish) → session_at t (record { client = client; counter = t.last + 1 }) ≡ None
    → session_at (with_session t client wish.fore) (record { client = client; counter = t.last + 1 }) ≡ Some (new_session (t.last + 1) client (granted wish.fore))
found_new t client wish none = find_push_none (is_session (record { client = client; counter = t.last + 1 })) t.sessions _ none (new_is t.last client)

new_there : (t : SessionTable) (client : ℕ) (wish : Wish) (o : Option ℕ) → o ≢ Some client → session_at t (record { client = client; counter = t.last + 1 }) ≡ None
    → is_some (session_at (without_any_sessions (with_session t client wish.fore) o) (record { client = client; counter = t.last + 1 })) ≡ true
new_there t client wish None other none = ap is_some (found_new t client wish none)
new_there t client wish (Some gone) other none =
    ap is_some (find_past (is_session (record { client = client; counter = t.last + 1 })) (λ (s : Session). not (s.client == gone)) (with_session t client wish.fore).sessions
    (λ s e. (let same = eqb-true s.client client (and_parts (s.counter == t.last + 1) (s.client == client) e).1 in
    ap not (ne_eqb s.client gone (λ here. other (ap (λ n. Some n) (sym here ∙ same)))))) ∙ found_new t client wish none)

absent_next : (t : SessionTable) (client : ℕ) → IsCounted t → session_at t (record { client = client; counter = t.last + 1 }) ≡ None
absent_next t client counted = find_none (is_session (record { client = client; counter = t.last + 1 })) t.sessions (λ s there. elim (cases_Bool (s.counter == t.last + 1)) [
  | inl same ↦ (let at = eqb-true s.counter (t.last + 1) same in let low = counted s there in absurd (omega arith))
  | inr other ↦ rw other refl
])

made_one : (m : Machine) (now : ℕ) (c : CreateSession) (id behind : List ℕ) (left : Machine) → IsCounted m.sessions → length id ≡ 16 → IsMade m now c (id ++ behind) left
    → MakesOne c.clientid id m.sessions left.sessions
made_one m now c id behind left counted long made =
    let wish = wish_of m c in
    let t = m.sessions in
    let new : SessionId = record { client = c.clientid; counter = t.last + 1 } in
    let is = created_is t c.clientid wish made.id (create_fault t wish) made.did in
    let told = made_id c made.id in
    let bytes : id ≡ id_bytes made.id = first_bytes id (id_bytes made.id) behind told.0 long (length_id made.id) (made.text ∙ told.1) in
    let absent = absent_next t c.clientid counted in
    let sessions : left.sessions ≡ without_any_sessions (with_session t c.clientid wish.fore) (leaving m.clients c.clientid) =
    ap (λ (m : Machine). m.sessions) made.changed ∙ ap (λ (u : SessionTable). without_any_sessions u (leaving m.clients c.clientid)) is.1 in
    subst (λ (u : SessionTable). MakesOne c.clientid id t u) (sym sessions) (record {
      session = new;
      spelled = bytes ∙ ap id_bytes is.0;
      of = refl;
      absent = absent;
      there = new_there t c.clientid wish (leaving m.clients c.clientid) (stays_own m.clients c.clientid made.next.client made.next.found) absent;
      alone = λ s there. elim (in_push t.sessions _ s (left_in (with_session t c.clientid wish.fore) (leaving m.clients c.clientid) s there)) [
        | inl here ↦ inr (subst (λ (s : Session). is_session new s ≡ true) (sym here) (new_is t.last c.clientid))
        | inr old ↦ inl old
      ];
      others = λ s there same. own_stays (leaving m.clients c.clientid) c.clientid (with_session t c.clientid wish.fore) s
          (stays_own m.clients c.clientid made.next.client made.next.found) (push_in t.sessions _ s there) same;
    })

-- of the client that it gives, a session
for_client : (client number : ℕ) (id : List ℕ) (m : Machine) (e : MachineEvent) (g : Gives client number id m e) → IsCounted m.sessions
    → IsMade m g.now g.asked (id ++ g.behind) (stepped m e) → MakesOne client id m.sessions (stepped m e).sessions
for_client client number id m e g counted made =
    subst (λ n. MakesOne n id m.sessions (stepped m e).sessions) g.for (made_one m g.now g.asked id g.behind (stepped m e) counted g.long made)

pub gives_one : (client number : ℕ) (id : List ℕ) (m : Machine) (e : MachineEvent) → IsCounted m.sessions → Gives client number id m e
    → (stepped m e ≡ m) ⊎ MakesOne client id m.sessions (stepped m e).sessions
gives_one client number id m e counted g = elim (either client number id m e g) [
  | inl repeat ↦ inl repeat.unchanged
  | inr made ↦ inr (for_client client number id m e g counted made)
]

pub gives_one_in_runs : GivesOne
gives_one_in_runs start events e client number id g =
    gives_one client number id (all_stepped (starts start) events) e
    (counted_all (starts start) events (λ s there. absurd there)) g

-- what it repeats is of its client and number
for_again : (client number : ℕ) (id : List ℕ) (m : Machine) (e : MachineEvent) (g : Gives client number id m e)
    → IsAgain m.clients g.asked.clientid g.asked.sequence (results.Done (id ++ g.behind)) → IsAgain m.clients client number (results.Done (id ++ g.behind))
for_again client number id m e g again =
    subst (λ n. IsAgain m.clients n number (results.Done (id ++ g.behind))) g.for
    (subst (λ k. IsAgain m.clients g.asked.clientid k (results.Done (id ++ g.behind))) g.with again)

-- behind an answer the next number makes one
pub given_next : (client number : ℕ) (body other : List ℕ) (m : Machine) (e : MachineEvent) → IsCounted m.sessions → After client number body 0 m.clients
    → Gives client (next_number number) other m e → MakesOne client other m.sessions (stepped m e).sessions
given_next client number body other m e counted after g = elim (either client (next_number number) other m e g) [
  | inl repeat ↦ absurd (next_is_new m.clients client number body (results.Done (other ++ g.behind)) after
      (for_again client (next_number number) other m e g repeat.again))
  | inr made ↦ for_client client (next_number number) other m e g counted made
]

-- Where the result of a number is kept, what kept it made a session.

pub record IsMadeBy (client number : ℕ) (body : List ℕ) (m : Machine) (e : MachineEvent) : Type 0 where
  pub id : List ℕ
  pub gives : Gives client number id m e
  pub text : id ++ gives.behind ≡ body
  pub makes : MakesOne client id m.sessions (stepped m e).sessions

-- the answer of one that ran and was granted
granted_by : (n number : ℕ) (body : List ℕ) (m : Machine) (r : Request) (who : Caller) (size now : ℕ) (choice : Option ℕ) (id : SessionId)
    → IsCounted m.sessions → (run : IsAsked n m r now (compound m r who size now choice)) → (create m.sessions run.asked.clientid (wish_of m run.asked)).answer ≡ Ok id
    → run.asked.sequence ≡ number → made_body run.asked id ≡ body → IsMadeBy n number body m (Asks r who size now choice)
granted_by n number body m r who size now choice id counted run did number_is text =
    let told = made_id run.asked id in
    let e = Asks r who size now choice in
    let o = by_created m now run.asked (create m.sessions run.asked.clientid (wish_of m run.asked)).after in
    let g : Gives n number (id_bytes id) m e = record {
      request = r;
      who = who;
      size = size;
      now = now;
      choice = choice;
      is = refl;
      asked = run.asked;
      more = run.more;
      first = run.first;
      for = run.for;
      with = number_is;
      behind = told.0;
      answers = run.text ∙ (ap (λ v. spell_compound_head (o v).status r.tag 1 ++ (o v).result) did
          ∙ ap (λ text. spell_compound_head Nfs4Ok r.tag 1 ++ (done_head Num.CreateSession ++ text)) told.1);
      long = length_id id;
    } in
    record {
      id = id_bytes id;
      gives = g;
      text = sym told.1 ∙ text;
      makes = for_client n number (id_bytes id) m e g counted (record {
        next = run.next;
        id = id;
        text = sym told.1;
        did = did;
        changed = run.machine ∙ (ap (λ v. (o v).machine) did
            ∙ ap (λ text. confirmed (record m { sessions = (create m.sessions run.asked.clientid (wish_of m run.asked)).after }) now run.asked.clientid text) told.1);
      });
    }

asked_tells : (n number : ℕ) (body : List ℕ) (X Y : Type 0) (m : Machine) (r : Request) (who : Caller) (size now : ℕ) (choice : Option ℕ) → IsRoster m.clients
    → IsCounted m.sessions → number < 2 ^ 32 → (X → Y) → (IsMadeBy n number body m (Asks r who size now choice) → Y)
    → (run : IsAsked n m r now (compound m r who size now choice)) → ToldBy n (next_number number) body X m.clients
    → ToldBy n (next_number number) body Y (compound m r who size now choice).machine.clients
asked_tells n number body X Y m r who size now choice is counted low old new run tells =
    let did = create m.sessions run.asked.clientid (wish_of m run.asked) in
    subst (λ (m : Machine). ToldBy n (next_number number) body Y m.clients) (sym run.machine) (go did.answer refl)
  where
    go : (v : Result SessionId SessionFault) → (create m.sessions run.asked.clientid (wish_of m run.asked)).answer ≡ v
        → ToldBy n (next_number number) body Y (by_created m now run.asked (create m.sessions run.asked.clientid (wish_of m run.asked)).after v).machine.clients
    go (Ok id) did = subst (λ k. ToldBy n (next_number number) body Y (with_kept (with_confirmed m.clients k) k (results.Done (made_body run.asked id)))) (sym run.for)
        (tells_made n number run.asked.sequence body (made_body run.asked id) X Y m.clients is
        (subst (λ k. IsNext m.clients k run.asked.sequence) run.for run.next) low
        (λ number_is text. new (granted_by n number body m r who size now choice id counted run did number_is text)) tells)
    go (Err fault) did = subst (λ k. ToldBy n (next_number number) body Y (with_kept m.clients k (results.Refused (session_fault_status fault)))) (sym run.for)
        (tells_refused n (next_number number) body Y m.clients (session_fault_status fault) (tells_more n (next_number number) body X Y m.clients old tells))

pub event_tells : (n number : ℕ) (body : List ℕ) (X Y : Type 0) (m : Machine) (e : MachineEvent) → IsRoster m.clients → IsCounted m.sessions → number < 2 ^ 32
    → (X → Y) → (IsMadeBy n number body m e → Y) → ToldBy n (next_number number) body X m.clients → ToldBy n (next_number number) body Y (stepped m e).clients
event_tells n number body X Y m e is counted low old new tells = elim (cases_Bool (asks_session n e)) [
  | inl asks ↦ own e asks new
  | inr other ↦ tells_more n (next_number number) body X Y (stepped m e).clients old
      (event_carried n (ToldBy n (next_number number) body X) (tells_carried n (next_number number) body X) m e other tells)
]
  where
    own : (e : MachineEvent) → asks_session n e ≡ true → (IsMadeBy n number body m e → Y) → ToldBy n (next_number number) body Y (stepped m e).clients
    own (Expires now) asks new = absurd (false≢true asks)
    own (Asks r who size now choice) asks new = elim (compound_runs n m r who size now choice asks) [
      | inl same ↦ subst (λ (m : Machine). ToldBy n (next_number number) body Y m.clients) (sym same) (tells_more n (next_number number) body X Y m.clients old tells)
      | inr run ↦ asked_tells n number body X Y m r who size now choice is counted low old new run tells
    ]

-- It makes one, or what made it is told.
pub gives_made : (client number : ℕ) (id : List ℕ) (X : Type 0) (m : Machine) (e : MachineEvent) → IsCounted m.sessions → (g : Gives client number id m e)
    → ToldBy client (next_number number) (id ++ g.behind) X m.clients → MakesOne client id m.sessions (stepped m e).sessions ⊎ X
gives_made client number id X m e counted g tells = elim (either client number id m e g) [
  | inr made ↦ inl (for_client client number id m e g counted made)
  | inl repeat ↦ (let again = for_again client number id m e g repeat.again in
      let there = find_in (λ (c : ClientRecord). c.id == client) m.clients.records again.client again.found in
      inr (tells.told again.client there.0 (eqb-true again.client.id client there.1) (sym again.before) again.kept))
]
