-- A session that a CREATE_SESSION made stays, through whatever records come in time: that renewed its client's lease.
use Rattle.std.proofs.Common.{◌≡◌, ℕ, ◌≤◌, Bool, true, false, cond, eqb, List, ◌∷◌, length, Option, Some, None, Result, Ok, Err, refl, sym, ◌∙◌, ap, subst, arith}
use Rattle.std.proofs.{lemmas.Bool.{eq-eqb, false≢true}, lemmas.Option.same_Some}
use Rattle.std.specs.Prelude.{◌&&◌, is_some, option_map}
use Rattle.nfs_xdr.specs.{Caller.Caller, declared.status.Status.Status, declared.status.Status.TheVariants.{Delay, MinorVersMismatch}}
use Rattle.nfs_compound.specs.{declared.op.Item.Item, declared.op.Item.TheVariants.Operation, declared.session_args.CreateSession.CreateSession, Request.{Request, item_number}}
use Rattle.nfs_compound.specs.declared.op.Op.TheVariants as Op
use Rattle.nfs_clients.specs.CreateSession.{leaving, create_verdict}
use Rattle.nfs_clients.specs.CreateSession as clients
use Rattle.nfs_clients.specs.declared.created.CreateResult.TheVariants as results
use Rattle.nfs_lease.specs.Renewals.{Book, with_renewal}
use Rattle.nfs_names.specs.{declared.start.Start.Start, Outcome.is_ok}
use Rattle.nfs_sessions.specs.{declared.id.SessionId.SessionId, declared.sessions.SessionFault.SessionFault, Sessions.{SessionTable, session_at, create}}
use Rattle.nfs_exec.specs.{Runs.OneSession.MakesOne, Step.Compound.{bare, by_first, carried_out, compound, first_item}}
use Rattle.nfs_exec.specs.Step.{Parts.{without_any_lease, wish_of, by_created, by_number, creates}, Laws.Asks, Place.place_fault}
use Rattle.nfs_exec.specs.Step.{Machine.{Machine, MachineOutcome, with_refusal}, Run.is_here}
use Rattle.nfs_exec.proofs.Step.{InSteps.create_session_is, Terms.by_fault}
use Rattle.nfs_promises.proofs.Runs.{Renewing.AtLeast, Points.{left, for_asked, next_is, IsSound, sound_next, sound_all, sound_new}}
use Rattle.nfs_promises.proofs.{Runs.StayingInTime.{lease_next, lease_all}, Calls.SessionStays.stays}
use Rattle.nfs_serve.specs.{Step.{ServerState, new_state}}
use Rattle.nfs_promises.specs.{Network.Endpoint.Arrival, Runs.Points.{state_after, reached, taken, before, asked_by}, Calls.SessionStays.HasSession}
use Rattle.nfs_promises.specs.Calls.{SessionStays.StaysThere, SessionsOnce.GivesIn}

mapped_now : (now r : ℕ) (o : Option ℕ) → option_map (λ (moment : ℕ). now) o ≡ Some r → now ≤ r
mapped_now now r None e = (let bad : None ≡ Some r = e in absurd cc)
mapped_now now r (Some moment) e = (let same : Some now ≡ Some r = e in let is : now ≡ r = cc in omega arith)

renewal_least : (b : Book) (client now : ℕ) → AtLeast now client (with_renewal b client now)
renewal_least b client now r e = mapped_now now r (b client) (rw (eq-eqb client client refl) at e)

-- The one CREATE_SESSION behind which a session stands that did not before renews its client's lease.
module _ (session : SessionId) (m : Machine) (absent : session_at m.sessions session ≡ None) (now n : ℕ) where
  abbrev Renews : Machine → Type 0
  Renews left = is_some (session_at left.sessions session) ≡ true → AtLeast now n left.leases

  same : (left : Machine) → left.sessions ≡ m.sessions → Renews left
  same left is some = absurd (false≢true (sym (ap is_some (ap (λ (t : SessionTable). session_at t session) is ∙ absent)) ∙ some))

  by_made : (c : CreateSession) (t : SessionTable) (v : Result SessionId SessionFault) → c.clientid ≡ n → Renews (by_created m now c t v).machine
  by_made c t (Ok id) mine some = subst (λ n. AtLeast now n (by_created m now c t (Ok id)).machine.leases) mine
      (renewal_least (without_any_lease m.leases (leaving m.clients c.clientid)) c.clientid now)
  by_made c t (Err fault) mine some = same (by_created m now c t (Err fault)).machine refl some

  by_new : (refused : Bool) (c : CreateSession) → c.clientid ≡ n → Renews (by_number m now refused c clients.Runs).machine
  by_new refused c mine =
      let did = create m.sessions c.clientid (wish_of m c) in
      let o = creates m now c did in
      elim (refused && is_ok o.status) as (λ b. Renews (cond b (with_refusal m 43 Delay) o).machine) [
        | true ↦ same m refl
        | false ↦ by_made c did.after did.answer mine
      ]

  by_answer : (refused : Bool) (c : CreateSession) (v : clients.Verdict) → c.clientid ≡ n → Renews (by_number m now refused c v).machine
  by_answer refused c (clients.Again (results.Done body)) mine = same m refl
  by_answer refused c (clients.Again (results.Refused status)) mine = same m refl
  by_answer refused c clients.Runs mine = by_new refused c mine
  by_answer refused c v mine = same m refl

  by_place : (number : ℕ) (f : Option Status) (o : MachineOutcome) → Renews o.machine → Renews (by_fault m number f o).machine
  by_place number None o renews = renews
  by_place number (Some status) o renews = same m refl

  first_renews : (declared : ℕ) (who : Caller) (refused : Bool) (c : CreateSession) → c.clientid ≡ n
      → Renews (first_item m declared who now refused (Operation (Op.CreateSession c))).machine
  first_renews declared who refused c mine =
      by_place (item_number (Operation (Op.CreateSession c))) (place_fault declared (Operation (Op.CreateSession c)))
      (carried_out m who now refused (Operation (Op.CreateSession c)))
      (subst (λ (o : MachineOutcome). Renews o.machine) (sym (create_session_is m who now refused c))
      (by_answer refused c (create_verdict m.clients c.clientid c.sequence who.uid) mine))

  create_renews : (r : Request) (who : Caller) (size : ℕ) (choice : Option ℕ) (c : CreateSession) (more : List Item) → r.left ≡ Operation (Op.CreateSession c) ∷ more
      → c.clientid ≡ n → Renews (compound m r who size now choice).machine
  create_renews r who size choice c more first mine = go (eqb r.minor 1)
    where
      go : (b : Bool) → Renews (cond b (by_first m r who size now choice r.left) (bare r MinorVersMismatch m)).machine
      go true = subst (λ items. Renews (by_first m r who size now choice items).machine) (sym first) (first_renews r.declared who (is_here choice) c mine)
      go false = same m refl

-- So it stays from there on.

asked_now : (s : ServerState) (c : Arrival) (r : Request) (who : Caller) (size now : ℕ) (choice : Option ℕ) → asked_by s c ≡ Some (Asks r who size now choice) → now ≡ taken s c
asked_now s c r who size now choice = for_asked (λ o. o ≡ Some (Asks r who size now choice) → now ≡ taken s c) s c (λ e. absurd cc) (λ q by e.
    (let same : Asks q by (length c.bytes) (taken s c) c.choice ≡ Asks r who size now choice = same_Some _ _ e in cc))

made_least : (s : ServerState) (c : Arrival) (id : SessionId) (number : ℕ) (text : List ℕ) → GivesIn id.client number text s c
    → (makes : MakesOne id.client text (before s c).sessions (state_after s c).machine.sessions) → makes.session ≡ id → AtLeast (taken s c) id.client (state_after s c).machine.leases
made_least s c id number text g makes named =
    let m = before s c in
    let gives = g.gives in
    let asks : asked_by s c ≡ Some (Asks gives.request gives.who gives.size gives.now gives.choice) = g.asks ∙ ap Some gives.is in
    let now = asked_now s c gives.request gives.who gives.size gives.now gives.choice asks in
    let machine : (state_after s c).machine ≡ (compound m gives.request gives.who gives.size gives.now gives.choice).machine =
    ap (λ (s : ServerState). s.machine) (next_is s c) ∙ ap (left m) asks in
    let there : is_some (session_at (compound m gives.request gives.who gives.size gives.now gives.choice).machine.sessions makes.session) ≡ true =
    subst (λ (m : Machine). is_some (session_at m.sessions makes.session) ≡ true) machine makes.there in
    subst (λ (m : Machine). AtLeast (taken s c) id.client m.leases) (sym machine)
    (subst (λ n. AtLeast n id.client (compound m gives.request gives.who gives.size gives.now gives.choice).machine.leases) now
    (create_renews makes.session m makes.absent gives.now id.client gives.request gives.who gives.size gives.choice gives.asked gives.more gives.first gives.for there))

pub made_stays : (start : Start) (earlier : List Arrival) (c : Arrival) (id : SessionId) (number : ℕ) (text : List ℕ)
    → (let s = reached start earlier in
    GivesIn id.client number text s c → (makes : MakesOne id.client text (before s c).sessions (state_after s c).machine.sessions) → makes.session ≡ id
    → (more : List Arrival) → StaysThere id start.lease (taken s c) (state_after s c) more)
made_stays start earlier c id number text g makes named more =
    let s = reached start earlier in
    let sound : IsSound s = sound_all (new_state start) earlier (sound_new start) in
    stays id start.lease (taken s c) (state_after s c) more (record {
      sound = sound_next s c sound;
      stands = tt;
      least = made_least s c id number text g makes named;
      low = subst (λ n. taken s c ≤ n) (sym (ap (λ (s : ServerState). s.moment) (next_is s c))) (omega arith);
      lasts = lease_next s c ∙ lease_all (new_state start) earlier;
    }) (subst (λ i. HasSession i (state_after s c).machine) named makes.there)
