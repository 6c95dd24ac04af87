-- A request that does not name a client leaves it all that it has.
use Rattle.std.proofs.Common.{◌≡◌, ◌≢◌, ℕ, suc, ◌≤◌, Bool, true, false, cond, not, List, ◌∷◌, Option, Some, None, Result, Ok, Err, refl, sym, ◌∙◌, ap, subst, arith, inl, inr}
use Rattle.std.proofs.lemmas.Bool.{cases_Bool, eqb-true, ne_eqb, eqb-false, and_parts, false≢true}
use Rattle.std.specs.{Prelude.{◌==◌, ◌&&◌, ◌||◌, filter, find, bytes_eq, is_some, option_map}, Option.option_map_or}
use Rattle.nfs_xdr.specs.{Caller.Caller, Tables.In, declared.status.Status.Status, declared.status.Status.TheVariants.Delay}
use Rattle.nfs_xdr.proofs.{Lists.{find_in, find_kept, find_push_some, filter_past}, Tables.{at_without, in_bounds, in_once}}
use Rattle.nfs_compound.specs.{declared.{op.Item.{Item, TheVariants.Operation}, session_args.CreateSession.CreateSession}, Request.{Request, item_number}}
use Rattle.nfs_compound.specs.declared.op.Op.TheVariants as Op
use Rattle.nfs_clients.specs.Roster.{ClientRecord, Roster, IsRoster, first_id, next_id, client_at, is_unconfirmed_of, unconfirmed_of}
use Rattle.nfs_clients.specs.ExchangeId.{Ask, Case, Refuses, Stays, Adds, case_of, does}
use Rattle.nfs_clients.specs.CreateSession.{leaving, keeps, with_confirmed, is_other_confirmed_of}
use Rattle.nfs_clients.specs.CreateSession as clients
use Rattle.nfs_clients.specs.declared.created.CreateResult.TheVariants as results
use Rattle.nfs_clients.proofs.{Members.{mild_keeps, leaving_by}, Terms.{new_client, without_any, confirms}}
use Rattle.nfs_slots.specs.Slot.{SlotState}
use Rattle.nfs_sessions.specs.{Id.id_of, declared.{channel.Wish.Wish, id.SessionId.SessionId, sessions.SessionFault.SessionFault}, Laws.with_slots}
use Rattle.nfs_sessions.specs.Sessions.{Session, SessionTable, is_session, session_at, create, create_unless, create_fault}
use Rattle.nfs_lease.specs.Renewals.{Book, has_run_out, with_lease, with_renewal, without_lease}
use Rattle.nfs_names.specs.{Context.begins, Outcome.is_ok}
use Rattle.nfs_exec.specs.{Runs.Own.{sessions_of, IsAsBefore, has_owner, is_named_in}, Step.Compound.{carried_out, first_item, renewed, begun, compound}}
use Rattle.nfs_exec.specs.Step.{CreateSession.made_body, Destroy.{destroy_session, client_fault}, ExchangeId.exchange_id, Expiry.expired, Place.place_fault}
use Rattle.nfs_exec.specs.Step.{Machine.{Machine, IsMachine, MachineOutcome, or_with_delay, with_refusal}, Run.{run, is_here, behind_here}}
use Rattle.nfs_exec.specs.Step.Parts.{without_any_lease, wish_of, without_any_sessions, did_exchange, ask_of, by_number, creates, by_created}
use Rattle.nfs_exec.proofs.{Step.{InSteps.{exchange_id_is, create_session_is}, Terms.{by_fault, client_ended}}, Runs.ByEvent.by_answered}
use Rattle.nfs_exec.proofs.{Step.Behind.{run_leases, run_sessions}, Runs.KeptByRuns.Is}
use Rattle.nfs_promises.proofs.Runs.{OthersByOps.{known_apart_from, run_apart}, OthersByRuns.alone_apart}
use Rattle.nfs_files.proofs.OthersTables.{same, both, clients_gone, filter_changed, filter_pushed}

pub as_it_was : (client : ℕ) (m : Machine) → IsAsBefore client m m
as_it_was client m = record { known = refl; sessions = refl; lease = refl; own = same client m.store.opens }

pub then_as : (client : ℕ) (m n left : Machine) → IsAsBefore client m n → IsAsBefore client n left → IsAsBefore client m left
then_as client m n left first second = record {
  known = second.known ∙ first.known;
  sessions = second.sessions ∙ first.sessions;
  lease = second.lease ∙ first.lease;
  own = both client m.store.opens n.store.opens left.store.opens first.own second.own;
}

pub neither : (a b : Bool) → a || b ≡ false → (a ≡ false) × (b ≡ false)
neither true b e = absurd (false≢true (sym e))
neither false b e = (refl, e)

-- Leases and sessions of others.

lease_begins : (b : Book) (client id now : ℕ) → client ≢ id → with_lease b id now client ≡ b client
lease_begins b client id now other = rw (ne_eqb client id other) refl

lease_renewed : (b : Book) (client id now : ℕ) → client ≢ id → with_renewal b id now client ≡ b client
lease_renewed b client id now other = rw (ne_eqb client id other) refl

lease_ends : (b : Book) (client gone : ℕ) → client ≢ gone → without_lease b gone client ≡ b client
lease_ends b client gone other = rw (ne_eqb client gone other) refl

lease_any : (b : Book) (client : ℕ) (o : Option ℕ) → o ≢ Some client → without_any_lease b o client ≡ b client
lease_any b client None other = refl
lease_any b client (Some gone) other = lease_ends b client gone (λ here. other (ap Some (sym here)))

abbrev is_its : ℕ → Session → Bool
is_its client s = s.client == client

session_made : (t : SessionTable) (client id : ℕ) (wish : Wish) (o : Option SessionFault) → id ≢ client
    → sessions_of client (create_unless t id wish o).after ≡ sessions_of client t
session_made t client id wish None other = filter_pushed (is_its client) t.sessions _ (ne_eqb id client other)
session_made t client id wish (Some fault) other = refl

sessions_any : (t : SessionTable) (client : ℕ) (o : Option ℕ) → o ≢ Some client → sessions_of client (without_any_sessions t o) ≡ sessions_of client t
sessions_any t client None other = refl
sessions_any t client (Some gone) other = filter_past (is_its client) (λ (s : Session). not (s.client == gone)) t.sessions
    (λ s there own. ap not (ne_eqb s.client gone (λ here. other (ap Some (sym here ∙ eqb-true _ _ own)))))

of_session : (id : SessionId) (s : Session) → is_session id s ≡ true → s.client ≡ id.client
of_session id s e = eqb-true _ _ (and_parts _ _ e).1

session_gone : (t : SessionTable) (client : ℕ) (id : SessionId) → id.client ≢ client
    → filter (is_its client) (filter (λ s. not (is_session id s)) t.sessions) ≡ sessions_of client t
session_gone t client id other = filter_past (is_its client) (λ (s : Session). not (is_session id s)) t.sessions (λ s there own. elim (cases_Bool (is_session id s)) [
  | inl here ↦ absurd (other (sym (of_session id s here) ∙ eqb-true _ _ own))
  | inr apart ↦ ap not apart
])

slots_moved : (t : SessionTable) (client : ℕ) (id : SessionId) (change : List SlotState → List SlotState) → id.client ≢ client
    → sessions_of client (with_slots t id change) ≡ sessions_of client t
slots_moved t client id change other =
    filter_changed (is_its client) (is_session id) (λ (s : Session). record s { slots = change s.slots }) t.sessions (λ s there here.
    (let none = ne_eqb s.client client (λ own. other (sym (of_session id s here) ∙ own)) in (none, none)))

-- Records of other owners.

the_one : (t : Roster) (client : ℕ) (k d : ClientRecord) → IsRoster t → client_at t client ≡ Some k → In d t.records → d.id ≡ client → d ≡ k
the_one t client k d is at there named =
    let found = find_in (λ (c : ClientRecord). c.id == client) t.records k at in
    in_once (λ (c : ClientRecord). c.id) (first_id t) (next_id t) t.records d k is.rising there found.0 (named ∙ sym (eqb-true _ _ found.1))

not_next : (t : Roster) (client : ℕ) (k : ClientRecord) → IsRoster t → client_at t client ≡ Some k → client ≢ next_id t
not_next t client k is at new =
    let found = find_in (λ (c : ClientRecord). c.id == client) t.records k at in
    let below = in_bounds (λ (c : ClientRecord). c.id) (first_id t) (next_id t) t.records k is.rising found.0 in
    let named : k.id ≡ client = eqb-true _ _ found.1 in
    absurd (below_itself k.id (next_id t) below.1 (named ∙ new))
  where
    below_itself : (a b : ℕ) → suc a ≤ b → a ≡ b → ⊥
    below_itself a b low is = absurd (omega arith)

known_without : (t : Roster) (client : ℕ) (o : Option ℕ) → o ≢ Some client → client_at (without_any t o) client ≡ client_at t client
known_without t client None other = refl
known_without t client (Some gone) other =
    at_without (λ (c : ClientRecord). c.id) client gone t.records ∙ rw (ne_eqb client gone (λ here. other (ap Some (sym here)))) refl

-- whose owner another record has not
others_owner : (t : Roster) (client : ℕ) (k : ClientRecord) (owner : List ℕ) → client_at t client ≡ Some k → has_owner t client owner ≡ false → bytes_eq k.owner owner ≡ false
others_owner t client k owner at none = ap (λ o. option_map_or (λ (c : ClientRecord). bytes_eq c.owner owner) o false) (sym at) ∙ none

not_leaving : (t : Roster) (client id : ℕ) (k : ClientRecord) → IsRoster t → client_at t client ≡ Some k
    → option_map_or (λ (c : ClientRecord). has_owner t client c.owner) (client_at t id) false ≡ false → leaving t id ≢ Some client
not_leaving t client id k is at none = by_record (client_at t id) none
  where
    by_found : (c : ClientRecord) (o : Option ClientRecord) → find (is_other_confirmed_of c) t.records ≡ o → has_owner t client c.owner ≡ false
        → option_map (λ (d : ClientRecord). d.id) o ≡ Some client → ⊥
    by_found c None found none leaves = absurd cc
    by_found c (Some d) found none leaves =
        let named : d.id ≡ client = cc in
        let there = find_in (is_other_confirmed_of c) t.records d found in
        let owner : bytes_eq d.owner c.owner ≡ true = (and_parts _ _ (and_parts _ _ there.1).0).0 in
        let one : d ≡ k = the_one t client k d is at there.0 named in
        false≢true (sym (others_owner t client k c.owner at none) ∙ ap (λ (d : ClientRecord). bytes_eq d.owner c.owner) (sym one) ∙ owner)

    by_record : (o : Option ClientRecord) → option_map_or (λ (c : ClientRecord). has_owner t client c.owner) o false ≡ false → leaving_by t o ≢ Some client
    by_record None none leaves = absurd cc
    by_record (Some c) none leaves = by_found c (find (is_other_confirmed_of c) t.records) refl none leaves

not_replaced : (t : Roster) (client : ℕ) (k : ClientRecord) (owner : List ℕ) → IsRoster t → client_at t client ≡ Some k → has_owner t client owner ≡ false
    → option_map (λ (c : ClientRecord). c.id) (unconfirmed_of t owner) ≢ Some client
not_replaced t client k owner is at none = by_found (unconfirmed_of t owner) refl
  where
    by_found : (o : Option ClientRecord) → unconfirmed_of t owner ≡ o → option_map (λ (c : ClientRecord). c.id) o ≢ Some client
    by_found None found goes = absurd cc
    by_found (Some d) found goes =
        let named : d.id ≡ client = cc in
        let there = find_in (is_unconfirmed_of owner) t.records d found in
        let has : bytes_eq d.owner owner ≡ true = (and_parts _ _ there.1).0 in
        let one : d ≡ k = the_one t client k d is at there.0 named in
        false≢true (sym (others_owner t client k owner at none) ∙ ap (λ (d : ClientRecord). bytes_eq d.owner owner) (sym one) ∙ has)

-- Outside a session.

delayed : (client : ℕ) (m : Machine) (o : MachineOutcome) (refused : Bool) (n : ℕ) → IsAsBefore client m o.machine → IsAsBefore client m (or_with_delay refused m n o).machine
delayed client m o refused n done = go (refused && is_ok o.status)
  where
    go : (b : Bool) → IsAsBefore client m (cond b (with_refusal m n Delay) o).machine
    go true = as_it_was client m
    go false = done

exchange_strange : (client : ℕ) (m : Machine) (k : ClientRecord) (now : ℕ) (a : Ask) (v : Case) → IsRoster m.clients → client_at m.clients client ≡ Some k
    → has_owner m.clients client a.owner ≡ false → IsAsBefore client m (did_exchange m now (does m.clients a v)).machine
exchange_strange client m k now a (Refuses fault) is at none = as_it_was client m
exchange_strange client m k now a (Stays c) is at none = as_it_was client m
exchange_strange client m k now a Adds is at none =
    let t = m.clients in
    let stays : not (is_unconfirmed_of a.owner k) ≡ true = ap (λ b. not (b && not k.confirmed)) (others_owner t client k a.owner at none) in
    let gone = option_map (λ (c : ClientRecord). c.id) (unconfirmed_of t a.owner) in
    record {
      known = find_push_some (λ (c : ClientRecord). c.id == client) (filter (λ c. not (is_unconfirmed_of a.owner c)) t.records) (new_client t a.owner a.verifier a.uid) k
          (find_kept (λ (c : ClientRecord). c.id == client) (λ c. not (is_unconfirmed_of a.owner c)) t.records k at stays) ∙ sym at;
      sessions = refl;
      lease = lease_any (with_lease m.leases (next_id t) now) client gone (not_replaced t client k a.owner is at none)
          ∙ lease_begins m.leases client (next_id t) now (not_next t client k is at);
      own = same client m.store.opens;
    }

made_strange : (client : ℕ) (m : Machine) (now : ℕ) (c : CreateSession) (t : SessionTable) (v : Result SessionId SessionFault)
    → c.clientid ≢ client → leaving m.clients c.clientid ≢ Some client → sessions_of client t ≡ sessions_of client m.sessions
    → IsAsBefore client m (by_created m now c t v).machine
made_strange client m now c t (Ok id) other stays made =
    let goes = leaving m.clients c.clientid in
    let apart : client ≢ c.clientid = λ here. other (sym here) in
    record {
      known = known_apart_from (with_confirmed m.clients c.clientid) client c.clientid (keeps (results.Done (made_body c id))) (mild_keeps (results.Done (made_body c id))).id other
          ∙ known_apart_from (without_any m.clients goes) client c.clientid confirms (λ r. refl) other
          ∙ known_without m.clients client goes stays;
      sessions = sessions_any t client goes stays ∙ made;
      lease = lease_renewed (without_any_lease m.leases goes) client c.clientid now apart ∙ lease_any m.leases client goes stays;
      own = alone_apart client m.store.opens m.store goes stays (same client m.store.opens);
    }
made_strange client m now c t (Err fault) other stays made = record {
  known = known_apart_from m.clients client c.clientid (keeps (results.Refused _)) (mild_keeps (results.Refused _)).id other;
  sessions = refl;
  lease = refl;
  own = same client m.store.opens;
}

created_strange : (client : ℕ) (m : Machine) (now : ℕ) (refused : Bool) (c : CreateSession) (v : clients.Verdict)
    → c.clientid ≢ client → leaving m.clients c.clientid ≢ Some client → IsAsBefore client m (by_number m now refused c v).machine
created_strange client m now refused c (clients.Again (results.Done body)) other stays = as_it_was client m
created_strange client m now refused c (clients.Again (results.Refused status)) other stays = as_it_was client m
created_strange client m now refused c clients.Runs other stays =
    let did = create m.sessions c.clientid (wish_of m c) in
    delayed client m (creates m now c did) refused 43 (made_strange client m now c did.after did.answer other stays
    (session_made m.sessions client c.clientid (wish_of m c) (create_fault m.sessions (wish_of m c)) other))
created_strange client m now refused c v other stays = as_it_was client m

session_strange : (client : ℕ) (m : Machine) (sessionid : List ℕ) → (id_of sessionid).client ≢ client → IsAsBefore client m (destroy_session m sessionid).machine
session_strange client m sessionid other = elim (cases_Bool (is_some (session_at m.sessions (id_of sessionid)))) [
  | inl stood ↦ rw stood (record {
    known = refl;
    sessions = session_gone m.sessions client (id_of sessionid) other;
    lease = refl;
    own = same client m.store.opens;
  })
  | inr gone ↦ rw gone (as_it_was client m)
]

destroyed_strange : (client : ℕ) (m : Machine) (gone : ℕ) (o : Option Status) → gone ≢ client → IsAsBefore client m (by_fault m 57 o (client_ended m gone)).machine
destroyed_strange client m gone None other = record {
  known = known_without m.clients client (Some gone) (λ e. (let here : gone ≡ client = cc in other here));
  sessions = refl;
  lease = lease_ends m.leases client gone (λ here. other (sym here));
  own = same client m.store.opens;
}
destroyed_strange client m gone (Some fault) other = as_it_was client m

carried_strange : (client : ℕ) (m : Machine) (k : ClientRecord) (who : Caller) (now : ℕ) (refused : Bool) (i : Item) (more : List Item) → IsRoster m.clients
    → client_at m.clients client ≡ Some k → is_named_in client m.clients (i ∷ more) ≡ false → IsAsBefore client m (carried_out m who now refused i).machine
carried_strange client m k who now refused (Operation (Op.ExchangeId e)) more is at none =
    delayed client m (exchange_id m who now e) refused 42 (subst (λ (o : MachineOutcome). IsAsBefore client m o.machine) (sym (exchange_id_is m who now e))
    (exchange_strange client m k now (ask_of m who e) (case_of m.clients (ask_of m who e)) is at none))
carried_strange client m k who now refused (Operation (Op.CreateSession c)) more is at none =
    let parts = neither (c.clientid == client) _ none in
    subst (λ (o : MachineOutcome). IsAsBefore client m o.machine) (sym (create_session_is m who now refused c))
    (created_strange client m now refused c (clients.create_verdict m.clients c.clientid c.sequence who.uid) (eqb-false c.clientid client parts.0)
    (not_leaving m.clients client c.clientid k is at parts.1))
carried_strange client m k who now refused (Operation (Op.DestroySession sessionid)) more is at none =
    session_strange client m sessionid (eqb-false (id_of sessionid).client client none)
carried_strange client m k who now refused (Operation (Op.DestroyClientId gone)) more is at none =
    destroyed_strange client m gone (client_fault m gone) (eqb-false gone client none)
carried_strange client m k who now refused i more is at none = as_it_was client m

first_strange : (client : ℕ) (m : Machine) (k : ClientRecord) (declared : ℕ) (who : Caller) (now : ℕ) (refused : Bool) (i : Item) (more : List Item) → IsRoster m.clients
    → client_at m.clients client ≡ Some k → is_named_in client m.clients (i ∷ more) ≡ false → IsAsBefore client m (first_item m declared who now refused i).machine
first_strange client m k declared who now refused i more is at none = go (place_fault declared i)
  where
    go : (f : Option Status) → IsAsBefore client m (by_fault m (item_number i) f (carried_out m who now refused i)).machine
    go None = carried_strange client m k who now refused i more is at none
    go (Some status) = as_it_was client m

-- The end of others' leases.

pub expired_strange : (client : ℕ) (m : Machine) (k : ClientRecord) (now : ℕ) → client_at m.clients client ≡ Some k
    → has_run_out m.store.lease m.leases now client ≡ false → IsAsBefore client m (expired now m)
expired_strange client m k now at stays =
    let found = find_in (λ (c : ClientRecord). c.id == client) m.clients.records k at in
    let here : not (has_run_out m.store.lease m.leases now k.id) ≡ true =
    ap (λ n. not (has_run_out m.store.lease m.leases now n)) (eqb-true _ _ found.1) ∙ ap not stays in
    record {
      known = find_kept (λ (c : ClientRecord). c.id == client) (λ c. not (has_run_out m.store.lease m.leases now c.id)) m.clients.records k at here ∙ sym at;
      sessions = filter_past (is_its client) (λ (s : Session). not (has_run_out m.store.lease m.leases now s.client)) m.sessions.sessions
          (λ s there own. ap (λ n. not (has_run_out m.store.lease m.leases now n)) (eqb-true _ _ own) ∙ ap not stays);
      lease = rw stays refl;
      own = clients_gone client m.store.opens (λ n. not (has_run_out m.store.lease m.leases now n)) (ap not stays);
    }

-- The whole compound.

pub compound_strange : (client : ℕ) (m : Machine) (k : ClientRecord) (r : Request) (who : Caller) (size now : ℕ) (choice : Option ℕ) → Is m → IsMachine m
    → client_at m.clients client ≡ Some k → is_named_in client m.clients r.left ≡ false → IsAsBefore client m (compound m r who size now choice).machine
compound_strange client m k r who size now choice is machine at none = by_answered (λ a ds run. IsAsBefore client m a.machine) m r who size now choice
    (λ text. as_it_was client m) (λ item more one here. first_strange client m k r.declared who now (is_here choice) item more machine.clients at (rw here at none))
    (λ s more c here runs.
    (let other = eqb-false (id_of s.sessionid).client client (rw here at none) in
    let x = begins (id_of s.sessionid).client who in
    let ran = run c.maxresponsesize (begun r s c) now (behind_here choice) (renewed m now s) x more in
    let apart = run_apart client c.maxresponsesize (begun r s c) now (behind_here choice) (renewed m now s) x more is other in
    record {
      known = apart.known;
      sessions = slots_moved ran.machine.sessions client (id_of s.sessionid) _ other
          ∙ ap (sessions_of client) (run_sessions c.maxresponsesize (begun r s c) now (behind_here choice) (renewed m now s) x more);
      lease = ap (λ (b : Book). b client) (run_leases c.maxresponsesize (begun r s c) now (behind_here choice) (renewed m now s) x more)
          ∙ lease_renewed m.leases client (id_of s.sessionid).client now (λ here. other (sym here));
      own = apart.own;
    }))
