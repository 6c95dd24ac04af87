-- What holds of every machine is kept by each step.
use Rattle.std.proofs.Common.{◌≡◌, ◌≢◌, ℕ, ◌+◌, ◌<◌, Bool, true, false, cond, eqb, ltb, List, [], ◌∷◌, length, Option, Some, None, Result, Ok, Err, refl, sym}
use Rattle.std.proofs.{Common.{◌∙◌, ap, subst, arith, inl, inr}, lemmas.Bool.{cases_Bool, cases_eq, ne_eqb, eq-eqb, eqb-true, and_parts, false≢true}}
use Rattle.std.specs.{Prelude.{not, ◌&&◌, ◌||◌, filter, is_some, option_map, ◌⊎◌}, Option.option_map_or, List.list_any}
use Rattle.nfs_xdr.specs.{Caller.Caller, declared.status.Status.Status, declared.status.Status.TheVariants.{StaleClientId, ClientIdBusy}, Tables.{In, record_at}}
use Rattle.nfs_xdr.proofs.{Lists.{in_filter, in_push, in_map, find_in}, Tables.{at_of_in, at_without, at_with, at_push}}
use Rattle.nfs_compound.specs.{declared.channel_attrs.ChannelAttrs.ChannelAttrs, declared.op.Item.Item, declared.op.Item.TheVariants.Operation, Request.Request}
use Rattle.nfs_compound.specs.{declared.session_args.CreateSession.CreateSession, declared.session_args.Sequence.Sequence}
use Rattle.nfs_compound.specs.declared.op.Op.TheVariants as Op
use Rattle.nfs_clients.specs.Roster.{ClientRecord, Roster, IsRoster, first_id, client_at, without, is_unconfirmed_of, unconfirmed_of, confirmed_of}
use Rattle.nfs_clients.specs.{Roster.next_id, ExchangeId.{Ask, Case, Refuses, Stays, Adds, has_room, case_by, case_of, does, with_new}}
use Rattle.nfs_clients.specs.CreateSession.{leaving, with_confirmed, with_kept, keeps, verdict_by}
use Rattle.nfs_clients.specs.{Marks.{has_reclaimed, with_reclaimed}, declared.created.CreateResult.CreateResult}
use Rattle.nfs_clients.specs.declared.created.CreateResult.TheVariants.{Done, Refused}
use Rattle.nfs_clients.specs.CreateSession as clients
use Rattle.nfs_clients.proofs.Members.{the_id, mild_keeps, mild_reclaims, fresh, roster_filter, roster_changed, roster_without, roster_confirmed}
use Rattle.nfs_clients.proofs.{Members.{roster_new, without_unconfirmed}, Terms.{new_client, without_any, confirms}}
use Rattle.nfs_slots.specs.Slot.{SlotState}
use Rattle.nfs_sessions.specs.{declared.{id.SessionId.SessionId, channel.Wish.Wish}, Laws.with_slots}
use Rattle.nfs_sessions.specs.{declared.sessions.SessionFault.SessionFault, Id.id_of}
use Rattle.nfs_sessions.specs.Sessions.{Session, SessionTable, is_session, session_at, create_unless, create_fault, session_fault_status, with_session}
use Rattle.nfs_sessions.specs.Sessions as sessions
use Rattle.nfs_lease.specs.Renewals.{Book, has_run_out, with_lease, with_renewal, without_lease}
use Rattle.nfs_exec.specs.Step.{Machine.{Machine, IsMachine, starts, is_confirmed}, Parts.{without_any_lease, wish_of, without_any_sessions, without_any_opens}}
use Rattle.nfs_exec.specs.Step.CreateSession.{confirmed}
use Rattle.nfs_exec.specs.{Step.Sequence.sequenced, Step.Compound.{first_item, renewed, begun, compound}, Step.Expiry.expired}
use Rattle.nfs_exec.specs.Step.{ReclaimComplete.reclaim_complete, Behind.{Step, step, on_store, otherwise}}
use Rattle.nfs_exec.specs.Step.Run.{run, in_room, reserve, is_here, behind_here}
use Rattle.nfs_exec.specs.Step.Sequence as sequence
use Rattle.nfs_exec.specs.Step.Parts.{ask_of, leases_behind, by_created}
use Rattle.nfs_exec.proofs.{Step.Exchanging.room_of, Step.Behind.{by_step, follow_kept}, Runs.ByEvent.{by_compound, by_alone}, Step.RepliesKept.runs_means}
use Rattle.nfs_exec.proofs.Step.{OpensStaying.open_staying, Terms.{is_client, of_one, of_all}}
use Rattle.nfs_names.specs.{declared.start.Start.Start, declared.context.Context.Context, Context.begins, Ending.has_open, declared.node.Node.Node}
use Rattle.nfs_names.specs.{Checks.current}
use Rattle.nfs_names.specs.{Outcome.{Outcome as OfStore}, State.{State, time_at}}
use Rattle.nfs_names.proofs.Untouched.{Leaves, leaves_each}
use Rattle.nfs_opens.specs.{Table.Table, TableInvariants.IsTable}
use Rattle.nfs_opens.proofs.TableLemmas.{table_new}
use Rattle.nfs_files.proofs.Outcomes as files
use Rattle.nfs_files.proofs.{Outcomes.for_each, TableSteps.table_staying_is, OwnOpens.{Spares, OthersThan, spares_others}}
use Rattle.nfs_results.specs.Largest.{largest}
use Rattle.nfs_exec.proofs.Step.Terms.{has_session, run_in}

pub of_start : (start : Start) → start.instance < 4294967296 → IsMachine (starts start)
of_start start small = record {
  clients = record { rising = omega arith; alone = λ c d a b owner mark. absurd a; few = omega arith; instance = omega arith };
  leased = λ client. refl;
  confirmed = λ s there. absurd there;
  opened = λ client holds. absurd (false≢true holds);
  table = table_new start.instance;
}

abbrev mark_of : Option ClientRecord → Bool
mark_of o = option_map_or (λ (c : ClientRecord). c.confirmed) o false

pub not_true : (b : Bool) → not b ≡ true → b ≡ false
not_true true e = absurd cc
not_true false e = refl

-- Clients behind a filter of their ids.

at_ids : (p : ℕ → Bool) (n : ℕ) (xs : List ClientRecord) → record_at the_id (filter (λ c. p c.id) xs) n ≡ cond (p n) (record_at the_id xs n) None
at_ids p n [] = elim (p n) as (λ v. ◌≡◌ {A = Option ClientRecord} None (cond v None None)) [ true ↦ refl | false ↦ refl ]
at_ids p n (x ∷ xs) = elim (cases_eq x.id n) [
  | inl here ↦ elim (cases_Bool (p n)) [
    | inl stays ↦ rw (ap p here ∙ stays, eq-eqb x.id n here, stays) refl
    | inr goes ↦ rw (ap p here ∙ goes, goes) (at_ids p n xs ∙ rw goes refl)
  ]
  | inr other ↦ elim (cases_Bool (p x.id)) [
    | inl stays ↦ rw (stays, ne_eqb x.id n other) (at_ids p n xs)
    | inr goes ↦ rw (goes, ne_eqb x.id n other) (at_ids p n xs)
  ]
]

some_not : (out : Bool) {A B : Type 0} (a : Option A) (b : Option B) → is_some a ≡ is_some b → is_some (cond out None a) ≡ is_some (cond (not out) b None)
some_not true a b same = refl
some_not false a b same = same

pub of_expired : (m : Machine) (now : ℕ) → IsMachine m → IsMachine (expired now m)
of_expired m now is =
    let out = has_run_out m.store.lease m.leases now in
    let at : (n : ℕ) → client_at (expired now m).clients n ≡ cond (not (out n)) (client_at m.clients n) None =
    λ n. at_ids (λ k. not (out k)) n m.clients.records in
    record {
      clients = roster_filter m.clients (λ c. not (out c.id)) is.clients;
      leased = λ c. some_not (out c) (m.leases c) (client_at m.clients c) (is.leased c) ∙ ap is_some (sym (at c));
      confirmed = λ s there. (let kept = in_filter (λ (s : Session). not (out s.client)) m.sessions.sessions s there in
          ap (λ o. option_map_or (λ (c : ClientRecord). c.confirmed) o false) (at s.client ∙ ap (λ b. cond b (client_at m.clients s.client) None) kept.1)
          ∙ is.confirmed s kept.0);
      opened = λ c holds. (let stays = and_parts (not (out c)) (has_open m.store c) (sym (open_staying (λ k. not (out k)) m.store c) ∙ holds) in
          ap mark_of (at c ∙ ap (λ b. cond b (client_at m.clients c) None) stays.0) ∙ is.opened c stays.1);
      table = table_staying_is (λ k. not (out k)) m.store.opens is.table;
    }

-- Without a client that has neither a session nor an open.

some_gone : (gone : Bool) {A B : Type 0} (a : Option A) (b : Option B) → is_some a ≡ is_some b → is_some (cond gone None a) ≡ is_some (cond gone None b)
some_gone true a b same = refl
some_gone false a b same = same

any_none : (p : Session → Bool) (xs : List Session) (x : Session) → list_any p xs ≡ false → In x xs → p x ≡ false
any_none p [] x none there = absurd there
any_none p (y ∷ ys) x none there = elim (cases_Bool (p y)) [
  | inl passes ↦ absurd (false≢true (sym none ∙ rw passes refl))
  | inr fails ↦ elim there [ inl here ↦ ap p here ∙ fails | inr more ↦ any_none p ys x (rw fails at none) more ]
]

pub of_destroyed_client : (m : Machine) (client : ℕ) → IsMachine m → list_any (λ (s : Session). eqb s.client client) m.sessions.sessions ≡ false →
    has_open m.store client ≡ false →
    IsMachine (record m { clients = without m.clients client; leases = without_lease m.leases client })
of_destroyed_client m client is none unheld =
    let at : (n : ℕ) → client_at (without m.clients client) n ≡ cond (eqb n client) None (client_at m.clients n) =
    λ n. at_without the_id n client m.clients.records in
    record {
      clients = roster_without m.clients client is.clients;
      leased = λ c. some_gone (eqb c client) (m.leases c) (client_at m.clients c) (is.leased c) ∙ ap is_some (sym (at c));
      confirmed = λ s there. (let other = any_none (λ (s : Session). eqb s.client client) m.sessions.sessions s none there in
          ap (λ o. option_map_or (λ (c : ClientRecord). c.confirmed) o false) (at s.client ∙ ap (λ b. cond b None (client_at m.clients s.client)) other)
          ∙ is.confirmed s there);
      opened = λ c holds. ap mark_of (at c) ∙ stays c holds (cases_eq c client);
      table = is.table;
    }
  where
    stays : (c : ℕ) → has_open m.store c ≡ true → (c ≡ client) ⊎ (c ≢ client) → mark_of (cond (eqb c client) None (client_at m.clients c)) ≡ true
    stays c holds (inl here) = absurd (false≢true (sym (ap (has_open m.store) here ∙ unheld) ∙ holds))
    stays c holds (inr other) = rw (ne_eqb c client other) (is.opened c holds)

pub of_fewer_sessions : (m : Machine) (t : SessionTable) → IsMachine m
    → ((s : Session) → In s t.sessions → In s m.sessions.sessions) → IsMachine (record m { sessions = t })
of_fewer_sessions m t is fewer = record {
  clients = is.clients;
  leased = is.leased;
  confirmed = λ s there. is.confirmed s (fewer s there);
  opened = is.opened;
  table = is.table;
}

-- A renewal, and a slot that keeps a reply.

renewed_some : (b : Book) (client now c : ℕ) → is_some (with_renewal b client now c) ≡ is_some (b c)
renewed_some b client now c = elim (cases_Bool (eqb c client)) [
  | inl here ↦ rw here (map_some (b c))
  | inr other ↦ rw other refl
]
  where
    map_some : (o : Option ℕ) → is_some (option_map (λ (moment : ℕ). now) o) ≡ is_some o
    map_some None = refl
    map_some (Some x) = refl

pub of_renewed : (m : Machine) (client now : ℕ) → IsMachine m → IsMachine (record m { leases = with_renewal m.leases client now })
of_renewed m client now is = record {
  clients = is.clients;
  leased = λ c. renewed_some m.leases client now c ∙ is.leased c;
  confirmed = is.confirmed;
  opened = is.opened;
  table = is.table;
}

in_slots : (t : SessionTable) (id : SessionId) (change : List SlotState → List SlotState) (s : Session)
    → In s (with_slots t id change).sessions → (x : Session) × In x t.sessions × (s.client ≡ x.client)
in_slots t id change s there =
    let was = in_map (λ (s : Session). cond (is_session id s) (record s { slots = change s.slots }) s) t.sessions s there in
    (was.0, was.1, ap (λ (s : Session). s.client) was.2 ∙ same (is_session id was.0) was.0)
  where
    same : (b : Bool) (x : Session) → (cond b (record x { slots = change x.slots }) x).client ≡ x.client
    same true x = refl
    same false x = refl

pub of_kept : (m : Machine) (id : SessionId) (change : List SlotState → List SlotState)
    → IsMachine m → IsMachine (record m { sessions = with_slots m.sessions id change })
of_kept m id change is = record {
  clients = is.clients;
  leased = is.leased;
  confirmed = λ s there. (let was = in_slots m.sessions id change s there in ap (is_confirmed m.clients) was.2 ∙ is.confirmed was.0 was.1);
  opened = is.opened;
  table = is.table;
}

-- A client's result that is kept.

map_mark : (f : ClientRecord → ClientRecord) (o : Option ClientRecord) → ((c : ClientRecord) → (f c).confirmed ≡ c.confirmed)
    → option_map_or (λ (c : ClientRecord). c.confirmed) (option_map f o) false ≡ option_map_or (λ (c : ClientRecord). c.confirmed) o false
map_mark f None same = refl
map_mark f (Some c) same = same c

map_is : (f : ClientRecord → ClientRecord) (o : Option ClientRecord) → is_some (option_map f o) ≡ is_some o
map_is f None = refl
map_is f (Some c) = refl

kept_is : (t : Roster) (client c : ℕ) (result : CreateResult) → is_client (with_kept t client result) c ≡ is_client t c
kept_is t client c result =
    ap is_some (at_with the_id (keeps result) (mild_keeps result).id c client t.records)
    ∙ elim (eqb c client) as (λ v. is_some (cond v (option_map (keeps result) (client_at t c)) (client_at t c)) ≡ is_client t c)
    [ true ↦ map_is (keeps result) (client_at t c) | false ↦ refl ]

kept_mark : (t : Roster) (client c : ℕ) (result : CreateResult) → is_confirmed (with_kept t client result) c ≡ is_confirmed t c
kept_mark t client c result =
    ap (λ o. option_map_or (λ (c : ClientRecord). c.confirmed) o false) (at_with the_id (keeps result) (mild_keeps result).id c client t.records)
    ∙ elim (eqb c client) as (λ v.
    option_map_or (λ (c : ClientRecord). c.confirmed) (cond v (option_map (keeps result) (client_at t c)) (client_at t c)) false ≡ is_confirmed t c) [
      | true ↦ map_mark (keeps result) (client_at t c) (mild_keeps result).mark
      | false ↦ refl
    ]

pub of_kept_result : (m : Machine) (client : ℕ) (result : CreateResult) → IsMachine m → IsMachine (record m { clients = with_kept m.clients client result })
of_kept_result m client result is = record {
  clients = roster_changed (keeps result) m.clients client (mild_keeps result) is.clients;
  leased = λ c. is.leased c ∙ sym (kept_is m.clients client c result);
  confirmed = λ s there. kept_mark m.clients client s.client result ∙ is.confirmed s there;
  opened = λ c holds. kept_mark m.clients client c result ∙ is.opened c holds;
  table = is.table;
}

-- What an id names where one record may have gone.

is_id : Option ℕ → ℕ → Bool
is_id None n = false
is_id (Some gone) n = eqb n gone

without_is : (t : Roster) (o : Option ℕ) (n : ℕ) → client_at (without_any t o) n ≡ cond (is_id o n) None (client_at t n)
unfolding is_id
without_is t None n = refl
without_is t (Some gone) n = at_without the_id n gone t.records

lease_is : (b : Book) (o : Option ℕ) (n : ℕ) → without_any_lease b o n ≡ cond (is_id o n) None (b n)
unfolding is_id
lease_is b None n = refl
lease_is b (Some gone) n = refl

-- EXCHANGE_ID.

named : (t : Roster) (owner : List ℕ) (d : ClientRecord) → IsRoster t → unconfirmed_of t owner ≡ Some d → (client_at t d.id ≡ Some d) × (d.confirmed ≡ false)
named t owner d is found =
    let there = find_in (is_unconfirmed_of owner) t.records d found in
    let tests = and_parts _ _ there.1 in
    (at_of_in the_id (first_id t) (next_id t) t.records d is.rising there.0, not_true d.confirmed tests.1)

-- the record that is replaced is not confirmed, and has not the next id

keeps_confirmed : (t : Roster) (owner : List ℕ) (o : Option ClientRecord) (n : ℕ) → IsRoster t
    → unconfirmed_of t owner ≡ o → is_confirmed t n ≡ true → is_id (option_map the_id o) n ≡ false
unfolding is_id
keeps_confirmed t owner None n is found mark = refl
keeps_confirmed t owner (Some d) n is found mark = elim (cases_eq n d.id) [
  | inl same ↦ (let at = named t owner d is found in
      let marked : d.confirmed ≡ true = sym (ap mark_of at.0) ∙ ap (is_confirmed t) (sym same) ∙ mark in
      absurd (false≢true (sym at.1 ∙ marked)))
  | inr other ↦ ne_eqb n d.id other
]

keeps_next : (t : Roster) (owner : List ℕ) (o : Option ClientRecord) (n : ℕ) → IsRoster t
    → unconfirmed_of t owner ≡ o → client_at t n ≡ None → is_id (option_map the_id o) n ≡ false
unfolding is_id
keeps_next t owner None n is found none = refl
keeps_next t owner (Some d) n is found none = elim (cases_eq n d.id) [
  | inl same ↦ absurd (let bad : None ≡ Some d = sym none ∙ ap (client_at t) same ∙ (named t owner d is found).0 in cc)
  | inr other ↦ ne_eqb n d.id other
]

only_some : {A : Type 0} (o : Option A) → is_some (cond (is_some o) o None) ≡ is_some o
only_some None = refl
only_some (Some x) = refl

-- what an id names behind a new record
new_at : (t : Roster) (a : Ask) (n : ℕ) → IsRoster t → client_at (with_new t a.owner a.verifier a.uid) n ≡
    (let f = cond (is_id (option_map the_id (unconfirmed_of t a.owner)) n) None (client_at t n) in
    cond (is_some f) f (cond (eqb (next_id t) n) (Some (new_client t a.owner a.verifier a.uid)) None))
new_at t a n is =
    let rest : record_at the_id (filter (λ c. not (is_unconfirmed_of a.owner c)) t.records) n
    ≡ cond (is_id (option_map the_id (unconfirmed_of t a.owner)) n) None (client_at t n) =
    ap (λ xs. record_at the_id xs n) (sym (without_unconfirmed t a.owner is (unconfirmed_of t a.owner) refl))
    ∙ without_is t (option_map the_id (unconfirmed_of t a.owner)) n in
    at_push the_id n (filter (λ c. not (is_unconfirmed_of a.owner c)) t.records) (new_client t a.owner a.verifier a.uid)
    ∙ ap (λ (f : Option ClientRecord). cond (is_some f) f (cond (eqb (next_id t) n) (Some (new_client t a.owner a.verifier a.uid)) None)) rest

new_leased : (b : Book) (id now n : ℕ) (new : ClientRecord) (old : Option ClientRecord) (gone : Bool) →
    is_some (b n) ≡ is_some old → (n ≡ id → (old ≡ None) × (gone ≡ false)) →
    is_some (cond gone None (with_lease b id now n))
    ≡ is_some (cond (is_some (cond gone None old)) (cond gone None old) (cond (eqb id n) (Some new) None))
new_leased b id now n new old gone same fresh = elim (cases_eq n id) [
  | inl here ↦ (let none = fresh here in rw (none.0, none.1, eq-eqb n id here, eq-eqb id n (sym here)) refl)
  | inr other ↦ rw (ne_eqb n id other, ne_eqb id n (λ e. other (sym e))) (some_gone gone (b n) old same ∙ sym (only_some (cond gone None old)))
]

new_mark : (id n : ℕ) (new : ClientRecord) (old : Option ClientRecord) (gone : Bool) → gone ≡ false → mark_of old ≡ true
    → mark_of (cond (is_some (cond gone None old)) (cond gone None old) (cond (eqb id n) (Some new) None)) ≡ true
new_mark id n new None gone stays mark = absurd (false≢true mark)
new_mark id n new (Some c) gone stays mark = rw stays mark

pub of_new : (m : Machine) (a : Ask) (now : ℕ) → IsMachine m → has_room m.clients a.owner ≡ true →
    IsMachine (record m {
      clients = with_new m.clients a.owner a.verifier a.uid;
      leases = without_any_lease (with_lease m.leases (next_id m.clients) now) (option_map the_id (unconfirmed_of m.clients a.owner));
    })
of_new m a now is room =
    let t = m.clients in
    let o = unconfirmed_of t a.owner in
    record {
      clients = roster_new t a is.clients room;
      leased = λ n. ap is_some (lease_is (with_lease m.leases (next_id t) now) (option_map the_id o) n)
          ∙ new_leased m.leases (next_id t) now n (new_client t a.owner a.verifier a.uid) (client_at t n) (is_id (option_map the_id o) n) (is.leased n)
          (λ here. (let none : client_at t n ≡ None = ap (client_at t) here ∙ fresh t is.clients in (none, keeps_next t a.owner o n is.clients refl none)))
          ∙ ap is_some (sym (new_at t a n is.clients));
      confirmed = λ s there. (let mark = is.confirmed s there in
          ap mark_of (new_at t a s.client is.clients) ∙ new_mark (next_id t) s.client (new_client t a.owner a.verifier a.uid) (client_at t s.client)
          (is_id (option_map the_id o) s.client) (keeps_confirmed t a.owner o s.client is.clients refl mark) mark);
      opened = λ n holds. (let mark = is.opened n holds in
          ap mark_of (new_at t a n is.clients)
          ∙ new_mark (next_id t) n (new_client t a.owner a.verifier a.uid) (client_at t n) (is_id (option_map the_id o) n)
          (keeps_confirmed t a.owner o n is.clients refl mark) mark);
      table = is.table;
    }

pub of_exchanged : (m : Machine) (a : Ask) (now : ℕ) (case : Case) → IsMachine m → case_of m.clients a ≡ case
    → IsMachine (record m { clients = (does m.clients a case).after; leases = leases_behind m.leases now (does m.clients a case).answer })
of_exchanged m a now (Refuses fault) is at = is
of_exchanged m a now (Stays c) is at = is
of_exchanged m a now Adds is at = of_new m a now is (room_of (has_room m.clients a.owner) (case_by a (confirmed_of m.clients a.owner)) at)

-- CREATE_SESSION.

in_without : (t : SessionTable) (o : Option ℕ) (s : Session) → In s (without_any_sessions t o).sessions → In s t.sessions × (is_id o s.client ≡ false)
unfolding is_id
in_without t None s there = (there, refl)
in_without t (Some gone) s there =
    (let kept = in_filter (λ (s : Session). not (eqb s.client gone)) t.sessions s there in (kept.0, not_true (eqb s.client gone) kept.1))

-- an open that is left is of somebody else
left_open : (s : State) (o : Option ℕ) (n : ℕ) → has_open (without_any_opens s o) n ≡ (not (is_id o n) && has_open s n)
unfolding is_id
left_open s None n = refl
left_open s (Some gone) n = open_staying (λ c. not (eqb c gone)) s n

confirmed_at : (t : Roster) (client n : ℕ) → client_at (with_confirmed t client) n ≡
    (let f = cond (is_id (leaving t client) n) None (client_at t n) in cond (eqb n client) (option_map confirms f) f)
confirmed_at t client n =
    at_with the_id confirms (λ c. refl) n client (without_any t (leaving t client)).records
    ∙ ap (λ (f : Option ClientRecord). cond (eqb n client) (option_map confirms f) f) (without_is t (leaving t client) n)

confirmed_some : (here : Bool) (f : Option ClientRecord) → is_some (cond here (option_map confirms f) f) ≡ is_some f
confirmed_some true f = map_is confirms f
confirmed_some false f = refl

marked_here : (f : Option ClientRecord) → is_some f ≡ true → mark_of (option_map confirms f) ≡ true
marked_here None e = absurd (false≢true e)
marked_here (Some c) e = refl

some_of_mark : (f : Option ClientRecord) → mark_of f ≡ true → is_some f ≡ true
some_of_mark None e = e
some_of_mark (Some c) e = refl

marked : (here : Bool) (f : Option ClientRecord) → is_some f ≡ true → (here ≡ false → mark_of f ≡ true) → mark_of (cond here (option_map confirms f) f) ≡ true
marked true f there other = marked_here f there
marked false f there other = other refl

table_without : (s : State) (o : Option ℕ) → IsTable s.opens → IsTable (without_any_opens s o).opens
table_without s None is = is
table_without s (Some gone) is = table_staying_is (λ c. not (eqb c gone)) s.opens is

pub of_confirmed : (m : Machine) (now client : ℕ) (body : List ℕ) (t : SessionTable) → IsMachine m →
    is_client m.clients client ≡ true → ((s : Session) → In s t.sessions → (s.client ≡ client) ⊎ In s m.sessions.sessions) →
    IsMachine (confirmed (record m { sessions = t }) now client body)
of_confirmed m now client body t is known sessions =
    let r = m.clients in
    let gone = leaving r client in
    record {
      clients = roster_changed (keeps (Done body)) (with_confirmed r client) client (mild_keeps (Done body)) (roster_confirmed r client is.clients);
      leased = λ n. renewed_some (without_any_lease m.leases gone) client now n ∙ ap is_some (lease_is m.leases gone n)
          ∙ some_gone (is_id gone n) (m.leases n) (client_at r n) (is.leased n)
          ∙ sym (confirmed_some (eqb n client) (cond (is_id gone n) None (client_at r n)))
          ∙ ap is_some (sym (confirmed_at r client n)) ∙ sym (kept_is (with_confirmed r client) client n (Done body));
      confirmed = λ s there. (let left = in_without t gone s there in
          let stays : cond (is_id gone s.client) None (client_at r s.client) ≡ client_at r s.client = ap (λ b. cond b None (client_at r s.client)) left.1 in
          kept_mark (with_confirmed r client) client s.client (Done body) ∙ ap mark_of (confirmed_at r client s.client)
          ∙ ap (λ (f : Option ClientRecord). mark_of (cond (eqb s.client client) (option_map confirms f) f)) stays
          ∙ elim (sessions s left.0) [
            | inl new ↦ marked (eqb s.client client) (client_at r s.client) (ap (is_client r) new ∙ known)
                (λ other. absurd (false≢true (sym other ∙ eq-eqb s.client client new)))
            | inr old ↦ marked (eqb s.client client) (client_at r s.client)
                (some_of_mark (client_at r s.client) (is.confirmed s old)) (λ other. is.confirmed s old)
          ]);
      opened = λ n holds. (let left = and_parts (not (is_id gone n)) (has_open m.store n) (sym (left_open m.store gone n) ∙ holds) in
          let old = is.opened n left.1 in
          let stays : cond (is_id gone n) None (client_at r n) ≡ client_at r n = ap (λ b. cond b None (client_at r n)) (not_true (is_id gone n) left.0) in
          kept_mark (with_confirmed r client) client n (Done body) ∙ ap mark_of (confirmed_at r client n)
          ∙ ap (λ (f : Option ClientRecord). mark_of (cond (eqb n client) (option_map confirms f) f)) stays
          ∙ marked (eqb n client) (client_at r n) (some_of_mark (client_at r n) old) (λ other. old));
      table = table_without m.store gone is.table;
    }

known_runs : (o : Option ClientRecord) (number uid : ℕ) → verdict_by o number uid ≡ clients.Runs → is_some o ≡ true
known_runs None number uid e = absurd cc
known_runs (Some c) number uid e = refl

of_made : (m : Machine) (now : ℕ) (c : CreateSession) (wish : Wish) (o : Option SessionFault) → IsMachine m → is_client m.clients c.clientid ≡ true →
    IsMachine (by_created m now c (create_unless m.sessions c.clientid wish o).after (create_unless m.sessions c.clientid wish o).answer).machine
of_made m now c wish None is known = of_confirmed m now c.clientid _ (with_session m.sessions c.clientid wish.fore) is known
    (λ s there. elim (in_push m.sessions.sessions _ s there) [ inl new ↦ inl (ap (λ (s : Session). s.client) new) | inr old ↦ inr old ])
of_made m now c wish (Some fault) is known = of_kept_result m c.clientid (Refused (session_fault_status fault)) is

-- The operations that stand alone.

nothing_left : (a b held : Bool) → cond a (Some StaleClientId) (cond (b || held) (Some ClientIdBusy) None) ≡ None → (b ≡ false) × (held ≡ false)
nothing_left true b held e = absurd cc
nothing_left false true held e = absurd cc
nothing_left false false true e = absurd cc
nothing_left false false false e = (refl, refl)

first : (m : Machine) (declared : ℕ) (who : Caller) (now : ℕ) (refused : Bool) (i : Item)
    → IsMachine m → IsMachine (first_item m declared who now refused i).machine
first m declared who now refused i is = by_alone (λ o. IsMachine o.machine) m declared who now refused i (λ status result. is)
    (λ e at. of_exchanged m (ask_of m who e) now (case_of m.clients (ask_of m who e)) is refl)
    (λ c at runs. of_made m now c (wish_of m c) (create_fault m.sessions (wish_of m c)) is (known_runs (client_at m.clients c.clientid) c.sequence who.uid runs))
    (λ sessionid at stood. of_fewer_sessions m (sessions.destroyed m.sessions (id_of sessionid)) is
    (λ s there. (in_filter (λ s. not (is_session (id_of sessionid) s)) m.sessions.sessions s there).0))
    (λ client at none. (let left = nothing_left (not (is_client m.clients client)) (has_session m.sessions client) (has_open m.store client) none in
    of_destroyed_client m client is left.0 left.1))

-- One operation behind a SEQUENCE, of a client that is confirmed; and whoever runs the next one is.

pub record Stands (s : Step) : Type 0 where
  pub machine : IsMachine s.outcome.machine
  pub client : is_confirmed s.outcome.machine.clients s.context.client ≡ true

-- a client's mark of its reclaim
of_reclaimed : (m : Machine) (x : Context) → IsMachine m → is_confirmed m.clients x.client ≡ true → Stands (record { outcome = of_all m x; context = x })
of_reclaimed m x is known = elim (cases_Bool (has_reclaimed m.clients x.client)) [
  | inl again ↦ rw again (record { machine = is; client = known })
  | inr once ↦ rw once (record {
    machine = record {
      clients = roster_changed reclaims m.clients x.client mild_reclaims is.clients;
      leased = λ c. is.leased c ∙ sym (reclaims_is c);
      confirmed = λ s there. reclaims_mark s.client ∙ is.confirmed s there;
      opened = λ c holds. reclaims_mark c ∙ is.opened c holds;
      table = is.table;
    };
    client = reclaims_mark x.client ∙ known;
  })
]
  where
    reclaims : ClientRecord → ClientRecord
    reclaims c = record c { reclaimed = true }

    reclaims_is : (c : ℕ) → is_client (with_reclaimed m.clients x.client) c ≡ is_client m.clients c
    reclaims_is c =
        ap is_some (at_with the_id reclaims mild_reclaims.id c x.client m.clients.records)
        ∙ elim (eqb c x.client) as (λ v. is_some (cond v (option_map reclaims (client_at m.clients c)) (client_at m.clients c)) ≡ is_client m.clients c)
        [ true ↦ map_is reclaims (client_at m.clients c) | false ↦ refl ]

    reclaims_mark : (c : ℕ) → is_confirmed (with_reclaimed m.clients x.client) c ≡ is_confirmed m.clients c
    reclaims_mark c =
        ap mark_of (at_with the_id reclaims mild_reclaims.id c x.client m.clients.records)
        ∙ elim (eqb c x.client) as (λ v. mark_of (cond v (option_map reclaims (client_at m.clients c)) (client_at m.clients c)) ≡ is_confirmed m.clients c) [
          | true ↦ map_mark reclaims (client_at m.clients c) mild_reclaims.mark
          | false ↦ refl
        ]

-- an operation behind which all clients have opens as before
of_store : (m : Machine) (s : State) → IsMachine m → s.opens ≡ m.store.opens → IsMachine (record m { store = s })
of_store m s is same = record {
  clients = is.clients;
  leased = is.leased;
  confirmed = is.confirmed;
  opened = λ c holds. is.opened c (ap (λ (t : Table). list_any (λ o. eqb o.client c) t.opens) (sym same) ∙ holds);
  table = subst IsTable (sym same) is.table;
}

-- an operation behind which all others have, of a client that is confirmed
of_own : (m : Machine) (client : ℕ) (s : State) → IsMachine m → is_confirmed m.clients client ≡ true → Spares (OthersThan client) m.store.opens s.opens
    → IsMachine (record m { store = s })
of_own m client s is known spares = record {
  clients = is.clients;
  leased = is.leased;
  confirmed = is.confirmed;
  opened = λ c holds. opened_at c holds (cases_eq c client);
  table = spares.table;
}
  where
    opened_at : (c : ℕ) → has_open s c ≡ true → (c ≡ client) ⊎ (c ≢ client) → is_confirmed m.clients c ≡ true
    opened_at c holds (inl here) = ap (is_confirmed m.clients) here ∙ known
    opened_at c holds (inr other) = is.opened c (sym (spares.same c other) ∙ holds)

of_step : (m : Machine) (x : Context) (now : ℕ) (refused : Bool) (i : Item) → IsMachine m → is_confirmed m.clients x.client ≡ true →
    Stands (step m x now refused i)
of_step m x now refused i is known =
    by_step Stands m x now refused i (λ o e. by_names o (leaves_each refused m.store x (time_at m.store now) i o e))
    (for_each (λ o. Stands (on_store m o)) refused m.store x (time_at m.store now) i
    (let o = files.comes_to refused m.store x (time_at m.store now) i in
    let own = spares_others refused m.store x (time_at m.store now) i is.table in
    record { machine = of_own m x.client o.state is known own.opens; client = ap (is_confirmed m.clients) own.client ∙ known }))
    (λ none other. by_item i)
  where
    by_names : (o : OfStore) → Leaves m.store x o.state o.context → Stands (on_store m o)
    by_names o left = record {
      machine = of_store m o.state is left.opens;
      client = ap (is_confirmed m.clients) left.client ∙ known;
    }

    one : (found : Result Node Status) → Stands (record { outcome = of_one m found; context = x })
    one (Ok d) = record { machine = is; client = known }
    one (Err status) = record { machine = is; client = known }

    reclaim : (one_fs : Bool) → Stands (record { outcome = reclaim_complete m x one_fs; context = x })
    reclaim true = one (current m.store x)
    reclaim false = of_reclaimed m x is known

    by_item : (i : Item) → Stands (otherwise m x i)
    by_item (Operation (Op.ReclaimComplete one_fs)) = reclaim one_fs
    by_item i = record { machine = is; client = known }

pub of_room : (limit sofar now : ℕ) (refused : Bool) (m : Machine) (x : Context) (i : Item) → IsMachine m → is_confirmed m.clients x.client ≡ true →
    Stands (in_room limit sofar now refused m x i)
of_room limit sofar now refused m x i is known = elim (cases_Bool (ltb limit (sofar + largest i + reserve))) [
  | inl big ↦ rw big (record { machine = is; client = known })
  | inr fits ↦ rw fits (of_step m x now refused i is known)
]

of_run : (limit sofar now : ℕ) (choice : Option ℕ) (m : Machine) (x : Context) (items : List Item) → IsMachine m → is_confirmed m.clients x.client ≡ true →
    IsMachine (run limit sofar now choice m x items).machine
of_run limit sofar now choice m x [] is known = is
of_run limit sofar now choice m x (i ∷ more) is known =
    let s = in_room limit sofar now (is_here choice) m x i in
    let one : Stands s = of_room limit sofar now (is_here choice) m x i is known in
    follow_kept IsMachine s.outcome (run limit (sofar + length s.outcome.result) now (behind_here choice) s.outcome.machine s.context more) one.machine
    (of_run limit (sofar + length s.outcome.result) now (behind_here choice) s.outcome.machine s.context more one.machine one.client)

-- the session in which a request runs stands, so its client is confirmed
pub runs_for : (m : Machine) (r : Request) (who : Caller) (size : ℕ) (s : Sequence) (c : ChannelAttrs) → IsMachine m → sequenced m r who size s ≡ sequence.Runs c →
    is_confirmed m.clients (id_of s.sessionid).client ≡ true
runs_for m r who size s c is runs =
    let fresh = runs_means r who size s (session_at m.sessions (id_of s.sessionid)) c runs in
    let found = find_in (is_session (id_of s.sessionid)) m.sessions.sessions fresh.session fresh.found in
    let tests = and_parts _ _ found.1 in
    ap (is_confirmed m.clients) (sym (eqb-true _ _ tests.1)) ∙ is.confirmed fresh.session found.0

-- The whole compound.

pub of_compound : (m : Machine) (r : Request) (who : Caller) (size now : ℕ) (choice : Option ℕ)
    → IsMachine m → IsMachine (compound m r who size now choice).machine
of_compound m r who size now choice is = by_compound (λ left ds run. IsMachine left) m r who size now choice is
    (λ item. first m r.declared who now (is_here choice) item is) (λ s more c comes.
    of_kept (run_in (renewed m now s) r who now (behind_here choice) s c more).machine (id_of s.sessionid) _
    (of_run c.maxresponsesize (begun r s c) now (behind_here choice) (renewed m now s) (begins (id_of s.sessionid).client who) more
    (of_renewed m (id_of s.sessionid).client now is) (runs_for m r who size s c is comes)))
