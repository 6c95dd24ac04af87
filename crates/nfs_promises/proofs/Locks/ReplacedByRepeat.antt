-- Where a lock is still held, or an open stands, behind a CREATE_SESSION that gives another id for its client's owner, that was a repeat, and changed nothing.
use Rattle.std.proofs.Common.{inl, inr, ◌⊎◌, ◌<◌, ◌^◌, length, ◌≡◌, ℕ, Bool, true, false, cond, eqb, not, List, [], ◌∷◌, Option, Some, None, Result, Ok, Err, refl, sym, ◌∙◌, ap, subst}
use Rattle.std.proofs.{lemmas.Bool.{cases_Bool, and_parts, eq-eqb, eqb-true, eqb-false, ne_eqb, false≢true}, lemmas.Slice.Eq.bytes_eq-Decides}
use Rattle.std.specs.{Prelude.{◌==◌, ◌&&◌, find, option_map, bytes_eq}, Option.option_map_or}
use Rattle.nfs_xdr.specs.{Caller.Caller, Tables.In, declared.status.Status.Status, declared.status.Status.TheVariants.{Delay, MinorVersMismatch}}
use Rattle.nfs_xdr.proofs.{Lists.{in_filter, in_any, any_in, find_in, none_in}, Tables.in_once}
use Rattle.nfs_compound.specs.{Request.{Request, item_number}, declared.{op.Item.{Item, TheVariants.Operation}, session_args.CreateSession.CreateSession}}
use Rattle.nfs_compound.specs.declared.op.Op.TheVariants as Op
use Rattle.nfs_sessions.specs.{declared.id.SessionId.SessionId, declared.sessions.SessionFault.SessionFault, Sessions.{SessionTable, create}}
use Rattle.nfs_sessions.specs.declared.sessions.SessionFault.TheVariants as F
use Rattle.nfs_clients.specs.{Roster.{ClientRecord, client_at, first_id, next_id}, CreateSession.{is_other_confirmed_of, leaving, create_verdict}}
use Rattle.nfs_clients.specs.CreateSession as clients
use Rattle.nfs_clients.specs.declared.created.CreateResult.TheVariants as results
use Rattle.nfs_opens.specs.{declared.records.LockState.LockState, declared.records.OpenState.OpenState, Table.Table, TableInvariants.IsTable}
use Rattle.nfs_names.specs.{declared.start.Start.Start, Ending.{has_open, table_staying}, Outcome.is_ok}
use Rattle.nfs_names.specs.State as of_store
use Rattle.nfs_files.specs.LockTold.{LockTold}
use Rattle.nfs_exec.specs.{Runs.LockHeld.{is_of_owner, takes_place, replaces_in, replaces}, Step.Compound.{carried_out, first_item, bare, by_first, compound}}
use Rattle.nfs_exec.specs.Step.{Laws.Asks, Machine.{Machine, IsMachine, MachineOutcome, with_refusal}, Place.place_fault, Run.is_here}
use Rattle.nfs_exec.specs.Step.Parts.{without_any_opens, wish_of, by_created, creates, by_number}
use Rattle.nfs_exec.proofs.Step.{InSteps.create_session_is, Terms.by_fault, Invariant.{not_true, of_start}}
use Rattle.nfs_serve.specs.Step.{ServerState, new_state}
use Rattle.nfs_promises.specs.{Network.Endpoint.Arrival, Locks.LockKept.replaces_by, Runs.Points.{reached, state_after, taken, before, asked_by}}
use Rattle.nfs_promises.proofs.Locks.{LockBeforeStep.Holds, LockTraced.held_staying, NoneOutlives.{machine_before, machine_all}}
use Rattle.nfs_promises.proofs.Runs.Points.{left, for_asked, next_is}
use Rattle.nfs_clients.proofs.Members.{leaving_by}
use Rattle.std.proofs.lemmas.Bool.{and_right}

-- What a client has in the table of opens shows that it has an open; it was there before clients ended, and goes with its own client.
pub record IsHad (client : ℕ) (P : Table → Type 0) : Type 0 where
  pub opened : (s : of_store.State) → IsTable s.opens → P s.opens → has_open s client ≡ true
  pub staying : (t : Table) (stays : ℕ → Bool) → P (table_staying stays t) → P t
  pub gone : (t : Table) → P (table_staying (λ c. not (c == client)) t) → ⊥

module _ (client : ℕ) (P : Table → Type 0) (had : IsHad client P) (m : Machine) (is : IsMachine m) where
  record ItsRecord : Type 0 where
    pub row : ClientRecord
    pub there : In row m.clients.records
    pub id : row.id ≡ client
    pub confirmed : row.confirmed ≡ true

  its_record : P m.store.opens → ItsRecord
  its_record holds =
      go (client_at m.clients client) refl (is.opened client (had.opened m.store is.table holds))
    where
      go : (o : Option ClientRecord) → client_at m.clients client ≡ o → option_map_or (λ (c : ClientRecord). c.confirmed) o false ≡ true → ItsRecord
      go None found e = absurd (false≢true e)
      go (Some c) found e = (let there = find_in (λ (c : ClientRecord). c.id == client) m.clients.records c found in
          record { row = c; there = there.0; id = eqb-true c.id client there.1; confirmed = e })

  -- the record of its client is the one that goes
  is_leaving : (c : CreateSession) → takes_place client m.clients (Operation (Op.CreateSession c)) ≡ true → P m.store.opens
      → leaving m.clients c.clientid ≡ Some client
  is_leaving c takes holds =
      let parts = and_parts _ _ takes in
      go (client_at m.clients c.clientid) refl (eqb-false c.clientid client (not_true (c.clientid == client) parts.0)) parts.1
    where
      its : ItsRecord
      its = its_record holds

      by_found : (d : ClientRecord) → bytes_eq its.row.owner d.owner ≡ true → is_other_confirmed_of d its.row ≡ true → (o : Option ClientRecord)
          → find (is_other_confirmed_of d) m.clients.records ≡ o → option_map (λ (c : ClientRecord). c.id) o ≡ Some client
      by_found d same other None found = absurd (false≢true (sym (none_in (is_other_confirmed_of d) m.clients.records its.row found its.there) ∙ other))
      by_found d same other (Some e) found =
          (let there = find_in (is_other_confirmed_of d) m.clients.records e found in
          let tests = and_parts _ _ (and_parts _ _ there.1).0 in
          let owner : e.owner ≡ its.row.owner = (bytes_eq-Decides e.owner d.owner).0 tests.0 ∙ sym ((bytes_eq-Decides its.row.owner d.owner).0 same) in
          let same : e ≡ its.row = is.clients.alone e its.row there.0 its.there owner (tests.1 ∙ sym its.confirmed) in
          ap Some (ap (λ (c : ClientRecord). c.id) same ∙ its.id))

      go : (o : Option ClientRecord) → client_at m.clients c.clientid ≡ o → (c.clientid ≡ client → ⊥)
          → option_map_or (λ (d : ClientRecord). is_of_owner m.clients client d.owner) o false ≡ true → leaving_by m.clients o ≡ Some client
      go None found other owned = absurd (false≢true owned)
      go (Some d) found other owned =
          (let (q, there, passes) = in_any (λ (c : ClientRecord). (c.id == client) && bytes_eq c.owner d.owner) m.clients.records owned in
          let tests = and_parts _ _ passes in
          let same : q ≡ its.row = in_once (λ (c : ClientRecord). c.id) (first_id m.clients) (next_id m.clients) m.clients.records q its.row is.clients.rising
          there its.there (eqb-true q.id client tests.0 ∙ sym its.id) in
          let owner : bytes_eq its.row.owner d.owner ≡ true = subst (λ (c : ClientRecord). bytes_eq c.owner d.owner ≡ true) same tests.1 in
          let number : d.id ≡ c.clientid = eqb-true d.id c.clientid (find_in (λ (e : ClientRecord). e.id == c.clientid) m.clients.records d found).1 in
          let apart : eqb its.row.id d.id ≡ false = ne_eqb its.row.id d.id (λ e. other (sym number ∙ (sym e ∙ its.id))) in
          by_found d owner (rw (owner, its.confirmed, apart) refl) (find (is_other_confirmed_of d) m.clients.records) refl)

  -- and with it what it held
  none_left : (c : CreateSession) → takes_place client m.clients (Operation (Op.CreateSession c)) ≡ true
      → P (without_any_opens m.store (leaving m.clients c.clientid)).opens → ⊥
  none_left c takes = go (leaving m.clients c.clientid) refl
    where
      go : (o : Option ℕ) → leaving m.clients c.clientid ≡ o → P (without_any_opens m.store o).opens → ⊥
      go None found holds = (let bad : None ≡ Some client = sym found ∙ is_leaving c takes holds in absurd cc)
      go (Some other) found holds =
          (let bad : Some other ≡ Some client = sym found ∙ is_leaving c takes (had.staying m.store.opens (λ d. not (d == other)) holds) in
          let same : other ≡ client = cc in
          had.gone m.store.opens (subst (λ c. P (table_staying (λ d. not (d == c)) m.store.opens)) same holds))

  by_made : (now : ℕ) (c : CreateSession) (t : SessionTable) (v : Result SessionId SessionFault) → takes_place client m.clients (Operation (Op.CreateSession c)) ≡ true
      → is_ok (by_created m now c t v).status ≡ true → P (by_created m now c t v).machine.store.opens → (by_created m now c t v).machine ≡ m
  by_made now c t (Ok id) takes ok holds = absurd (none_left c takes holds)
  by_made now c t (Err F.TooSmall) takes ok holds = absurd (false≢true ok)
  by_made now c t (Err fault) takes ok holds = absurd (false≢true ok)

  by_new : (now : ℕ) (refused : Bool) (c : CreateSession) → takes_place client m.clients (Operation (Op.CreateSession c)) ≡ true
      → is_ok (by_number m now refused c clients.Runs).status ≡ true → P (by_number m now refused c clients.Runs).machine.store.opens
      → (by_number m now refused c clients.Runs).machine ≡ m
  by_new now refused c takes =
      let did = create m.sessions c.clientid (wish_of m c) in
      let o = creates m now c did in
      elim (refused && is_ok o.status) as (λ b. is_ok (cond b (with_refusal m 43 Delay) o).status ≡ true
      → P (cond b (with_refusal m 43 Delay) o).machine.store.opens → (cond b (with_refusal m 43 Delay) o).machine ≡ m) [
        | true ↦ λ ok holds. refl
        | false ↦ by_made now c did.after did.answer takes
      ]

  by_answer : (now : ℕ) (refused : Bool) (c : CreateSession) (v : clients.Verdict) → takes_place client m.clients (Operation (Op.CreateSession c)) ≡ true
      → is_ok (by_number m now refused c v).status ≡ true → P (by_number m now refused c v).machine.store.opens → (by_number m now refused c v).machine ≡ m
  by_answer now refused c (clients.Again (results.Done body)) takes ok holds = refl
  by_answer now refused c (clients.Again (results.Refused status)) takes ok holds = refl
  by_answer now refused c clients.Runs takes ok holds = by_new now refused c takes ok holds
  by_answer now refused c v takes ok holds = refl

  first_same : (declared : ℕ) (who : Caller) (now : ℕ) (refused : Bool) (i : Item) → takes_place client m.clients i ≡ true
      → is_ok (first_item m declared who now refused i).status ≡ true → P (first_item m declared who now refused i).machine.store.opens
      → (first_item m declared who now refused i).machine ≡ m
  first_same declared who now refused (Operation (Op.CreateSession c)) takes = go (place_fault declared (Operation (Op.CreateSession c)))
    where
      go : (f : Option Status) → (let o = by_fault m (item_number (Operation (Op.CreateSession c))) f (carried_out m who now refused (Operation (Op.CreateSession c))) in
          is_ok o.status ≡ true → P o.machine.store.opens → o.machine ≡ m)
      go None = subst (λ (o : MachineOutcome). is_ok o.status ≡ true → P o.machine.store.opens → o.machine ≡ m) (sym (create_session_is m who now refused c))
          (by_answer now refused c (create_verdict m.clients c.clientid c.sequence who.uid) takes)
      go (Some status) = λ ok holds. refl
  first_same declared who now refused i takes = absurd (false≢true takes)

  pub replaced_none : (r : Request) (who : Caller) (size now : ℕ) (choice : Option ℕ) → replaces client m (Asks r who size now choice) ≡ true
      → P (compound m r who size now choice).machine.store.opens → (compound m r who size now choice).machine ≡ m
  replaced_none r who size now choice = go (eqb r.minor 1)
    where
      by_items : (items : List Item) → replaces_in client m r who now choice items ≡ true → P (by_first m r who size now choice items).machine.store.opens
          → (by_first m r who size now choice items).machine ≡ m
      by_items [] e holds = absurd (false≢true e)
      by_items (Operation (Op.Sequence s) ∷ more) e holds = absurd (false≢true (sym (and_right (is_ok (first_item m r.declared who now (is_here choice) (Operation (Op.Sequence s))).status) false refl) ∙ e))
      by_items (item ∷ more) e holds = (let parts = and_parts (is_ok (first_item m r.declared who now (is_here choice) item).status) (takes_place client m.clients item) e in
          first_same r.declared who now (is_here choice) item parts.1 parts.0 holds)

      go : (b : Bool) → b && replaces_in client m r who now choice r.left ≡ true
          → P (cond b (by_first m r who size now choice r.left) (bare r MinorVersMismatch m)).machine.store.opens
          → (cond b (by_first m r who size now choice r.left) (bare r MinorVersMismatch m)).machine ≡ m
      go true e holds = by_items r.left e holds
      go false e holds = refl

-- A lock.

lock_open : (k : LockTold) (owner : List ℕ) (s : of_store.State) → IsTable s.opens → Holds k owner s.opens → has_open s k.client ≡ true
lock_open k owner s table holds =
    let (o, under) = table.under holds.lock holds.there in
    any_in (λ (o : OpenState). o.client == k.client) s.opens.opens o under.stands (eq-eqb o.client k.client (under.client ∙ holds.client))

lock_gone : (k : LockTold) (owner : List ℕ) (t : Table) → Holds k owner (table_staying (λ c. not (c == k.client)) t) → ⊥
lock_gone k owner t holds =
    let passes = (in_filter (λ (l : LockState). not (l.client == k.client)) t.locks holds.lock holds.there).1 in
    false≢true (sym (ap not (eq-eqb holds.lock.client k.client holds.client)) ∙ passes)

pub lock_had : (k : LockTold) (owner : List ℕ) → k.last ≡ k.first → IsHad k.client (Holds k owner)
lock_had k owner one = record { opened = lock_open k owner; staying = held_staying k owner; gone = lock_gone k owner }

-- In a run nobody takes the place of a client that has something in the table behind a record, or the record changes nothing.
pub is_alone_by : (client : ℕ) (P : Table → Type 0) → IsHad client P → (start : Start) → start.instance < 2 ^ 32 → (records : List Arrival) (c : Arrival)
    → (let s = reached start records in
    P (left (before s c) (asked_by s c)).store.opens → (replaces_by client s c ≡ false) ⊎ ((state_after s c).machine ≡ before s c))
is_alone_by client P had start small records c holds =
    let s = reached start records in
    let m = before s c in
    let is : IsMachine m = machine_before s c (machine_all (new_state start) records (of_start start small)) in
    elim (cases_Bool (replaces_by client s c)) [
      | inr leaves ↦ inl leaves
      | inl takes ↦ inr (ap (λ (s : ServerState). s.machine) (next_is s c)
          ∙ for_asked (λ o. option_map_or (replaces client m) o false ≡ true → P (left m o).store.opens → left m o ≡ m) s c (λ e holds. refl)
          (λ r who. replaced_none client P had m is r who (length c.bytes) (taken s c) c.choice) takes holds)
    ]
