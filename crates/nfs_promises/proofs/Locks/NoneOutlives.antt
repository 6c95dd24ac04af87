-- A byte is held only where its client renewed at most a lease before.
use Rattle.std.proofs.Common.{◌≡◌, ℕ, ◌+◌, ◌-◌, ◌<◌, ◌≤◌, Bool, true, false, cond, List, [], ◌∷◌, length, Option, Some, None, refl, sym, ◌∙◌, ap, subst, arith, inl, inr}
use Rattle.std.proofs.lemmas.Bool.{cases_Bool, eq-eqb, ltb-false, false≢true}
use Rattle.std.specs.{Prelude.{◌==◌, ◌^◌, is_some}, Option.option_map_or}
use Rattle.nfs_xdr.specs.Caller.{Caller}
use Rattle.nfs_xdr.proofs.Lists.{any_in}
use Rattle.nfs_compound.specs.Request.{Request}
use Rattle.nfs_lease.specs.{Renewals.{Book, is_out, has_run_out}, Queue.IsLatest}
use Rattle.nfs_clients.specs.Roster.{Roster, ClientRecord, client_at}
use Rattle.nfs_opens.specs.declared.records.OpenState.{OpenState}
use Rattle.nfs_names.specs.{declared.start.Start.Start, Ending.has_open}
use Rattle.nfs_exec.specs.{Step.Machine.{IsMachine, is_confirmed}, Step.Laws.Asks}
use Rattle.nfs_promises.specs.{Runs.{Renewing.renews_or_begins, Points.{state_after, state_after_all, reached, taken, before}}, Network.Endpoint.Arrival}
use Rattle.nfs_promises.specs.Locks.NoneOutlives.{renewed_by, last_renewal, NoneOutlives}
use Rattle.nfs_exec.proofs.Step.{Invariant.{of_start, of_expired, of_compound}, LeaseMoments.{expired_all, latest_compound}, Terms.{is_client, leases_kept}}
use Rattle.nfs_promises.proofs.Runs.{Outlasting.{IsStill, compound_still}, StayingInTime.lease_all}
use Rattle.nfs_promises.proofs.Runs.Points.{left, for_asked, next_is, IsSound, whole_before, latest_before, sound_next, sound_all, sound_new}
use Rattle.nfs_serve.specs.{Step.{ServerState, new_state}}

-- What holds of every machine.

pub machine_before : (s : ServerState) (c : Arrival) → IsMachine s.machine → IsMachine (before s c)
machine_before s c is = of_expired s.machine (taken s c) is

pub machine_next : (s : ServerState) (c : Arrival) → IsMachine s.machine → IsMachine (state_after s c).machine
machine_next s c is =
    let m = machine_before s c is in
    subst (λ (s : ServerState). IsMachine s.machine) (sym (next_is s c))
    (for_asked (λ o. IsMachine (left (before s c) o)) s c m (λ r who. of_compound (before s c) r who (length c.bytes) (taken s c) c.choice m))

pub machine_all : (s : ServerState) (records : List Arrival) → IsMachine s.machine → IsMachine (state_after_all s records).machine
machine_all s [] is = is
machine_all s (c ∷ more) is = machine_all (state_after s c) more (machine_next s c is)

-- A lease that stands was renewed no later than by the last record that renewed it.

abbrev IsUpTo : ℕ → Option ℕ → Book → Type 0
IsUpTo client last b = (r : ℕ) → b client ≡ Some r → (q : ℕ) × (last ≡ Some q) × (r ≤ q)

up_expired : (lease client now : ℕ) (last : Option ℕ) (b : Book) → IsUpTo client last b → IsUpTo client last (leases_kept lease b now)
up_expired lease client now last b up r e = elim (cases_Bool (has_run_out lease b now client)) [
  | inl out ↦ absurd (let bad : None ≡ Some r = rw out at e in cc)
  | inr stays ↦ up r (rw stays at e)
]

up_still : (client : ℕ) (last : Option ℕ) (b left : Book) → IsStill client b left → IsUpTo client last b → IsUpTo client last left
up_still client last b left (inl none) up r e = absurd (let bad : None ≡ Some r = sym none ∙ e in cc)
up_still client last b left (inr same) up r e = up r (sym same ∙ e)

up_compound : (s : ServerState) (c : Arrival) (client : ℕ) (last : Option ℕ) (r : Request) (who : Caller) → IsSound s → IsUpTo client last (before s c).leases
    → (let e = Asks r who (length c.bytes) (taken s c) c.choice in
    IsUpTo client (cond (renews_or_begins client (before s c) e) (Some (taken s c)) last) (left (before s c) (Some e)).leases)
up_compound s c client last r who sound up = go (renews_or_begins client (before s c) (Asks r who (length c.bytes) (taken s c) c.choice)) refl
  where
    latest : IsLatest (left (before s c) (Some (Asks r who (length c.bytes) (taken s c) c.choice))).leases (taken s c)
    latest = latest_compound (before s c) r who (length c.bytes) (taken s c) c.choice (latest_before s c sound.latest)

    go : (b : Bool) → renews_or_begins client (before s c) (Asks r who (length c.bytes) (taken s c) c.choice) ≡ b
        → IsUpTo client (cond b (Some (taken s c)) last) (left (before s c) (Some (Asks r who (length c.bytes) (taken s c) c.choice))).leases
    go true e = λ q at. (taken s c, refl, latest.each client q at)
    go false e = up_still client last (before s c).leases (left (before s c) (Some (Asks r who (length c.bytes) (taken s c) c.choice))).leases
        (compound_still (before s c) r who (length c.bytes) (taken s c) client c.choice e) up

up_next : (s : ServerState) (c : Arrival) (client : ℕ) (last : Option ℕ) → IsSound s → IsUpTo client last s.machine.leases
    → IsUpTo client (cond (renewed_by client s c) (Some (taken s c)) last) (state_after s c).machine.leases
up_next s c client last sound up =
    let here : IsUpTo client last (before s c).leases = up_expired s.machine.store.lease client (taken s c) last s.machine.leases up in
    subst (λ (s' : ServerState). IsUpTo client (cond (renewed_by client s c) (Some (taken s c)) last) s'.machine.leases) (sym (next_is s c))
    (for_asked (λ o. IsUpTo client (cond (option_map_or (renews_or_begins client (before s c)) o false) (Some (taken s c)) last) (left (before s c) o).leases) s c here
    (λ r who. up_compound s c client last r who sound here))

up_all : (s : ServerState) (records : List Arrival) (client : ℕ) (last : Option ℕ) → IsSound s → IsUpTo client last s.machine.leases
    → IsUpTo client (last_renewal client last s records) (state_after_all s records).machine.leases
up_all s [] client last sound up = up
up_all s (c ∷ more) client last sound up =
    up_all (state_after s c) more client (cond (renewed_by client s c) (Some (taken s c)) last) (sound_next s c sound) (up_next s c client last sound up)

-- Who holds a byte.

pub confirmed_is : (t : Roster) (client : ℕ) → is_confirmed t client ≡ true → is_client t client ≡ true
confirmed_is t client = go (client_at t client)
  where
    go : (o : Option ClientRecord) → option_map_or (λ (c : ClientRecord). c.confirmed) o false ≡ true → is_some o ≡ true
    go None e = absurd (false≢true e)
    go (Some c) e = refl

some_of : (o : Option ℕ) → is_some o ≡ true → (r : ℕ) × (o ≡ Some r)
some_of None e = absurd (false≢true e)
some_of (Some r) e = (r, refl)

not_out : (lease now r : ℕ) → is_out lease now (Some r) ≡ false → now ≤ r + lease
not_out lease now r e = let h = ltb-false lease (now - r) e in omega arith

-- a client that has an open renewed at most a lease ago
pub record IsRenewed (start : Start) (client : ℕ) (records : List Arrival) (c : Arrival) : Type 0 where
  pub last : ℕ
  pub renewed : last_renewal client None (new_state start) records ≡ Some last
  pub within : taken (reached start records) c ≤ last + start.lease

pub renewed_in_time : (start : Start) (client : ℕ) (records : List Arrival) (c : Arrival) → start.instance < 2 ^ 32
    → has_open (before (reached start records) c).store client ≡ true → IsRenewed start client records c
renewed_in_time start client records c small open_there =
    let first = new_state start in
    let s = reached start records in
    let m = before s c in
    let new = sound_new start in
    let is : IsMachine m = machine_before s c (machine_all first records (of_start start small)) in
    let known = confirmed_is m.clients client (is.opened client open_there) in
    let (r, at) = some_of (m.leases client) (is.leased client ∙ known) in
    let up = up_expired s.machine.store.lease client (taken s c) (last_renewal client None first records) s.machine.leases
    (up_all first records client None new (λ r e. absurd (let bad : None ≡ Some r = e in cc))) in
    let (q, last, low) = up r at in
    let stays : is_out m.store.lease (taken s c) (Some r) ≡ false =
    ap (is_out m.store.lease (taken s c)) (sym at) ∙ expired_all s.machine.store.lease s.machine.leases (taken s c) client in
    let lasts : m.store.lease ≡ start.lease = lease_all first records in
    let within = not_out m.store.lease (taken s c) r stays in
    record { last = q; renewed = last; within = omega arith }

pub none_outlives : NoneOutlives
none_outlives start records c file n byte kind small held =
    let s = reached start records in
    let m = before s c in
    let whole = whole_before s c (sound_all (new_state start) records (sound_new start)).whole in
    let (l, holder) = whole.table.holders file n byte (λ none. let bad : Some kind ≡ None = sym held ∙ none in cc) in
    let (o, under) = whole.table.under l holder.stands in
    let time = renewed_in_time start l.client records c small
    (any_in (λ (o : OpenState). o.client == l.client) m.store.opens.opens o under.stands (eq-eqb o.client l.client under.client)) in
    record { lock = l; there = holder.stands; number = holder.number; last = time.last; renewed = time.renewed; within = time.within }
