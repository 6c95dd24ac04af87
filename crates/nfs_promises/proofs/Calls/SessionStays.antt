-- A session stays, through whatever records come in time.
use Rattle.std.proofs.{Common.{◌≡◌, ℕ, ◌+◌, ◌≤◌, true, false, cond, not, List, [], ◌∷◌, length, Option, Some, sym, ◌∙◌, ap, subst}, lemmas.Bool.eqb-true}
use Rattle.std.proofs.lemmas.{Bool.{eq-eqb, and_parts}, Option.same_Some}
use Rattle.std.specs.Option.{option_map_or}
use Rattle.nfs_compound.specs.declared.session_args.Sequence.{Sequence}
use Rattle.nfs_lease.specs.Renewals.{has_run_out}
use Rattle.nfs_sessions.specs.{declared.id.SessionId.SessionId, Id.id_of, Sessions.Session}
use Rattle.nfs_exec.specs.{Step.Laws.{MachineEvent, Asks, ran}, Runs.LockHeld.{replaces, is_of, renews}}
use Rattle.nfs_serve.specs.Step.{ServerState}
use Rattle.nfs_promises.specs.{Runs.{SessionLasts.ends_session, Points.{state_after, reached, taken, before}}, Network.Endpoint.Arrival}
use Rattle.nfs_promises.specs.{Locks.LockKept.{renews_by, replaces_by}, Calls.SessionStays.{HasSession, ends_by, RunsThere, StaysThere, SessionsStay}}
use Rattle.nfs_promises.proofs.Runs.{Renewing.in_time, SessionLasts.{fewer_has, lasts, ran_has}, Points.{left, for_asked, next_is}, StayingInTime.Stays}
use Rattle.nfs_promises.proofs.Runs.StayingInTime.{stays_next, stays_from}
use Rattle.nfs_names.specs.State.{State as Store}

-- of the client's lease alone
abbrev Renewed : (client lease last : ℕ) → ServerState → Type 0
Renewed client lease last s = Stays client lease last (λ (t : Store). Unit {0}) s

has_before : (id : SessionId) (lease last : ℕ) (s : ServerState) (c : Arrival) → Renewed id.client lease last s → taken s c ≤ last + lease → HasSession id s.machine
    → HasSession id (before s c)
has_before id lease last s c lives within is =
    let stays : has_run_out s.machine.store.lease s.machine.leases (taken s c) id.client ≡ false =
    in_time s.machine.store.lease s.machine.leases last (taken s c) id.client lives.least (subst (λ n. taken s c ≤ last + n) (sym lives.lasts) within) in
    fewer_has id s.machine.sessions (λ (x : Session). not (has_run_out s.machine.store.lease s.machine.leases (taken s c) x.client))
    (λ x named. ap (λ (n : ℕ). not (has_run_out s.machine.store.lease s.machine.leases (taken s c) n)) (eqb-true x.client id.client (and_parts _ _ named).1) ∙ ap not stays) is

has_left : (id : SessionId) (s : ServerState) (c : Arrival) → HasSession id (before s c) → ends_by id s c ≡ false → replaces_by id.client s c ≡ false
    → HasSession id (state_after s c).machine
has_left id s c is ends replaced =
    subst (HasSession id) (sym (ap (λ (s : ServerState). s.machine) (next_is s c)))
    (for_asked (λ o. option_map_or (ends_session id (before s c)) o false ≡ false → option_map_or (replaces id.client (before s c)) o false ≡ false
    → HasSession id (left (before s c) o)) s c
    (λ ends replaced. is)
    (λ r who. lasts id (before s c) r who (length c.bytes) (taken s c) c.choice is)
    ends replaced)

pub stays : (id : SessionId) (lease last : ℕ) (s : ServerState) (records : List Arrival) → Renewed id.client lease last s → HasSession id s.machine → StaysThere id lease last s records
stays id lease last s [] lives is = is
stays id lease last s (c ∷ more) lives is = (
  is,
  λ within. (let here = has_before id lease last s c lives within is in (
    here,
    λ other alone.
        stays id lease (cond (renews_by id.client s c) (taken s c) last) (state_after s c) more
        (stays_next id.client lease last (λ (t : Store). Unit {0}) (λ (t : Store). Unit {0}) s c lives tt)
        (has_left id s c here other alone),
  )),
)

-- Behind a record whose request ran in it.

own_client : (id : SessionId) (s : ServerState) (c : Arrival) → RunsThere id s c → renews_by id.client s c ≡ true
own_client id s c there =
    ap (λ (o : Option MachineEvent). option_map_or (renews id.client (before s c)) o false) there.asks
    ∙ (ap (λ (o : Option Sequence). option_map_or (is_of id.client) o false) there.runs
    ∙ eq-eqb (id_of there.sequence.sessionid).client id.client (ap (λ (i : SessionId). i.client) there.session))

ran_there : (id : SessionId) (s : ServerState) (c : Arrival) → RunsThere id s c → HasSession id (state_after s c).machine
ran_there id s c there =
    subst (HasSession id) (sym (ap (λ (s : ServerState). s.machine) (next_is s c)))
    (for_asked (λ o. (e : MachineEvent) → o ≡ Some e → ran (before s c) e ≡ Some there.sequence → HasSession id (left (before s c) o)) s c
    (λ e none. absurd cc)
    (λ r who e some runs. (let same : Asks r who (length c.bytes) (taken s c) c.choice ≡ e = same_Some _ e some in
    ran_has id (before s c) r who (length c.bytes) (taken s c) c.choice there.sequence (ap (ran (before s c)) same ∙ runs) there.session))
    there.event there.asks there.runs)

pub sessions_stay : SessionsStay
sessions_stay start earlier c id there more =
    let s = reached start earlier in
    stays id start.lease (taken s c) (state_after s c) more (stays_from start earlier c id.client (λ (t : Store). Unit {0}) (own_client id s c there) tt)
    (ran_there id s c there)
