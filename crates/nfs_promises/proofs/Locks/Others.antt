-- Whatever others send, a client has what it had while its lease lasts.
use Rattle.std.proofs.Common.{◌≡◌, ℕ, ◌+◌, ◌≤◌, true, false, cond, List, [], ◌∷◌, length, Option, Some, None, refl, sym, ◌∙◌, ap, subst}
use Rattle.std.proofs.lemmas.Bool.{and_parts, eqb-true, eq-eqb, false≢true}
use Rattle.std.specs.{Prelude.{is_some, option_map}, Option.option_map_or}
use Rattle.nfs_xdr.specs.Caller.{Caller}
use Rattle.nfs_xdr.proofs.Lists.{find_in}
use Rattle.nfs_compound.specs.Request.{Request}
use Rattle.nfs_lease.specs.Renewals.{Book}
use Rattle.nfs_sessions.specs.{Id.id_of, Sessions.{is_session, session_at}}
use Rattle.nfs_names.specs.Context.{begins}
use Rattle.nfs_exec.specs.Step.{Compound.{renewed, begun, compound}, Run.behind_here, Machine.{Machine, IsMachine, is_confirmed}}
use Rattle.nfs_exec.specs.{Step.Laws.Asks, Runs.LockHeld.{replaces, is_of, renews}, Runs.Own.{IsAsBefore, is_named_by}}
use Rattle.nfs_exec.proofs.{Step.{Behind.run_leases, RepliesKept.runs_means, Invariant.of_start, Terms.is_client}, Runs.ByEvent.by_compound}
use Rattle.nfs_promises.proofs.Runs.{NotNamed.{as_it_was, then_as, expired_strange, compound_strange}, OthersByRuns.event_apart, Renewing.{AtLeast, in_time}}
use Rattle.nfs_opens.specs.Table.{Table}
use Rattle.nfs_clients.specs.Roster.{ClientRecord, client_at}
use Rattle.nfs_files.specs.Own.{HasAsBefore}
use Rattle.nfs_files.proofs.OthersTables.{same, both}
use Rattle.nfs_serve.specs.{Step.{ServerState, new_state}}
use Rattle.nfs_promises.specs.{Network.Endpoint.Arrival, Runs.Points.{state_after, state_after_all, reached, taken, before, asked_by}, Locks.LockKept.renews_by}
use Rattle.nfs_promises.specs.Locks.{LockKept.replaces_by, Others.{AreOthers, OthersLeaveAll, is_named, AreStrangers, StrangersChangeNothing}}
use Rattle.nfs_promises.proofs.Runs.{Points.{left, for_asked, next_is, IsSound, whole_before, sound_next, sound_all, sound_new}, StayingInTime.lease_next}
use Rattle.nfs_promises.proofs.{Runs.StayingInTime.{lease_all, Stays, stays_before, stays_next, stays_from}, Locks.NoneOutlives.{confirmed_is, machine_before}}
use Rattle.nfs_promises.proofs.Locks.NoneOutlives.{machine_next, machine_all}

-- what a record of another does, if it asks for anything
apart : (client : ℕ) (s : ServerState) (c : Arrival) → IsSound s → renews_by client s c ≡ false → replaces_by client s c ≡ false
    → HasAsBefore client (before s c).store.opens (left (before s c) (asked_by s c)).store.opens
apart client s c sound =
    for_asked (λ o. option_map_or (renews client (before s c)) o false ≡ false → option_map_or (replaces client (before s c)) o false ≡ false
    → HasAsBefore client (before s c).store.opens (left (before s c) o).store.opens) s c
    (λ other alone. same client (before s c).store.opens)
    (λ r who. event_apart client (before s c) (Asks r who (length c.bytes) (taken s c) c.choice) (whole_before s c sound.whole))

-- while others come, the client has what it had in this table
rests_all : (client lease last : ℕ) (t : Table) (s : ServerState) (others : List Arrival) → Stays client lease last (λ u. HasAsBefore client t u.opens) s
    → AreOthers client lease last s others → HasAsBefore client t (state_after_all s others).machine.store.opens
rests_all client lease last t s [] rests all = rests.stands
rests_all client lease last t s (c ∷ more) rests all =
    let here : HasAsBefore client t (before s c).store.opens =
    stays_before client lease last (HasAsBefore client t) s c (λ u v step first. both client t u v first step) rests all.1 in
    let left_is = left (before s c) (asked_by s c) in
    let there : HasAsBefore client t left_is.store.opens =
    both client t (before s c).store.opens left_is.store.opens here (apart client s c rests.sound all.0 all.2) in
    rests_all client lease last t (state_after s c) more
    (subst (λ b. Stays client lease (cond b (taken s c) last) (λ u. HasAsBefore client t u.opens) (state_after s c)) all.0
    (stays_next client lease last (λ u. HasAsBefore client t u.opens) (λ u. HasAsBefore client t u.opens) s c rests there)) all.3

pub others_leave_all : OthersLeaveAll
others_leave_all start earlier c client others own all =
    let s = reached start earlier in
    let t = (state_after s c).machine.store.opens in
    rests_all client start.lease (taken s c) t (state_after s c) others
    (stays_from start earlier c client (λ u. HasAsBefore client t u.opens) own
    (subst (λ (m : Machine). HasAsBefore client t m.store.opens) (ap (λ (s : ServerState). s.machine) (next_is s c)) (same client t))) all

-- Whoever renews its lease is there.

mapped_some : (now : ℕ) (o : Option ℕ) → is_some o ≡ true → is_some (option_map (λ (moment : ℕ). now) o) ≡ true
mapped_some now None e = absurd (false≢true e)
mapped_some now (Some r) e = refl

compound_there : (m : Machine) (r : Request) (who : Caller) (size now client : ℕ) (choice : Option ℕ) → IsMachine m
    → renews client m (Asks r who size now choice) ≡ true → is_some ((compound m r who size now choice).machine.leases client) ≡ true
compound_there m r who size now client choice is = by_compound
    (λ left ds run. option_map_or (is_of client) run false ≡ true → is_some (left.leases client) ≡ true) m r who size now choice
    (λ of. absurd (false≢true of)) (λ item of. absurd (false≢true of)) (λ s more c e of.
    (let id = id_of s.sessionid in
    let fresh = runs_means r who size s (session_at m.sessions id) c e in
    let there = find_in (is_session id) m.sessions.sessions fresh.session fresh.found in
    let mine : id.client ≡ client = eqb-true id.client client of in
    let own : fresh.session.client ≡ client = eqb-true _ _ (and_parts _ _ there.1).1 ∙ mine in
    let known : is_confirmed m.clients client ≡ true = ap (is_confirmed m.clients) (sym own) ∙ is.confirmed fresh.session there.0 in
    let some : is_some (m.leases client) ≡ true = is.leased client ∙ confirmed_is m.clients client known in
    let lasts : is_some ((renewed m now s).leases client) ≡ true = rw (eq-eqb client id.client (sym mine)) (mapped_some now (m.leases client) some) in
    ap (λ (b : Book). is_some (b client)) (run_leases c.maxresponsesize (begun r s c) now (behind_here choice) (renewed m now s) (begins id.client who) more) ∙ lasts))

there_behind : (s : ServerState) (c : Arrival) (client : ℕ) → IsMachine s.machine → renews_by client s c ≡ true → is_client (state_after s c).machine.clients client ≡ true
there_behind s c client is own =
    let left_some : is_some ((left (before s c) (asked_by s c)).leases client) ≡ true =
    for_asked (λ o. option_map_or (renews client (before s c)) o false ≡ true → is_some ((left (before s c) o).leases client) ≡ true) s c
    (λ of. absurd (false≢true of))
    (λ r who of. compound_there (before s c) r who (length c.bytes) (taken s c) client c.choice (machine_before s c is) of) own in
    sym ((machine_next s c is).leased client)
    ∙ ap (λ (m : ServerState). is_some (m.machine.leases client)) (next_is s c) ∙ left_some

-- What does not name it.

record Rest (client lease last : ℕ) (m : Machine) (s : ServerState) : Type 0 where
  pub sound : IsSound s
  pub machine : IsMachine s.machine
  pub known : ClientRecord
  pub at : client_at m.clients client ≡ Some known
  pub all : IsAsBefore client m s.machine
  pub least : AtLeast last client m.leases
  pub lasts : s.machine.store.lease ≡ lease

strange : (client : ℕ) (k : ClientRecord) (s : ServerState) (c : Arrival) → IsSound s → IsMachine (before s c) → client_at (before s c).clients client ≡ Some k
    → option_map_or (is_named_by client (before s c)) (asked_by s c) false ≡ false → IsAsBefore client (before s c) (left (before s c) (asked_by s c))
strange client k s c sound machine at =
    for_asked (λ o. option_map_or (is_named_by client (before s c)) o false ≡ false → IsAsBefore client (before s c) (left (before s c) o)) s c
    (λ none. as_it_was client (before s c))
    (λ r who none. compound_strange client (before s c) k r who (length c.bytes) (taken s c) c.choice (whole_before s c sound.whole) machine at none)

rest_next : (client lease last : ℕ) (m : Machine) (s : ServerState) (c : Arrival) → Rest client lease last m s → is_named client s c ≡ false → taken s c ≤ last + lease
    → Rest client lease last m (state_after s c)
rest_next client lease last m s c rest none within =
    let is = ap (λ (s : ServerState). s.machine) (next_is s c) in
    let at : client_at s.machine.clients client ≡ Some rest.known = rest.all.known ∙ rest.at in
    let least : AtLeast last client s.machine.leases = λ r e. rest.least r (sym rest.all.lease ∙ e) in
    let stays = in_time s.machine.store.lease s.machine.leases last (taken s c) client least (subst (λ n. taken s c ≤ last + n) (sym rest.lasts) within) in
    let here = expired_strange client s.machine rest.known (taken s c) at stays in
    let behind : IsAsBefore client (before s c) (state_after s c).machine = subst (IsAsBefore client (before s c)) (sym is)
    (strange client rest.known s c rest.sound (machine_before s c rest.machine) (here.known ∙ at) none) in
    record {
      sound = sound_next s c rest.sound;
      machine = machine_next s c rest.machine;
      known = rest.known;
      at = rest.at;
      all = then_as client m s.machine (state_after s c).machine rest.all (then_as client s.machine (before s c) (state_after s c).machine here behind);
      least = rest.least;
      lasts = lease_next s c ∙ rest.lasts;
    }

rest_all : (client lease last : ℕ) (m : Machine) (s : ServerState) (strangers : List Arrival) → Rest client lease last m s → AreStrangers client lease last s strangers
    → IsAsBefore client m (state_after_all s strangers).machine
rest_all client lease last m s [] rest all = rest.all
rest_all client lease last m s (c ∷ more) rest all = rest_all client lease last m (state_after s c) more (rest_next client lease last m s c rest all.0 all.1) all.2

some_of : (o : Option ClientRecord) → is_some o ≡ true → (k : ClientRecord) × (o ≡ Some k)
some_of None e = absurd (false≢true e)
some_of (Some k) e = (k, refl)

pub strangers_change_nothing : StrangersChangeNothing
strangers_change_nothing start earlier c client strangers small own all =
    let first = new_state start in
    let s = reached start earlier in
    let sound : IsSound s = sound_all first earlier (sound_new start) in
    let machine : IsMachine s.machine = machine_all first earlier (of_start start small) in
    let (k, at) = some_of (client_at (state_after s c).machine.clients client) (there_behind s c client machine own) in
    rest_all client start.lease (taken s c) (state_after s c).machine (state_after s c) strangers (record {
      sound = sound_next s c sound;
      machine = machine_next s c machine;
      known = k;
      at = at;
      all = as_it_was client (state_after s c).machine;
      least = (stays_from start earlier c client (λ t. Unit {0}) own tt).least;
      lasts = lease_next s c ∙ lease_all first earlier;
    }) all
