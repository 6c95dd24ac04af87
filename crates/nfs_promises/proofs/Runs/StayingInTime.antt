-- What stands of a client's while records come in time, whatever it is that stands: the frame keeps it where its client asks for nothing.
use Rattle.std.proofs.Common.{◌≡◌, ℕ, ◌+◌, ◌≤◌, Bool, true, false, cond, List, [], ◌∷◌, ◌++◌, length, Option, Some, None, refl, sym, ◌∙◌, ap, subst, arith}
use Rattle.std.specs.Option.{option_map_or}
use Rattle.nfs_xdr.specs.Caller.{Caller}
use Rattle.nfs_compound.specs.Request.{Request}
use Rattle.nfs_opens.specs.Table.{Table}
use Rattle.nfs_names.specs.{declared.start.Start.Start, State.State as Store}
use Rattle.nfs_files.specs.Own.{HasAsBefore}
use Rattle.nfs_exec.specs.{Step.Machine.Machine, Runs.Kept.{Kept, While, AreSpared, after_all}, Step.Laws.{MachineEvent, Expires, Asks}}
use Rattle.nfs_exec.specs.{Runs.LockHeld.{renews, replaces}, Runs.Ops.{RanOp, ops_by}}
use Rattle.nfs_exec.proofs.Runs.OneWalk as walk
use Rattle.nfs_exec.proofs.{Runs.{OneWalk.{IsTold, event_walked, none_at}, KeptByRuns.Is}, Step.LeaseMoments.compound_lease}
use Rattle.nfs_promises.proofs.Runs.{OthersByRuns.{SparesClient, event_apart}, Renewing.{AtLeast, in_time, least_expired, least_behind}}
use Rattle.nfs_serve.specs.{Step.{ServerState, new_state}}
use Rattle.nfs_promises.specs.{Network.Endpoint.Arrival, Runs.Points.{state_after, state_after_all, reached, taken, before, asked_by, ops_of}}
use Rattle.nfs_promises.specs.Locks.LockKept.{renews_by, replaces_by, StaysFor, InTimeFor}
use Rattle.nfs_promises.proofs.Runs.Points.{left, for_asked, next_is, IsSound, whole_before, taken_later, sound_next, sound_all, sound_new}

-- How long a lease lasts does not change.

pub lease_next : (s : ServerState) (c : Arrival) → (state_after s c).machine.store.lease ≡ s.machine.store.lease
lease_next s c =
    ap (λ (s : ServerState). s.machine.store.lease) (next_is s c)
    ∙ for_asked (λ o. (left (before s c) o).store.lease ≡ s.machine.store.lease) s c refl
    (λ r who. compound_lease (before s c) r who (length c.bytes) (taken s c) c.choice)

pub lease_all : (s : ServerState) (records : List Arrival) → (state_after_all s records).machine.store.lease ≡ s.machine.store.lease
lease_all s [] = refl
lease_all s (c ∷ more) = lease_all (state_after s c) more ∙ lease_next s c

-- This stands in the state, and the client renewed its lease no earlier than then.
pub record Stays (client lease last : ℕ) (P : Store → Type 0) (s : ServerState) : Type 0 where
  pub sound : IsSound s
  pub stands : P s.machine.store
  pub least : AtLeast last client s.machine.leases
  pub low : last ≤ s.moment
  pub lasts : s.machine.store.lease ≡ lease

abbrev pub IsFramed : ℕ → (Table → Type 0) → Type 0
IsFramed client P = (t u : Table) → HasAsBefore client t u → P t → P u

no_later : (last moment now : ℕ) → last ≤ moment → moment ≤ now → last ≤ now
no_later last moment now low later = omega arith

-- in a record that is in time it stands when its compound begins
pub stays_before : (client lease last : ℕ) (P : Table → Type 0) (s : ServerState) (c : Arrival) → IsFramed client P → Stays client lease last (λ u. P u.opens) s
    → taken s c ≤ last + lease → P (before s c).store.opens
stays_before client lease last P s c framed stays within =
    framed s.machine.store.opens (before s c).store.opens
    (event_apart client s.machine (Expires (taken s c)) stays.sound.whole refl
    (in_time s.machine.store.lease s.machine.leases last (taken s c) client stays.least (subst (λ n. taken s c ≤ last + n) (sym stays.lasts) within)))
    stays.stands

least_left : (s : ServerState) (c : Arrival) (client last : ℕ) → last ≤ taken s c → AtLeast last client (before s c).leases
    → AtLeast (cond (renews_by client s c) (taken s c) last) client (left (before s c) (asked_by s c)).leases
least_left s c client last low least =
    for_asked (λ o. AtLeast (cond (option_map_or (renews client (before s c)) o false) (taken s c) last) client (left (before s c) o).leases) s c least
    (λ r who. least_behind (before s c) r who (length c.bytes) (taken s c) client last c.choice low least)

renewal_low : (b : Bool) (now last : ℕ) → last ≤ now → cond b now last ≤ now
renewal_low true now last low = omega arith
renewal_low false now last low = low

-- and behind the record what its compound leaves
pub stays_next : (client lease last : ℕ) (P Q : Store → Type 0) (s : ServerState) (c : Arrival) → Stays client lease last P s
    → Q (left (before s c) (asked_by s c)).store → Stays client lease (cond (renews_by client s c) (taken s c) last) Q (state_after s c)
stays_next client lease last P Q s c stays leaves =
    let is = ap (λ (s : ServerState). s.machine) (next_is s c) in
    let low : last ≤ taken s c = no_later last s.moment (taken s c) stays.low (taken_later s c) in
    record {
      sound = sound_next s c stays.sound;
      stands = subst (λ (m : Machine). Q m.store) (sym is) leaves;
      least = subst (λ (m : Machine). AtLeast (cond (renews_by client s c) (taken s c) last) client m.leases) (sym is)
          (least_left s c client last low (least_expired s.machine.store.lease s.machine.leases last (taken s c) client stays.least));
      low = subst (λ n. cond (renews_by client s c) (taken s c) last ≤ n) (sym (ap (λ (s : ServerState). s.moment) (next_is s c)))
          (renewal_low (renews_by client s c) (taken s c) last low);
      lasts = lease_next s c ∙ stays.lasts;
    }

-- behind a record that ran in a session of the client
pub stays_from : (start : Start) (earlier : List Arrival) (c : Arrival) (client : ℕ) (P : Store → Type 0)
    → (let s = reached start earlier in
    renews_by client s c ≡ true → P (left (before s c) (asked_by s c)).store → Stays client start.lease (taken s c) P (state_after s c))
stays_from start earlier c client P own leaves =
    let s = reached start earlier in
    let is = ap (λ (s : ServerState). s.machine) (next_is s c) in
    let sound : IsSound s = sound_all (new_state start) earlier (sound_new start) in
    record {
      sound = sound_next s c sound;
      stands = subst (λ (m : Machine). P m.store) (sym is) leaves;
      least = subst (λ (m : Machine). AtLeast (taken s c) client m.leases) (sym is)
          (subst (λ b. AtLeast (cond b (taken s c) 0) client (left (before s c) (asked_by s c)).leases) own
          (least_left s c client 0 (omega arith) (λ r e. omega arith)));
      low = subst (λ n. taken s c ≤ n) (sym (ap (λ (s : ServerState). s.moment) (next_is s c))) (omega arith);
      lasts = lease_next s c ∙ lease_all (new_state start) earlier;
    }

-- What a record's compound does to what stays, if it has one; `Leaves` is what it may not do where it runs no operation.

abbrev pub Through : (k : Kept) → (Machine → Option MachineEvent → Type 0) → k.Way → Machine → Option MachineEvent → Type 0
Through k Leaves way m o =
    While k way (option_map_or (ops_by m) o [])
    × (AreSpared k (option_map_or (ops_by m) o []) → Leaves m o → k.Stands (after_all k.after way (option_map_or (ops_by m) o [])) (left m o).store)

pub through_asked : (k : Kept) (Spares : Machine → MachineEvent → Type 0) (Leaves : Machine → Option MachineEvent → Type 0)
    → ((m : Machine) (r : Request) (who : Caller) (size now : ℕ) (choice : Option ℕ) → Leaves m (Some (Asks r who size now choice)) → Spares m (Asks r who size now choice))
    → walk.Stays k Spares → (way : k.Way) (s : ServerState) (c : Arrival) → IsSound s → k.Stands way (before s c).store → Through k Leaves way (before s c) (asked_by s c)
through_asked k Spares Leaves weaker stays way s c sound here =
    for_asked (Through k Leaves way (before s c)) s c (tt, λ spared leaves. here) (λ r who.
    (let did = event_walked k Spares stays (before s c) (Asks r who (length c.bytes) (taken s c) c.choice) (whole_before s c sound.whole) way here in
    (did.0, λ spared leaves. did.1 spared (weaker (before s c) r who (length c.bytes) (taken s c) c.choice leaves))))

-- from an operation of it on that told it
record IsToldBy (k : Kept) (way : k.Way) (client : ℕ) (m : Machine) (o : Option MachineEvent) (back : List RanOp) : Type 0 where
  pub within : While k way back
  pub behind : AreSpared k back → k.Stands (after_all k.after way back) (left m o).store
  pub renewed : option_map_or (renews client m) o false ≡ true

told_by : (k : Kept) (way : k.Way) (client : ℕ) (m : Machine) (o : Option MachineEvent) (front : List RanOp) (d : RanOp) (back : List RanOp) → Is m
    → (Is m → (e : MachineEvent) → ops_by m e ≡ front ++ d ∷ back → IsTold k way client m e back) → option_map_or (ops_by m) o [] ≡ front ++ d ∷ back
    → IsToldBy k way client m o back
told_by k way client m None front d back is told e = absurd (none_at front d back e)
told_by k way client m (Some event) front d back is told e =
    let did = told is event e in record { within = did.within; behind = did.behind; renewed = did.renewed }

pub told_from : (k : Kept) (way : k.Way) (client : ℕ) (start : Start) (earlier : List Arrival) (c : Arrival) (front : List RanOp) (d : RanOp) (back : List RanOp)
    → (let s = reached start earlier in
    (Is (before s c) → (e : MachineEvent) → ops_by (before s c) e ≡ front ++ d ∷ back → IsTold k way client (before s c) e back)
    → ops_of s c ≡ front ++ d ∷ back
    → While k way back × (AreSpared k back → Stays client start.lease (taken s c) (k.Stands (after_all k.after way back)) (state_after s c)))
told_from k way client start earlier c front d back told e =
    let s = reached start earlier in
    let sound : IsSound s = sound_all (new_state start) earlier (sound_new start) in
    let did = told_by k way client (before s c) (asked_by s c) front d back (whole_before s c sound.whole) told e in (
      did.within,
      λ spared. stays_from start earlier c client (k.Stands (after_all k.after way back)) did.renewed (did.behind spared),
    )

-- Through all records that come in time, for what hangs on a client's lease.
module _ (k : Kept) (client lease : ℕ) (stays : walk.Stays k (SparesClient client)) where
  pub through : (last : ℕ) (way : k.Way) (s : ServerState) (c : Arrival) → Stays client lease last (k.Stands way) s → taken s c ≤ last + lease
      → Through k (λ m o. option_map_or (replaces client m) o false ≡ false) way (before s c) (asked_by s c)
  through last way s c lives within =
      through_asked k (SparesClient client) (λ m o. option_map_or (replaces client m) o false ≡ false) (λ m r who size now choice alone. alone) stays way s c lives.sound
      ((event_walked k (SparesClient client) stays s.machine (Expires (taken s c)) lives.sound.whole way lives.stands).1 (λ d there. absurd there)
      (in_time s.machine.store.lease s.machine.leases last (taken s c) client lives.least (subst (λ n. taken s c ≤ last + n) (sym lives.lasts) within)))

  lives_next : (last : ℕ) (way : k.Way) (s : ServerState) (c : Arrival) → Stays client lease last (k.Stands way) s → taken s c ≤ last + lease → AreSpared k (ops_of s c)
      → replaces_by client s c ≡ false
      → Stays client lease (cond (renews_by client s c) (taken s c) last) (k.Stands (after_all k.after way (ops_of s c))) (state_after s c)
  lives_next last way s c lives within spared alone = stays_next client lease last (k.Stands way) (k.Stands (after_all k.after way (ops_of s c))) s c lives
      ((through last way s c lives within).1 spared alone)

  pub stays_for : (last : ℕ) (way : k.Way) (s : ServerState) (records : List Arrival) → Stays client lease last (k.Stands way) s → StaysFor k client lease last way s records
  stays_for last way s [] lives = lives.stands
  stays_for last way s (c ∷ more) lives = (
    lives.stands,
    λ within. (
      (through last way s c lives within).0,
      λ spared alone. stays_for (cond (renews_by client s c) (taken s c) last) (after_all k.after way (ops_of s c)) (state_after s c) more
          (lives_next last way s c lives within spared alone),
    ),
  )

  pub up_to : (last : ℕ) (way : k.Way) (s : ServerState) (records : List Arrival) (Then : k.Way → ℕ → ServerState → Type 0) → Stays client lease last (k.Stands way) s
      → InTimeFor k client lease last way s records Then
      → (then : k.Way) × (to : ℕ) × (t : ServerState) × Stays client lease to (k.Stands then) t × Then then to t
  up_to last way s [] Then lives all = (way, last, s, lives, all)
  up_to last way s (c ∷ more) Then lives all = up_to (cond (renews_by client s c) (taken s c) last) (after_all k.after way (ops_of s c)) (state_after s c) more Then
      (lives_next last way s c lives all.0 all.1 all.2) all.3
