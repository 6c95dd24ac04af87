-- A lock owner has one lock state on a file.
use Rattle.std.proofs.Common.{◌≡◌, ◌⊎◌, ℕ, ◌+◌, Bool, true, false, cond, not, List, [], ◌∷◌, ◌++◌, map, Option, Some, None, refl, sym, ◌∙◌, ap, subst, inl, inr}
use Rattle.std.proofs.{lemmas.Bool.{and_parts, eq-eqb, eqb-true, false≢true}, lemmas.Slice.Eq.bytes_eq-Decides}
use Rattle.std.specs.{Prelude.{◌==◌, if◌then◌else◌, Ok, filter, ok_or}, Option.option_map_or}
use Rattle.nfs_xdr.specs.{Tables.In, declared.time.Time.Time, declared.status.Status.TheVariants.{BadStateId, ServerFault}}
use Rattle.nfs_xdr.proofs.Lists.{find_in, in_filter, in_map, in_push, none_in}
use Rattle.nfs_compound.specs.declared.{lock_args.Locker.{Locker, TheVariants.{LockOwner, OpenOwner}}, op.{Item.{Item, TheVariants.Operation}, Op.Op}}
use Rattle.nfs_results.specs.{declared.res.Res.Res, Results.status_of_result}
use Rattle.nfs_opens.specs.declared.{judging.Sort.TheVariants.{LockOnly, OpenOnly}, locking.{OpenFault.TheVariants.Refused, Wish.Wish}}
use Rattle.nfs_opens.specs.{declared.{records.{LockState.LockState, OpenState.OpenState}, share.Share.Share, stateid.StateId.StateId}, Judging.judge}
use Rattle.nfs_opens.specs.{Locking.{is_locker, state_of, raised, access_in, lock_judged, lock_as, lock_first}, StateId.last_number, Steps.{map_err, require}}
use Rattle.nfs_opens.specs.Table.{Table, Asked, lock_at}
use Rattle.nfs_opens.specs.Opening as opening
use Rattle.nfs_opens.proofs.{CallLaws.{first_state, came, ok_is}, Terms.{lock_by_owner, not_under}}
use Rattle.nfs_names.specs.{declared.{context.Context.Context, start.Start.Start}, Ending.table_staying, Outcome.is_ok, State.{State, time_at}}
use Rattle.nfs_names.proofs.Untouched.{leaves_each}
use Rattle.nfs_files.specs.Lock.{locks_as}
use Rattle.nfs_files.proofs.{Effects.{Effect, Opens, Closes, Locks, Begins, Unlocks, Frees, Caused, table_behind}, Effected.caused_opens, Outcomes.comes_to}
use Rattle.nfs_files.proofs.ToldLocks.{left_by}
use Rattle.nfs_exec.specs.Runs.Ops.{RanOp}
use Rattle.nfs_exec.proofs.{Runs.OneRun.{IsRun, by_ok, by_run}, Runs.OneWalk.IsKept}
use Rattle.nfs_serve.specs.Step.{new_state}
use Rattle.nfs_promises.specs.{Network.Endpoint.Arrival, Runs.Points.{reached, ops_of}}
use Rattle.nfs_promises.proofs.{Locks.LockBeforeStep.{IsGranting, Granting}, Runs.{LaterRecords.{runs_keep, runs_last}, Points.sound_new}}

-- Tables.

abbrev pub HasOneEach : Table → Type 0
HasOneEach t = (k l : LockState) → In k t.locks → In l t.locks → k.client ≡ l.client → k.owner ≡ l.owner → k.file ≡ l.file → k ≡ l

each_fewer : (t u : Table) (p : LockState → Bool) → u.locks ≡ filter p t.locks → HasOneEach t → HasOneEach u
each_fewer t u p locks is = λ k l here there.
    is k l (in_filter p t.locks k (subst (In k) locks here)).0 (in_filter p t.locks l (subst (In l) locks there)).0

change : ℕ → LockState → LockState
change n l = if l.number == n then raised l else l

record IsLike (k l : LockState) : Type 0 where
  pub client : k.client ≡ l.client
  pub owner : k.owner ≡ l.owner
  pub file : k.file ≡ l.file

as_changed : (n : ℕ) (l : LockState) → IsLike (change n l) l
unfolding change
as_changed n l = elim (l.number == n) as (λ v. IsLike (cond v (raised l) l) l) [ true ↦ record { client = refl; owner = refl; file = refl } | false ↦ record { client = refl; owner = refl; file = refl } ]

each_raised : (t u : Table) (n : ℕ) → u.locks ≡ map (λ l. if l.number == n then raised l else l) t.locks → HasOneEach t → HasOneEach u
unfolding change
each_raised t u n locks is = λ k l here there client owner file.
    (let a = in_map (change n) t.locks k (subst (In k) locks here) in
    let b = in_map (change n) t.locks l (subst (In l) locks there) in
    let x = as_changed n a.0 in
    let y = as_changed n b.0 in
    let same : a.0 ≡ b.0 = is a.0 b.0 a.1 b.1
    (sym x.client ∙ (ap (λ (l : LockState). l.client) (sym a.2) ∙ (client ∙ (ap (λ (l : LockState). l.client) b.2 ∙ y.client))))
    (sym x.owner ∙ (ap (λ (l : LockState). l.owner) (sym a.2) ∙ (owner ∙ (ap (λ (l : LockState). l.owner) b.2 ∙ y.owner))))
    (sym x.file ∙ (ap (λ (l : LockState). l.file) (sym a.2) ∙ (file ∙ (ap (λ (l : LockState). l.file) b.2 ∙ y.file)))) in
    a.2 ∙ (ap (change n) same ∙ sym b.2))

-- whoever is of the owner is its locker
pub locker_is : (client : ℕ) (owner : List ℕ) (file : ℕ) (l : LockState) → l.client ≡ client → l.owner ≡ owner → l.file ≡ file → is_locker client owner file l ≡ true
locker_is client owner file l mine its there = rw (eq-eqb l.file file there, eq-eqb l.client client mine, (bytes_eq-Decides l.owner owner).1 its) refl

each_as : (t : Table) (w : Wish) (n : ℕ) (access : Share) (did : StateId × Table) → lock_as t w n access ≡ Ok did → HasOneEach t → HasOneEach did.1
each_as t w n access did e is =
    let u = came (lock_judged t n access w) _ did e in
    let k = came (ok_or (lock_at t n) (Refused BadStateId)) _ did u.then in
    each_raised t did.1 n (sym (ap (λ (d : StateId × Table). d.1.locks) (ok_is refl k.then))) is

each_first : (t : Table) (w : Wish) (opened : ℕ) (owner : List ℕ) (access : Share) (did : StateId × Table) → state_of t w.client owner w.file ≡ None
    → lock_first t w opened owner access ≡ Ok did → HasOneEach t → HasOneEach did.1
each_first t w opened owner access did none e is =
    let u = came (lock_judged t 0 access w) _ did e in
    let j = came (require (not (t.last == last_number)) (Refused ServerFault)) _ did u.then in
    let locks = sym (ap (λ (d : StateId × Table). d.1.locks) (ok_is refl j.then)) in
    λ k l here there client name file. elim (in_push t.locks new k (subst (In k) locks here)) [
      | inl one ↦ elim (in_push t.locks new l (subst (In l) locks there)) [
        | inl two ↦ one ∙ sym two
        | inr old ↦ absurd (other l old (sym client ∙ ap (λ (l : LockState). l.client) one) (sym name ∙ ap (λ (l : LockState). l.owner) one)
            (sym file ∙ ap (λ (l : LockState). l.file) one))
      ]
      | inr first ↦ elim (in_push t.locks new l (subst (In l) locks there)) [
        | inl two ↦ absurd (other k first (client ∙ ap (λ (l : LockState). l.client) two) (name ∙ ap (λ (l : LockState). l.owner) two)
            (file ∙ ap (λ (l : LockState). l.file) two))
        | inr old ↦ is k l first old client name file
      ]
    ]
  where
    new : LockState
    new = first_state t w owner opened

    other : (l : LockState) → In l t.locks → l.client ≡ w.client → l.owner ≡ owner → l.file ≡ w.file → ⊥
    other l there mine its file =
        false≢true (sym (none_in (is_locker w.client owner w.file) t.locks l none there) ∙ locker_is w.client owner w.file l mine its file)

each_by : (t : Table) (w : Wish) (opened : ℕ) (owner : List ℕ) (access : Share) (o : Option LockState) (did : StateId × Table) → state_of t w.client owner w.file ≡ o
    → lock_by_owner t w opened owner access o ≡ Ok did → HasOneEach t → HasOneEach did.1
each_by t w opened owner access (Some l) did found e is = each_as t w l.number access did e is
each_by t w opened owner access None did found e is = each_first t w opened owner access did found e is

each_locked : (t : Table) (who : Locker) (id : StateId) (w : Wish) (did : StateId × Table) → locks_as t who id w ≡ Ok did → HasOneEach t → HasOneEach did.1
each_locked t (OpenOwner o) id w did e is =
    let seat = came (map_err Refused (judge t id w.client (Some w.file) OpenOnly)) _ did e in
    each_by t w id.number o.lock_owner.owner (access_in seat.found) (state_of t w.client o.lock_owner.owner w.file) did refl seat.then is
each_locked t (LockOwner o) id w did e is =
    let seat = came (map_err Refused (judge t id w.client (Some w.file) LockOnly)) _ did e in each_as t w id.number (access_in seat.found) did seat.then is

-- Operations.

each_opened : (t : Table) (a : Asked) (o : Option OpenState) → HasOneEach t → HasOneEach (opening.opens_by t a o).after
each_opened t a (Some o) is = is
each_opened t a None is = is

each_effect : (s : State) (x : Context) (op : Op) (r : Res) (i : Item) → i ≡ Operation op → (t : State) (e : Effect) → Caused s x op r t e → HasOneEach t.opens
    → IsGranting s x i ⊎ HasOneEach (table_behind t.opens e)
each_effect s x op r i same t (Opens a) caused is = inr (each_opened t.opens a (opening.own_open t.opens a) is)
each_effect s x op r i same t (Closes n file) caused is = inr (each_fewer t.opens (table_behind t.opens (Closes n file)) (not_under n) refl is)
each_effect s x op r i same t (Locks n w) caused is = inl (record { op = op; is = same; number = n; wish = w; locks = caused.cause })
each_effect s x op r i same t (Begins opened name w) caused is = inl (record { op = op; is = same; number = s.opens.last + 1; wish = w; locks = caused.cause })
each_effect s x op r i same t (Unlocks n w) caused is = inr (each_raised t.opens (table_behind t.opens (Unlocks n w)) n refl is)
each_effect s x op r i same t (Frees n) caused is = inr (each_fewer t.opens (table_behind t.opens (Frees n)) (λ (l : LockState). not (l.number == n)) refl is)
each_effect s x op r i same t e caused is = inr is

each_item : (s : State) (x : Context) (now : Time) (refused : Bool) (i : Item) → HasOneEach s.opens
    → Granting s x i (is_ok (status_of_result (comes_to refused s x now i).result)) ⊎ HasOneEach (comes_to refused s x now i).state.opens
each_item s x now refused i is =
    let r = (comes_to refused s x now i).result in
    caused_opens (λ t. Granting s x i (is_ok (status_of_result r)) ⊎ HasOneEach t) refused s x now i
    (λ op same t e caused before. elim before [
      | inl granting ↦ inl granting
      | inr each ↦ elim (each_effect s x op r i same t e caused each) [ inl granting ↦ inl (granting, caused.ok) | inr left ↦ inr left ]
    ]) (inr is)

each_run : (d : RanOp) → IsRun d → HasOneEach d.before.store.opens → HasOneEach d.behind.store.opens
each_run d r is = elim (by_run (λ status text s. Granting d.before.store d.context d.item (is_ok status) ⊎ HasOneEach s.opens) d r
    (inr is)
    (λ o e. inr (subst HasOneEach (sym (leaves_each r.refused d.before.store d.context (time_at d.before.store r.now) d.item o e).opens) is))
    (each_item d.before.store d.context (time_at d.before.store r.now) r.refused d.item is)
    (λ other. inr is)) [
      | inr each ↦ each
      | inl granting ↦
          (let g = granting.0 in
          let locks = g.locks in
          let a = locks.asked in
          let item : d.item ≡ Operation (Op.Lock a) = g.is ∙ ap Operation locks.is in
          let left = by_ok (λ text u. u.opens ≡ locks.did.1) d r (Operation (Op.Lock a)) item granting.1
          (left_by d.before.store d.context (time_at d.before.store r.now) r.refused a (record { wish = g.wish; id = locks.id }) locks.did locks.judged locks.granted) in
          subst HasOneEach (sym left) (each_locked d.before.store.opens a.locker locks.id g.wish locks.did locks.granted is))
    ]

pub each_kept : IsKept (λ s. HasOneEach s.opens)
each_kept = record { run = each_run; end = λ stays s is. each_fewer s.opens (table_staying stays s.opens) (λ (l : LockState). stays l.client) refl is }

-- before each operation of a run
pub each_in : (start : Start) (records : List Arrival) (c : Arrival) (d : RanOp) → In d (ops_of (reached start records) c) → HasOneEach d.before.store.opens
each_in start records c d there = runs_keep (λ s. HasOneEach s.opens) each_kept (new_state start) (records ++ c ∷ []) (sound_new start) (λ k l here. absurd here) d
    (runs_last (new_state start) records c d there)

-- The lock state that is found of an owner is the only one.
pub found_one : (t : Table) → HasOneEach t → (client : ℕ) (owner : List ℕ) (file : ℕ) (l : LockState) → In l t.locks → l.client ≡ client → l.owner ≡ owner → l.file ≡ file
    → l.number ≡ option_map_or (λ (k : LockState). k.number) (state_of t client owner file) 0
found_one t each client owner file l there mine its here = by (state_of t client owner file) refl
  where
    by : (o : Option LockState) → state_of t client owner file ≡ o → l.number ≡ option_map_or (λ (k : LockState). k.number) o 0
    by None found = absurd (false≢true (sym (none_in (is_locker client owner file) t.locks l found there) ∙ locker_is client owner file l mine its here))
    by (Some k) found =
        let of = find_in (is_locker client owner file) t.locks k found in
        let p = and_parts _ _ of.1 in
        let q = and_parts _ _ p.1 in
        ap (λ (l : LockState). l.number) (each l k there of.0 (mine ∙ sym (eqb-true k.client client q.0)) (its ∙ sym ((bytes_eq-Decides k.owner owner).0 q.1)) (here ∙ sym (eqb-true k.file file p.0)))
