-- Each lock state was begun by a LOCK of a new lock owner, under the open that it named.
use Rattle.std.proofs.Common.{◌≡◌, ℕ, Bool, true, false, not, List, ◌∷◌, ◌++◌, Option, Some, None, refl, sym, ◌∙◌, ap, subst, inl, inr}
use Rattle.std.proofs.lemmas.Bool.{cases_Bool, true≢false, false≢true}
use Rattle.std.specs.Prelude.{◌⊎◌, ◌==◌, ◌&&◌, ok_or, Result, Ok, Err}
use Rattle.nfs_xdr.specs.{declared.time.Time.Time, declared.status.Status.Status, declared.status.Status.TheVariants.{BadStateId, ServerFault}, Tables.In}
use Rattle.nfs_xdr.proofs.Lists.{in_filter, in_push}
use Rattle.nfs_compound.specs.declared.{lock_args.{Lock.Lock, Locker.{Locker, TheVariants.{OpenOwner, LockOwner}}, OpenToLockOwner.OpenToLockOwner}, op.Op.Op}
use Rattle.nfs_compound.specs.declared.{op.Item.{Item, TheVariants.{Operation, Fault}}, stateid.Stateid.Stateid}
use Rattle.nfs_compound.specs.declared.op_num.OpNum.TheVariants as Num
use Rattle.nfs_results.specs.{declared.res.Res.Res, Results.status_of_result}
use Rattle.nfs_opens.specs.{Judging.judge, Locking.{lock_judged, lock_as, access_in, state_of}, Opening.{own_open, opens_by}, Steps.{map_err, require}}
use Rattle.nfs_opens.specs.{StateId.last_number, Table.{Table, Asked, lock_at}, declared.judging.Sort.TheVariants.{OpenOnly, LockOnly}}
use Rattle.nfs_opens.specs.declared.{locking.{OpenFault.TheVariants.Refused, Wish.Wish}, records.{LockState.LockState, OpenState.OpenState}, share.Share.Share}
use Rattle.nfs_opens.specs.declared.stateid.{CurrentSeqid.TheVariants.Any, StateId.StateId}
use Rattle.nfs_opens.proofs.{CallLaws.{came, ok_is}, Terms.{lock_by_owner, not_under}}
use Rattle.nfs_names.specs.{declared.{context.Context.Context, start.Start.Start}, Outcome.{mapped, checked, is_ok}, State.time_at}
use Rattle.nfs_names.specs.State as store
use Rattle.nfs_names.proofs.{Ones.by_delay, Untouched.leaves_each}
use Rattle.nfs_files.specs.Parts as parts
use Rattle.nfs_files.specs.Lock as of_lock
use Rattle.nfs_files.specs.{Operation.grows, Ranges.wished, StateIds.meant, Parts.wished_by}
use Rattle.nfs_files.proofs.{Effects.{Effect, Opens, Closes, Locks, Begins, Unlocks, Frees, Caused, table_behind}, Effected.caused_opens, OpensMoved.by_lock}
use Rattle.nfs_files.proofs.ToldGrants.{IsTold, lock_tells}
use Rattle.nfs_files.proofs.Inside as inside
use Rattle.nfs_files.proofs.Outcomes as files
use Rattle.nfs_exec.specs.Runs.Ops.{RanOp}
use Rattle.nfs_exec.proofs.Runs.OneRun.{IsRun, by_item, by_ok, by_run}
use Rattle.nfs_promises.proofs.Runs.LockStates.{IsAs, as_itself, as_both, changed_from}
use Rattle.nfs_serve.specs.Step.{new_state}
use Rattle.nfs_promises.specs.{Bytes.ChangeTells.RunsIn, Network.Endpoint.Arrival, Locks.LockMade.MakesUnder, Runs.Points.{reached, ops_of}}
use Rattle.nfs_promises.specs.Locks.Denials.{IsBegunBy}
use Rattle.nfs_promises.proofs.{Locks.Traced.{Trace, IsTrace, granted_in}, Runs.LockOwners.{owned_behind, owned_client}}

-- it was there, with this number and under this open
abbrev pub Was : Table → LockState → Type 0
Was t l = (k : LockState) × In k t.locks × IsAs k l

were : (t : Table) (l : LockState) → In l t.locks → Was t l
were t l there = (l, there, as_itself l)

-- What is no LOCK makes none.

abbrev pub is_lock : Op → Bool
is_lock (Op.Lock a) = true
is_lock op = false

abbrev AllWere : Table → Table → Type 0
AllWere t u = (l : LockState) → In l u.locks → Was t l

were_changed : (t u : Table) (n : ℕ) (l : LockState) → AllWere t u → (k : LockState) × In k u.locks × IsAs k l → Was t l
were_changed t u n l are from = (let was = are from.0 from.1 in (was.0, was.1, as_both was.0 from.0 l was.2 from.2))

were_opened : (t u : Table) (a : Asked) (o : Option OpenState) → AllWere t u → AllWere t (opens_by u a o).after
were_opened t u a (Some o) are l there = are l there
were_opened t u a None are l there = are l there

effect_were : (s : store.State) (x : Context) (op : Op) (r : Res) (t : Table) (u : store.State) (e : Effect) → is_lock op ≡ false → Caused s x op r u e
    → AllWere t u.opens → AllWere t (table_behind u.opens e)
effect_were s x op r t u (Opens a) other caused are l there = were_opened t u.opens a (own_open u.opens a) are l there
effect_were s x op r t u (Closes n file) other caused are l there = are l (in_filter (not_under n) u.opens.locks l there).0
effect_were s x op r t u (Locks n w) other caused are l there = were_changed t u.opens n l are (changed_from n u.opens.locks l there)
effect_were s x op r t u (Begins n owner w) other caused are l there = absurd (true≢false (sym (ap is_lock caused.cause.is) ∙ other))
effect_were s x op r t u (Unlocks n w) other caused are l there = were_changed t u.opens n l are (changed_from n u.opens.locks l there)
effect_were s x op r t u (Frees n) other caused are l there = are l (in_filter (λ (l : LockState). not (l.number == n)) u.opens.locks l there).0
effect_were s x op r t u e other caused are l there = are l there

abbrev pub is_lock_item : Item → Bool
is_lock_item (Operation op) = is_lock op
is_lock_item (Fault number status) = false

files_were : (refused : Bool) (s : store.State) (x : Context) (now : Time) (i : Item) → is_lock_item i ≡ false → AllWere s.opens (files.comes_to refused s x now i).state.opens
files_were refused s x now i other =
    caused_opens (AllWere s.opens) refused s x now i (λ op same t e caused are.
    effect_were s x op (files.comes_to refused s x now i).result s.opens t e (sym (ap is_lock_item same) ∙ other) caused are) (were s.opens)

-- A LOCK of a new lock owner may make one, under the open that it names.

as_were : (t : Table) (w : Wish) (n : ℕ) (access : Share) (did : StateId × Table) → lock_as t w n access ≡ Ok did → AllWere t did.1
as_were t w n access did e l there =
    let u = came (lock_judged t n access w) _ did e in
    let k = came (ok_or (lock_at t n) (Refused BadStateId)) _ did u.then in
    let left = ap (λ (d : StateId × Table). d.1) (ok_is refl k.then) in
    changed_from n t.locks l (subst (λ (t : Table). In l t.locks) (sym left) there)

abbrev IsNewUnder : ℕ → StateId × Table → LockState → Type 0
IsNewUnder opened did l = (l.opened ≡ opened) × (l.number ≡ did.0.number)

by_owner_made : (t : Table) (w : Wish) (opened : ℕ) (owner : List ℕ) (access : Share) (o : Option LockState) (did : StateId × Table)
    → lock_by_owner t w opened owner access o ≡ Ok did → (l : LockState) → In l did.1.locks → Was t l ⊎ IsNewUnder opened did l
by_owner_made t w opened owner access (Some k) did e l there = inl (as_were t w k.number access did e l there)
by_owner_made t w opened owner access None did e l there =
    let u = came (lock_judged t 0 access w) _ did e in
    let k = came (require (not (t.last == last_number)) (Refused ServerFault)) _ did u.then in
    let is = ok_is refl k.then in
    let left = ap (λ (d : StateId × Table). d.1) is in
    elim (in_push t.locks _ l (subst (λ (t : Table). In l t.locks) (sym left) there)) [
      | inl new ↦ inr (ap (λ (l : LockState). l.opened) new, ap (λ (l : LockState). l.number) new ∙ ap (λ (d : StateId × Table). d.0.number) is)
      | inr old ↦ inl (were t l old)
    ]

abbrev IsNewBy : Locker → StateId → StateId × Table → LockState → Type 0
IsNewBy who id did l = (o : OpenToLockOwner) × (who ≡ OpenOwner o) × IsNewUnder id.number did l

locked_made : (t : Table) (who : Locker) (id : StateId) (w : Wish) (did : StateId × Table) → of_lock.locks_as t who id w ≡ Ok did → (l : LockState) → In l did.1.locks
    → Was t l ⊎ IsNewBy who id did l
locked_made t (OpenOwner o) id w did e l there =
    let seat = came (map_err Refused (judge t id w.client (Some w.file) OpenOnly)) _ did e in
    elim (by_owner_made t w id.number o.lock_owner.owner (access_in seat.found) (state_of t w.client o.lock_owner.owner w.file) did seat.then l there) [
      | inl was ↦ inl was
      | inr new ↦ inr (o, refl, new)
    ]
locked_made t (LockOwner o) id w did e l there = (let seat = came (map_err Refused (judge t id w.client (Some w.file) LockOnly)) _ did e in
    inl (as_were t w id.number (access_in seat.found) did seat.then l there))

-- what the LOCK was granted
record Grants (s : store.State) (x : Context) (a : Lock) (l : LockState) : Type 0 where
  pub wish : Wish
  pub id : StateId
  pub did : StateId × Table
  pub judged : parts.locking s x a ≡ Ok (record { wish = wish; id = id })
  pub granted : of_lock.locks_as s.opens a.locker id wish ≡ Ok did
  pub new : IsNewBy a.locker id did l

abbrev Granted : store.State → Context → Lock → Bool → LockState → Type 0
Granted s x a ok l = Was s.opens l ⊎ ((ok ≡ true) × Grants s x a l)

lock_made : (refused : Bool) (s : store.State) (x : Context) (now : Time) (a : Lock)
    → (let o = files.comes_to refused s x now (Operation (Op.Lock a)) in
    (l : LockState) → In l o.state.opens.locks → Granted s x a (is_ok (status_of_result o.result)) l)
lock_made refused s x now a =
    by_delay (λ o. (l : LockState) → In l o.state.opens.locks → Granted s x a (is_ok (status_of_result o.result)) l) (grows s x (Op.Lock a) && refused) s x Num.Lock
    (of_lock.lock s x a) (λ l there. inl (were s.opens l there))
    (by_lock (λ o. (l : LockState) → In l o.state.opens.locks → Granted s x a (is_ok (status_of_result o.result)) l) s x a
    (λ status l there. inl (were s.opens l there)) (λ h l there. inl (were s.opens l there)) (λ m did judged granted locked l there.
    elim (locked_made s.opens a.locker m.id m.wish did granted l there) [
      | inl was ↦ inl was
      | inr new ↦ inr (refl, record { wish = m.wish; id = m.id; did = did; judged = judged; granted = granted; new = new })
    ]))

-- its id is the one that the argument means
abbrev id_in : {A : Type 0} → (A → StateId) → Result A Status → Option StateId
id_in f (Err status) = None
id_in f (Ok a) = Some (f a)

found_id : {A : Type 0} (f : A → StateId) (g : StateId → A) → ((i : StateId) → f (g i) ≡ i) → (v : Result StateId Status) (id : StateId)
    → id_in f (mapped g v) ≡ Some id → v ≡ Ok id
found_id f g same (Err status) id e = absurd cc
found_id f g same (Ok i) id e = (let is : f (g i) ≡ id = cc in ap Ok (sym (same i) ∙ is))

meant_found : (x : Context) (given : Stateid) (v : Result Wish Status) (w : Wish) (id : StateId) → wished_by x given v ≡ Ok (record { wish = w; id = id })
    → meant x Any given ≡ Ok id
meant_found x given (Err status) w id e = absurd cc
meant_found x given (Ok k) w id e = found_id _ _ (λ i. refl) (meant x Any given) id (ap (id_in (λ m. m.id)) e)

meant_by : (s : store.State) (x : Context) (a : Lock) (w : Wish) (id : StateId) → parts.locking s x a ≡ Ok (record { wish = w; id = id })
    → meant x Any (of_lock.stateid_in a.locker) ≡ Ok id
meant_by s x a w id e =
    meant_found x (of_lock.stateid_in a.locker) (checked (wished s x a.locktype a.offset a.length) (parts.reclaim_checks a)) w id e

-- One operation that was run.

made_lock : (d : RanOp) (r : IsRun d) (a : Lock) → d.item ≡ Operation (Op.Lock a) → (l : LockState) → In l d.behind.store.opens.locks
    → Was d.before.store.opens l ⊎ MakesUnder l.number l.opened d
made_lock d r a item l there =
    let s = d.before.store in
    elim (by_item (λ status text u. (l : LockState) → In l u.opens.locks → Granted s d.context a (is_ok status) l) d r (Operation (Op.Lock a)) item
    (λ l there. inl (were s.opens l there)) (lock_made r.refused s d.context (time_at s r.now) a) l there) [
      | inl was ↦ inl was
      | inr is ↦ inr (makes is.0 is.1)
    ]
  where
    makes : is_ok d.status ≡ true → Grants d.before.store d.context a l → MakesUnder l.number l.opened d
    makes ok g =
        let s = d.before.store in
        let n = l.number in
        let w = g.wish in
        let o = g.new.0 in
        let locks : inside.Locks s d.context (Op.Lock a) n w =
        record { asked = a; id = g.id; did = g.did; is = refl; judged = g.judged; granted = g.granted; state = sym g.new.2.1 } in
        let told = by_ok (λ text u. IsTold Num.Lock s d.context a.locktype a.offset a.length text n w) d r (Operation (Op.Lock a)) item ok
        (λ ok. lock_tells s d.context (time_at s r.now) r.refused a n w r.whole.table r.whole.few locks ok) in
        record {
          wish = w;
          locks = record { asked = a; is = item; wish = told.wish; names = told.names };
          owner = o;
          new = g.new.1;
          id = g.id;
          means = ap (λ who. meant d.context Any (of_lock.stateid_in who)) (sym g.new.1) ∙ meant_by s d.context a w g.id g.judged;
          names = sym g.new.2.0;
        }

lock_of : (op : Op) → is_lock op ≡ true → (a : Lock) × (op ≡ Op.Lock a)
lock_of (Op.Lock a) e = (a, refl)
lock_of op e = absurd (false≢true e)

lock_in : (i : Item) → is_lock_item i ≡ true → (a : Lock) × (i ≡ Operation (Op.Lock a))
lock_in (Operation op) e = (let is = lock_of op e in (is.0, ap Operation is.1))
lock_in (Fault number status) e = absurd (false≢true e)

made : (d : RanOp) → IsRun d → (l : LockState) → In l d.behind.store.opens.locks → Was d.before.store.opens l ⊎ MakesUnder l.number l.opened d
made d r l there = elim (cases_Bool (is_lock_item d.item)) [
  | inl lock ↦ (let is = lock_in d.item lock in made_lock d r is.0 is.1 l there)
  | inr other ↦ inl (by_run (λ status text u. AllWere d.before.store.opens u.opens) d r (were d.before.store.opens)
      (λ o e. subst (AllWere d.before.store.opens) (sym (leaves_each r.refused d.before.store d.context (time_at d.before.store r.now) d.item o e).opens) (were d.before.store.opens))
      (files_were r.refused d.before.store d.context (time_at d.before.store r.now) d.item other) (λ none. were d.before.store.opens) l there)
]

-- with its client, and with the string of its owner
pub record MakesState (l : LockState) (d : RanOp) : Type 0 where
  pub under : MakesUnder l.number l.opened d
  pub by : IsBegunBy d l.number l.client l.owner

pub begun : (d : RanOp) → IsRun d → (l : LockState) → In l d.behind.store.opens.locks → MakesState l d ⊎ Was d.before.store.opens l
begun d r l there = elim (made d r l there) [
  | inl was ↦ inr was
  | inr m ↦ inl (record {
    under = m;
    by = record {
      wish = m.wish;
      locks = m.locks;
      new = m.owner;
      locker = m.new;
      named = sym (owned_behind d r l.number m.wish m.locks m.owner m.new l there refl);
      mine = sym (owned_client d r l.number m.wish m.locks l there refl);
    };
  })
]

-- and what it has stays
begins_as : (d : RanOp) (k l : LockState) → IsAs k l → MakesState k d → MakesState l d
begins_as d k l later b = record {
  under = subst (λ n. MakesUnder n l.opened d) later.number (subst (λ o. MakesUnder k.number o d) later.opened b.under);
  by = subst (λ n. IsBegunBy d n l.client l.owner) later.number
      (subst (λ c. IsBegunBy d k.number c l.owner) later.client (subst (IsBegunBy d k.number k.client) later.owner b.by));
}

abbrev pub begun_trace : Trace
begun_trace = record { Way = LockState; On = λ l t. In l t.locks; Grants = MakesState; Spares = λ d. Unit {0}; Leads = λ k ds l. IsAs k l }

pub begun_traced : IsTrace begun_trace
begun_traced = record {
  none = as_itself;
  step = λ l d done there. elim (begun d done.run l there) [
    | inl begins ↦ inl begins
    | inr was ↦ inr (record { had = was.0; stood = was.1; spared = tt; leads = λ last more later. as_both was.0 l last was.2 later })
  ];
  staying = λ l t stays there. (in_filter (λ (l : LockState). stays l.client) t.locks l there).0;
}

-- Each was begun in some record, or in the same compound.
pub begun_by : (start : Start) (records : List Arrival) (c : Arrival) (until : List RanOp) (d : RanOp) (behind : List RanOp)
    → ops_of (reached start records) c ≡ until ++ d ∷ behind → (l : LockState) → In l d.before.store.opens.locks
    → (first : RanOp) × (RunsIn (new_state start) records first ⊎ In first until) × MakesState l first
begun_by start = granted_in begun_trace begun_traced (λ d k l ds later. begins_as d k l later) start (λ l there. absurd there)

pub same_lock : (i : Item) (a b : Lock) → i ≡ Operation (Op.Lock a) → i ≡ Operation (Op.Lock b) → a ≡ b
same_lock i a b one two = let same : Operation (Op.Lock a) ≡ Operation (Op.Lock b) = sym one ∙ two in cc
