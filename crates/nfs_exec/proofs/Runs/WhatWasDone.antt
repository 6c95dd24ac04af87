-- What clients asked and were answered, against the inside of the operations that were run.
use Rattle.std.proofs.Common.{◌≡◌, ℕ, ◌+◌, ◌≤◌, Bool, true, false, List, [], ◌∷◌, length, Option, Some, None, refl, sym, ◌∙◌, ap, subst, inl, inr, arith}
use Rattle.std.proofs.lemmas.Bool.{cases_Bool, eq-eqb, eqb-true}
use Rattle.std.specs.{Prelude.{◌==◌, option_map, find}, Option.option_map_or}
use Rattle.nfs_xdr.specs.{Tables.In, declared.status.Status.Status, declared.status.Status.TheVariants.RepTooBig}
use Rattle.nfs_xdr.proofs.Lists.{find_in}
use Rattle.nfs_compound.specs.declared.lock_args.Lock as args
use Rattle.nfs_compound.specs.declared.op_num.OpNum.TheVariants as Num
use Rattle.nfs_compound.specs.{declared.op.Op.Op, declared.op.Item.Item, declared.op.Item.TheVariants.Operation, declared.session_args.Sequence.Sequence}
use Rattle.nfs_sessions.specs.Id.{id_of}
use Rattle.nfs_opens.specs.{declared.locking.Wish.Wish, declared.records.LockState.LockState, Table.{Table, lock_at}}
use Rattle.nfs_names.specs.{declared.context.Context.Context, Context.begins, State.time_at, Outcome.is_ok}
use Rattle.nfs_names.proofs.Untouched.{leaves_each}
use Rattle.nfs_files.proofs.{Outcomes.for_each, Inside.{Locks, Unlocks, Closes}, Effected.same_client}
use Rattle.nfs_files.proofs.ToldGrants.{IsTold, IsToldClosed, lock_tells, unlock_tells, close_tells, lock_grants_told, lock_refused, told_held, told_is_ok, told_client}
use Rattle.nfs_files.specs.LockTold.{Names, LockTold, Stands}
use Rattle.nfs_files.proofs.Inside as inside
use Rattle.nfs_files.proofs.ToldLocks as told
use Rattle.nfs_exec.specs.{Step.Machine.Machine, Step.Behind.{step, otherwise}, Step.Run.{in_room, is_here, behind_here}}
use Rattle.nfs_exec.specs.{Step.Compound.{renewed, begun}, Step.Laws.{MachineEvent, Expires, Asks, ran}, Runs.Ops.{RanOp, ops, ops_by}}
use Rattle.nfs_exec.specs.Runs.LockHeld.{LocksFor, UnlocksFor, ClosesOf, Spares, Tells, is_of, renews}
use Rattle.nfs_exec.proofs.{Step.Behind.by_step, Runs.ByEvent.by_compound, Runs.OneRun.by_item, Runs.KeptByRuns.{Is, whole_room, in_more, event_ops}}
pub use Rattle.nfs_exec.proofs.Runs.OneRun.{IsRun, in_room_is, by_ok}

-- One LOCK, LOCKU or CLOSE.

told_lock : (d : RanOp) → IsRun d → (op : Op) (n : ℕ) (w : Wish) → d.item ≡ Operation op → is_ok d.status ≡ true → Locks d.before.store d.context op n w → LocksFor d n w
told_lock d r op n w item ok locks =
    let a = locks.asked in
    let is : d.item ≡ Operation (Op.Lock a) = item ∙ ap Operation locks.is in
    let told = by_ok (λ text s. IsTold Num.Lock d.before.store d.context a.locktype a.offset a.length text n w) d r (Operation (Op.Lock a)) is ok
    (λ ok. lock_tells d.before.store d.context (time_at d.before.store r.now) r.refused a n w r.whole.table r.whole.few
    (subst (λ op. Locks d.before.store d.context op n w) locks.is locks) ok) in
    record { asked = a; is = is; wish = told.wish; names = told.names }

told_unlock : (d : RanOp) → IsRun d → (op : Op) (n : ℕ) (w : Wish) → d.item ≡ Operation op → is_ok d.status ≡ true → Unlocks d.before.store d.context op n w
    → UnlocksFor d n w
told_unlock d r op n w item ok unlocks =
    let a = unlocks.asked in
    let is : d.item ≡ Operation (Op.LockU a) = item ∙ ap Operation unlocks.is in
    let told = by_ok (λ text s. IsTold Num.LockU d.before.store d.context a.locktype a.offset a.length text n w) d r (Operation (Op.LockU a)) is ok
    (λ ok. unlock_tells d.before.store d.context (time_at d.before.store r.now) r.refused a n w r.whole.table r.whole.few
    (subst (λ op. Unlocks d.before.store d.context op n w) unlocks.is unlocks) ok) in
    record { asked = a; is = is; wish = told.wish; names = told.names }

pub told_close : (d : RanOp) → IsRun d → (op : Op) (n : ℕ) → d.item ≡ Operation op → is_ok d.status ≡ true → Closes d.before.store d.context op n → ClosesOf d n
told_close d r op n item ok closes =
    let a = closes.asked in
    let is : d.item ≡ Operation (Op.Close a) = item ∙ ap Operation closes.is in
    let told = by_ok (λ text s. IsToldClosed d.context a text n) d r (Operation (Op.Close a)) is ok
    (λ ok. close_tells d.before.store d.context (time_at d.before.store r.now) r.refused a n (subst (λ op. Closes d.before.store d.context op n) closes.is closes) ok) in
    record { asked = a; id = told.id; is = is; means = told.meant; opened = told.opened; names = told.names }

-- what a LOCK did that was told
pub record DidLock (d : RanOp) (status : Status) (left : Table) (a : args.Lock) (n : ℕ) (w : Wish) : Type 0 where
  pub locks : Locks d.before.store d.context (Op.Lock a) n w
  pub ok : is_ok status ≡ true
  pub client : (l : LockState) → In l left.locks → l.number ≡ n → l.client ≡ d.context.client

pub did_lock : (d : RanOp) (r : IsRun d) (n : ℕ) (w : Wish) (l : LocksFor d n w) → DidLock d d.status d.behind.store.opens l.asked n w
did_lock d r n w l =
    by_item (λ status text s. Names Num.Lock text n → DidLock d status s.opens l.asked n w) d r (Operation (Op.Lock l.asked)) l.is
    (λ told. absurd (lock_refused RepTooBig n told)) (λ told. record {
      locks = lock_grants_told d.before.store d.context (time_at d.before.store r.now) r.refused l.asked n w r.whole.table r.whole.few l.wish told;
      ok = told_is_ok d.before.store d.context (time_at d.before.store r.now) r.refused l.asked n w r.whole.table r.whole.few l.wish told;
      client = told_client d.before.store d.context (time_at d.before.store r.now) r.refused l.asked n w r.whole.table r.whole.few l.wish told;
    }) l.names

-- what spares a lock by what was answered spares it from the inside
pub spared_inside : (k : LockTold) (d : RanOp) → IsRun d → Spares k d → (op : Op) → d.item ≡ Operation op → is_ok d.status ≡ true
    → inside.Spares k d.before.store d.context op
spared_inside k d r spares op item ok = record {
  locks = λ n w locks same. spares.locks w (subst (λ n. LocksFor d n w) same (told_lock d r op n w item ok locks));
  unlocks = λ n w unlocks same. spares.unlocks w (subst (λ n. UnlocksFor d n w) same (told_unlock d r op n w item ok unlocks));
  closes = λ n closes same. spares.closes (subst (ClosesOf d) same (told_close d r op n item ok closes));
}

mapped_some : (o : Option LockState) (n : ℕ) → option_map (λ (l : LockState). l.opened) o ≡ Some n → (l : LockState) × (o ≡ Some l) × (n ≡ l.opened)
mapped_some None n e = (let bad : None ≡ Some n = e in absurd cc)
mapped_some (Some l) n e = (let same : Some l.opened ≡ Some n = e in (l, refl, cc))

-- what a LOCK told stands behind it
pub told_stands : (k : LockTold) (d : RanOp) → IsRun d → Tells k d → Stands k d.behind.store.opens
told_stands k d r tells =
    let l = tells.locks in
    let did = did_lock d r k.state tells.wish l in
    let t : Table = d.behind.store.opens in
    let (lock, stands, opened) = mapped_some (lock_at t k.state) k.opened tells.opened in
    let found = find_in (λ (l : LockState). l.number == k.state) t.locks lock stands in
    by_ok (λ text s. inside.Tells k d.before.store d.context (Op.Lock l.asked) s.opens → Stands k s.opens) d r (Operation (Op.Lock l.asked)) l.is did.ok
    (λ ok tells. told.told_stands k d.before.store d.context (time_at d.before.store r.now) r.refused (Op.Lock l.asked) ok tells) (record {
      wish = tells.wish;
      lock = lock;
      locks = did.locks;
      range = tells.range;
      kind = tells.kind;
      file = tells.file;
      stands = stands;
      client = tells.client ∙ sym (did.client lock found.0 (eqb-true _ _ found.1));
      opened = opened;
    })

-- What an event runs.

pub ops_run : (limit sofar now : ℕ) (choice : Option ℕ) (m : Machine) (x : Context) (items : List Item) → Is m
    → (d : RanOp) → In d (ops limit sofar now choice m x items) → IsRun d
ops_run limit sofar now choice m x [] is d there = absurd there
ops_run limit sofar now choice m x (i ∷ more) is d there =
    let s = in_room limit sofar now (is_here choice) m x i in
    let next = sofar + length s.outcome.result in
    elim there [
      | inl here ↦ subst IsRun (sym here) (record { limit = limit; sofar = sofar; now = now; refused = is_here choice; whole = is; is = refl })
      | inr later ↦ ops_run limit next now (behind_here choice) s.outcome.machine s.context more (whole_room limit sofar now (is_here choice) m x i is) d
          (in_more (is_ok s.outcome.status) d (ops limit next now (behind_here choice) s.outcome.machine s.context more) later)
    ]

-- they run for one client

step_client : (m : Machine) (x : Context) (now : ℕ) (refused : Bool) (i : Item) → Is m → (step m x now refused i).context.client ≡ x.client
step_client m x now refused i is =
    by_step (λ s. s.context.client ≡ x.client) m x now refused i (λ o e. (leaves_each refused m.store x (time_at m.store now) i o e).client)
    (for_each (λ o. o.context.client ≡ x.client) refused m.store x (time_at m.store now) i (same_client refused m.store x (time_at m.store now) i))
    (λ none other. by_item i)
  where
    by_item : (i : Item) → (otherwise m x i).context.client ≡ x.client
    by_item (Operation (Op.ReclaimComplete one)) = refl
    by_item i = refl

room_client : (limit sofar now : ℕ) (refused : Bool) (m : Machine) (x : Context) (i : Item) → Is m
    → (in_room limit sofar now refused m x i).context.client ≡ x.client
room_client limit sofar now refused m x i is =
    in_room_is (λ s. s.context.client ≡ x.client) limit sofar now refused m x i refl (step_client m x now refused i is)

ops_client : (limit sofar now : ℕ) (choice : Option ℕ) (m : Machine) (x : Context) (items : List Item) → Is m
    → (d : RanOp) → In d (ops limit sofar now choice m x items) → d.context.client ≡ x.client
ops_client limit sofar now choice m x [] is d there = absurd there
ops_client limit sofar now choice m x (i ∷ more) is d there =
    let s = in_room limit sofar now (is_here choice) m x i in
    let next = sofar + length s.outcome.result in
    elim there [
      | inl here ↦ ap (λ (d : RanOp). d.context.client) here
      | inr later ↦ ops_client limit next now (behind_here choice) s.outcome.machine s.context more (whole_room limit sofar now (is_here choice) m x i is) d
          (in_more (is_ok s.outcome.status) d (ops limit next now (behind_here choice) s.outcome.machine s.context more) later)
          ∙ room_client limit sofar now (is_here choice) m x i is
    ]

-- that an event ran an operation: it was run, for the client of the session whose SEQUENCE the event runs behind
pub record IsRunBy (d : RanOp) (s : Option Sequence) : Type 0 where
  pub run : IsRun d
  pub of : option_map_or (is_of d.context.client) s false ≡ true

pub event_run : (m : Machine) (e : MachineEvent) → Is m → (d : RanOp) → In d (ops_by m e) → IsRun d × (renews d.context.client m e ≡ true)
event_run m (Expires now) is d there = absurd there
event_run m (Asks r who size now choice) is d there = (let it = each there in (it.run, it.of))
  where
    each : In d (ops_by m (Asks r who size now choice)) → IsRunBy d (ran m (Asks r who size now choice))
    each = by_compound (λ left ds run. In d ds → IsRunBy d run) m r who size now choice (λ there. absurd there) (λ item there. absurd there) (λ s more c same there.
        (let x = begins (id_of s.sessionid).client who in record {
          run = ops_run c.maxresponsesize (begun r s c) now (behind_here choice) (renewed m now s) x more is d there;
          of = eq-eqb (id_of s.sessionid).client d.context.client
              (sym (ops_client c.maxresponsesize (begun r s c) now (behind_here choice) (renewed m now s) x more is d there));
        }))

-- A LOCK that was told leaves a lock state, under some open.

found_open : (n : ℕ) (locks : List LockState) (l : LockState) → In l locks → l.number ≡ n
    → (opened : ℕ) × (option_map (λ (l : LockState). l.opened) (find (λ (l : LockState). l.number == n) locks) ≡ Some opened)
found_open n [] l there number = absurd there
found_open n (k ∷ more) l there number = elim (cases_Bool (k.number == n)) [
  | inl here ↦ (k.opened, rw here refl)
  | inr other ↦ elim there [
    | inl same ↦ absurd (let bad : true ≡ false = sym (eq-eqb k.number n (sym (ap (λ (l : LockState). l.number) same) ∙ number)) ∙ other in cc)
    | inr later ↦ (let rest = found_open n more l later number in (rest.0, rw other rest.1))
  ]
]

pub told_there : (d : RanOp) → IsRun d → Is d.behind → (n : ℕ) (w : Wish) → LocksFor d n w → w.first ≤ w.last
    → (l : LockState) × In l d.behind.store.opens.locks × (l.number ≡ n)
told_there d r behind n w l some =
    let t : Table = d.behind.store.opens in
    let now : t.held w.file n w.first ≡ Some w.kind =
    by_item (λ status text s. Names Num.Lock text n → s.opens.held w.file n w.first ≡ Some w.kind) d r (Operation (Op.Lock l.asked)) l.is
    (λ told. absurd (lock_refused RepTooBig n told))
    (λ told. told_held d.before.store d.context (time_at d.before.store r.now) r.refused l.asked n w r.whole.table r.whole.few l.wish told w.first (omega arith) some) l.names in
    let (k, holder) = behind.table.holders w.file n w.first (λ none. let bad : Some w.kind ≡ None = sym now ∙ none in cc) in
    (k, holder.stands, holder.number)

pub told_state : (d : RanOp) → IsRun d → Is d.behind → (n : ℕ) (w : Wish) → LocksFor d n w → w.first ≤ w.last
    → (opened : ℕ) × (option_map (λ (l : LockState). l.opened) (lock_at d.behind.store.opens n) ≡ Some opened)
told_state d r behind n w l some =
    let there = told_there d r behind n w l some in
    found_open n d.behind.store.opens.locks there.0 there.1 there.2

pub event_state : (m : Machine) (e : MachineEvent) → Is m → (d : RanOp) → In d (ops_by m e) → (n : ℕ) (w : Wish) → LocksFor d n w → w.first ≤ w.last
    → (opened : ℕ) × (option_map (λ (l : LockState). l.opened) (lock_at d.behind.store.opens n) ≡ Some opened)
event_state m e is d there = told_state d (event_run m e is d there).0 (event_ops m e is d there).1
