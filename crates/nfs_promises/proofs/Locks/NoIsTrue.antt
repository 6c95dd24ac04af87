-- A no is true: what a LOCK or a LOCKT that is denied reports was granted before, and has not ended.
use Rattle.std.proofs.Common.{◌≡◌, not, Bool, ◌≢◌, ℕ, suc, ◌-◌, ◌<◌, ◌≤◌, true, false, List, [], ◌∷◌, ◌++◌, take, Some, None, refl, sym, ◌∙◌, ap, subst, arith, inl, inr}
use Rattle.std.proofs.{Common.{append_assoc, append-nil}, lemmas.Bool.{and_parts, false≢true, eq-eqb}}
use Rattle.std.specs.Prelude.{◌^◌, Ok}
use Rattle.nfs_xdr.specs.{Limits.opaque_limit, Tables.In, declared.status.Status.TheVariants.{Denied, RepTooBig}}
use Rattle.nfs_xdr.proofs.Tables.{in_once}
use Rattle.nfs_compound.specs.declared.lock_args.Lock as lock_args
use Rattle.nfs_compound.specs.declared.lock_args.LockT as test_args
use Rattle.nfs_compound.specs.declared.{lock_args.{Locker.TheVariants.{LockOwner, OpenOwner}, LockType.LockType}, op.Item.{Item, TheVariants.Operation}}
use Rattle.nfs_compound.specs.declared.op.Op.TheVariants as Op
use Rattle.nfs_results.specs.declared.res.Denied as result
use Rattle.nfs_results.specs.{declared.res.Res.Res, Results.spell_result}
use Rattle.nfs_ranges.specs.{declared.Held.Held, Told.{meets, told}}
use Rattle.nfs_opens.specs.{declared.locking.Wish.Wish, declared.records.LockState.LockState, Locking.clash}
use Rattle.nfs_opens.specs.{declared.stateid.CurrentSeqid.TheVariants.Any, declared.stateid.StateId.StateId, Table.{Table, lock_at}}
use Rattle.nfs_opens.proofs.LockLemmas.{clash_tells}
use Rattle.nfs_names.specs.State as of_store
use Rattle.nfs_names.specs.{declared.start.Start.Start, State.time_at, declared.context.Context.Context}
use Rattle.nfs_files.specs.{Denied.{lock_denied, type_of, size_of}, Lock.stateid_in, LockTold.LockTold, StateIds.meant}
use Rattle.nfs_files.proofs.Wishes.{IsRange, wish_is, wish_range}
use Rattle.nfs_exec.specs.Runs.Ops.{RanOp}
use Rattle.nfs_exec.proofs.Runs.OneRun.{IsRun, by_item}
use Rattle.nfs_serve.specs.Step.{new_state}
use Rattle.nfs_promises.specs.{Network.Endpoint.Arrival, Locks.Denials.{IsRefusedFor, ByLock, ByTest, IsBegunBy, IsOthers, asks_for_lock}}
use Rattle.nfs_promises.specs.Locks.{NoIsTrue.{IsInLease, Passes, AllPass, IsGrantedIn, IsGranted, Before, Within, NoIsTrue}, NoneOutlives.last_renewal}
use Rattle.nfs_promises.specs.Runs.Points.{reached, before, asked_by, ops_of}
use Rattle.nfs_promises.proofs.Locks.DenialsCaused.{WasDenied, IsLocker, IsTester, asker, is_denied, lock_was_denied, test_denied}
use Rattle.nfs_promises.proofs.Locks.{LockBeforeStep.{Holds, found_at}, ReplacedByRepeat.{lock_had, is_alone_by}, Traced.{Stood, Given, asked_until, so_before}}
use Rattle.nfs_promises.proofs.Locks.{LockTraced.{lock_trace, lock_traced}, OneStateEach.{HasOneEach, found_one, each_in}, StatesBegun.{same_lock, begun_by}}
use Rattle.nfs_promises.proofs.{Locks.NoneOutlives.none_outlives, Runs.{LaterRecords.{whole_at, op_done, first_there}, Points.{IsSound, sound_all, sound_new}}}

-- Records.

module _ (start : Start) (small : start.instance < 2 ^ 32) where
  -- while it is held, its client's lease lasts
  in_lease : (k : LockTold) (owner : List ℕ) (records : List Arrival) (c : Arrival) → Holds k owner (before (reached start records) c).store.opens
      → IsInLease start k.client records c
  in_lease k owner records c is =
      let t = (before (reached start records) c).store.opens in
      let time = none_outlives start records c k.file k.state k.first k.kind small is.held in
      let one : time.lock ≡ is.lock = in_once (λ (l : LockState). l.number) 1 (suc t.last) t.locks time.lock is.lock (whole_at start records c).table.locks time.there is.there
      (time.number ∙ sym is.number) in (
        time.last,
        subst (λ client. last_renewal client None (new_state start) records ≡ Some time.last) (ap (λ (l : LockState). l.client) one ∙ is.client) time.renewed,
        time.within,
      )

  pass_more : (k : LockTold) (records between : List Arrival) (c : Arrival) → AllPass start k records between
      → Passes start k (records ++ between) c → AllPass start k records (between ++ c ∷ [])
  pass_more k records [] c all passes = (subst (λ rs. Passes start k rs c) (append-nil records) passes, tt)
  pass_more k records (b ∷ between) c all passes = (
    all.0,
    pass_more k (records ++ b ∷ []) between c all.1 (subst (λ rs. Passes start k rs c) (sym (append_assoc records (b ∷ []) between)) passes),
  )

  one_more : (k : LockTold) (owner : List ℕ) (records : List Arrival) (c : Arrival) → IsGrantedIn start k owner records
      → Passes start k records c → IsGrantedIn start k owner (records ++ c ∷ [])
  one_more k owner records c g passes = record {
    earlier = g.earlier;
    arrival = g.arrival;
    between = g.between ++ c ∷ [];
    all = ap (λ rs. rs ++ c ∷ []) g.all ∙ append_assoc g.earlier (g.arrival ∷ g.between) (c ∷ []);
    front = g.front;
    lock = g.lock;
    back = g.back;
    ops = g.ops;
    grants = g.grants;
    spared = g.spared;
    passed = pass_more k (g.earlier ++ g.arrival ∷ []) g.between c g.passed
        (subst (λ rs. Passes start k rs c) (g.all ∙ sym (append_assoc g.earlier (g.arrival ∷ []) g.between)) passes);
  }

  -- each byte that is held before a record was granted in one before
  granted_before : (k : LockTold) (owner : List ℕ) → k.last ≡ k.first → (records : List Arrival) (c : Arrival) → Holds k owner (before (reached start records) c).store.opens
      → IsGrantedIn start k owner records
  granted_before k owner one records c = so_before (lock_trace k owner) (lock_traced k owner one) start (λ w is. absurd is.there) (λ records w. IsGrantedIn start k owner records)
      (λ records c front lock back asked w same grants spared leads. record {
        earlier = records;
        arrival = c;
        between = [];
        all = refl;
        front = front;
        lock = lock;
        back = back;
        ops = same;
        grants = grants;
        spared = spared;
        passed = tt;
      })
      (λ records c had w since holds spared leads here. one_more k owner records c since
      (record { lasts = in_lease k owner records c holds; spared = spared; alone = is_alone_by k.client (Holds k owner) (lock_had k owner one) start small records c here }))
      records c tt

  -- and so was each that is held before an operation
  granted : (k : LockTold) (owner : List ℕ) → k.last ≡ k.first → (records : List Arrival) (c : Arrival) (until : List RanOp) (d : RanOp) (behind : List RanOp)
      → ops_of (reached start records) c ≡ until ++ d ∷ behind → Holds k owner d.before.store.opens → IsGranted start k owner records c until
  granted k owner one records c until d behind same is =
      let s = reached start records in
      elim (asked_until (lock_trace k owner) (lock_traced k owner one) tt (before s c) (asked_by s c) until d behind (whole_at start records c) same is) [
        | Given front lock back asked at grants spared leads ↦ Within front lock back at grants spared
        | Stood had holds spared leads ↦ Before (granted_before k owner one records c holds) (in_lease k owner records c holds) spared
      ]

-- What was told of the clash.

none_told : (t : Table) (n : ℕ) (w : Wish) (h : Held) → suc w.last - w.first ≡ 0 → clash t n w ≡ Some h → ⊥
unfolding told
none_told t n w h empty e = let bad : None ≡ Some h = rw empty at e in absurd cc

abbrev report : Held → LockState → result.Denied
report h l = record {
  offset = h.first;
  length = size_of h;
  locktype = type_of h.kind;
  owner = record { clientid = l.client; owner = take opaque_limit l.owner };
}

report_of : (t : Table) (h : Held) (l : LockState) → lock_at t h.owner ≡ Some l → lock_denied t h ≡ report h l
unfolding lock_denied
report_of t h l found = rw found refl

-- The lock that is reported is not of whoever asks.

abbrev is_locking : Item → Bool
is_locking (Operation (Op.Lock a)) = true
is_locking item = false

-- what a LOCK or a LOCKT that was denied found
record Found (d : RanOp) : Type 0 where
  pub wish : Wish
  pub held : Held
  pub number : ℕ
  pub met : clash d.before.store.opens number wish ≡ Some held
  pub range : (wish.first ≤ wish.last) × (wish.last < 2 ^ 64)
  pub refused : IsRefusedFor d wish (lock_denied d.before.store.opens held)
  pub others : HasOneEach d.before.store.opens → (l : LockState) → In l d.before.store.opens.locks → l.file ≡ wish.file → l.number ≢ number
      → IsOthers d l.number l.client l.owner

-- a wish that meets a lock has a byte
has_byte : (t : Table) (n : ℕ) (w : Wish) (h : Held) → IsRange w.first w.last → clash t n w ≡ Some h → (w.first ≤ w.last) × (w.last < 2 ^ 64)
has_byte t n w h (inl some) e = some
has_byte t n w h (inr empty) e = absurd (none_told t n w h (let below = empty.0 in omega (arith, below)) e)

lock_others : (d : RanOp) (a : lock_args.Lock) (w : Wish) (n : ℕ) → d.item ≡ Operation (Op.Lock a) → w.client ≡ d.context.client
    → IsLocker d.before.store d.context a w n → HasOneEach d.before.store.opens → (l : LockState) → In l d.before.store.opens.locks → l.file ≡ w.file → l.number ≢ n
    → IsOthers d l.number l.client l.owner
lock_others d a w n is asks whose each l there on other = record {
  named = λ b o id item locker means same.
      (let at : a.locker ≡ LockOwner o = ap (λ (a : lock_args.Lock). a.locker) (same_lock d.item a b is item) ∙ locker in
      let one : whose.0 ≡ id = (let found : Ok whose.0 ≡ Ok id = sym whose.1 ∙ (ap (λ k. meant d.context Any (stateid_in k)) at ∙ means) in cc) in
      other (sym same ∙ (ap (λ (i : StateId). i.number) (sym one) ∙ sym (whose.2 ∙ ap (λ k. asker d.before.store.opens k whose.0 w) at))));
  new = λ b o item locker mine its.
      (let at : a.locker ≡ OpenOwner o = ap (λ (a : lock_args.Lock). a.locker) (same_lock d.item a b is item) ∙ locker in
      other (found_one d.before.store.opens each w.client o.lock_owner.owner w.file l there (mine ∙ sym asks) its on
      ∙ sym (whose.2 ∙ ap (λ k. asker d.before.store.opens k whose.0 w) at)));
  tested = λ b item mine its. let bad : true ≡ false = ap is_locking (sym is ∙ item) in absurd cc;
}

same_test : (i : Item) (a b : test_args.LockT) → i ≡ Operation (Op.LockT a) → i ≡ Operation (Op.LockT b) → a ≡ b
same_test i a b one two = let same : Operation (Op.LockT a) ≡ Operation (Op.LockT b) = sym one ∙ two in cc

test_others : (d : RanOp) (a : test_args.LockT) (w : Wish) (n : ℕ) → d.item ≡ Operation (Op.LockT a) → w.client ≡ d.context.client
    → IsTester d.before.store d.context a w n → HasOneEach d.before.store.opens → (l : LockState) → In l d.before.store.opens.locks → l.file ≡ w.file → l.number ≢ n
    → IsOthers d l.number l.client l.owner
test_others d a w n is asks whose each l there on other = record {
  named = λ b o id item locker means same. let bad : true ≡ false = ap is_locking (sym item ∙ is) in absurd cc;
  new = λ b o item locker mine its. let bad : true ≡ false = ap is_locking (sym item ∙ is) in absurd cc;
  tested = λ b item mine its.
      (let name : l.owner ≡ a.owner.owner = its ∙ ap (λ (a : test_args.LockT). a.owner.owner) (same_test d.item b a item is) in
      other (found_one d.before.store.opens each w.client a.owner.owner w.file l there (mine ∙ sym asks) name on ∙ sym whose));
}

record Reported (s : of_store.State) (x : Context) (how : LockType) (offset size : ℕ) (text : List ℕ) (reports : result.Denied → Res) (IsAsker : Wish → ℕ → Type 0)
    : Type 0 where
  pub was : (r : Res) × (text ≡ spell_result r) × WasDenied s x how offset size r reports IsAsker

lock_found : (d : RanOp) → IsRun d → (a : lock_args.Lock) → d.item ≡ Operation (Op.Lock a) → d.status ≡ Denied → Found d
lock_found d r a is status =
    let s = d.before.store in
    let x = d.context in
    let (answer, text, did) = (by_item (λ status text u. status ≡ Denied → Reported s x a.locktype a.offset a.length text Res.LockDenied (IsLocker s x a)) d r (Operation (Op.Lock a)) is
    (λ e. let bad : RepTooBig ≡ Denied = e in absurd cc)
    (λ e. record { was = (_, refl, lock_was_denied s r.whole x (time_at s r.now) r.refused a (ap is_denied e)) }) status).was in
    record {
      wish = did.wish;
      held = did.held;
      number = did.number;
      met = did.clash;
      range = has_byte s.opens did.number did.wish did.held (wish_range s x a.locktype a.offset a.length did.wish did.asks) did.clash;
      refused = ByLock a is did.asks (text ∙ ap spell_result did.answers);
      others = lock_others d a did.wish did.number is (wish_is s x a.locktype a.offset a.length did.wish did.asks).client did.whose;
    }

test_found : (d : RanOp) → IsRun d → (a : test_args.LockT) → d.item ≡ Operation (Op.LockT a) → d.status ≡ Denied → Found d
test_found d r a is status =
    let s = d.before.store in
    let x = d.context in
    let (answer, text, did) = (by_item (λ status text u. status ≡ Denied → Reported s x a.locktype a.offset a.length text Res.LockTDenied (IsTester s x a)) d r (Operation (Op.LockT a)) is
    (λ e. let bad : RepTooBig ≡ Denied = e in absurd cc)
    (λ e. record { was = (_, refl, test_denied s r.whole x (time_at s r.now) r.refused a (ap is_denied e)) }) status).was in
    record {
      wish = did.wish;
      held = did.held;
      number = did.number;
      met = did.clash;
      range = has_byte s.opens did.number did.wish did.held (wish_range s x a.locktype a.offset a.length did.wish did.asks) did.clash;
      refused = ByTest a is did.asks (text ∙ ap spell_result did.answers);
      others = test_others d a did.wish did.number is (wish_is s x a.locktype a.offset a.length did.wish did.asks).client did.whose;
    }

found_by : (d : RanOp) → IsRun d → (i : Item) → d.item ≡ i → asks_for_lock i ≡ true → d.status ≡ Denied → Found d
found_by d r (Operation (Op.Lock a)) is asks status = lock_found d r a is status
found_by d r (Operation (Op.LockT a)) is asks status = test_found d r a is status
found_by d r i is asks status = absurd (false≢true asks)

pub no_is_true : NoIsTrue
no_is_true start records c until d behind small same asks status =
    let s = reached start records in
    let sound : IsSound s = sound_all (new_state start) records (sound_new start) in
    let r = (op_done s c sound d (first_there s c until d behind same)).run in
    let f = found_by d r d.item refl asks status in
    let t = d.before.store.opens in
    let each : HasOneEach t = each_in start records c d (first_there s c until d behind same) in
    let w = f.wish in
    let h = f.held in
    let (b, told) = clash_tells t w.file f.number w.kind w.first w.last (Some h) r.whole.table f.range.0 f.range.1 f.met in
    let held : t.held w.file h.owner b ≡ Some h.kind = told.held b told.round.0 told.round.1 in
    let (l, here) = r.whole.table.holders w.file h.owner b (λ none. let bad : Some h.kind ≡ None = sym held ∙ none in cc) in
    record {
      wish = w;
      held = record { state = h.owner; client = l.client; opened = l.opened; file = w.file; kind = h.kind; first = h.first; last = h.last };
      owner = l.owner;
      refused = subst (IsRefusedFor d w) (report_of t h l (found_at t l h.owner r.whole.table here.stands here.number)) f.refused;
      file = refl;
      others = subst (λ n. IsOthers d n l.client l.owner) here.number (f.others each l here.stands here.file (λ same. false≢true
          (sym (ap not (eq-eqb h.owner f.number (sym here.number ∙ same))) ∙ (and_parts _ _ told.clash).0)));
      begun = (let b = begun_by start records c until d behind same l here.stands in
          (b.0, b.1, subst (λ n. IsBegunBy b.0 n l.client l.owner) here.number b.2.by));
      clash = (
        (let within = told.within in let round = told.round in omega (arith, within.0, round.1)),
        (let within = told.within in let round = told.round in omega (arith, within.1, round.0)),
        (let round = told.round in omega (arith, round.0, round.1)),
      );
      kinds = ap (meets w.kind) (sym held) ∙ (and_parts _ _ told.clash).1;
      granted = λ byte lo hi. granted start small
          (record { state = h.owner; client = l.client; opened = l.opened; file = w.file; kind = h.kind; first = byte; last = byte }) l.owner refl records c until d behind same
          (record { lock = l; there = here.stands; number = here.number; client = refl; opened = refl; owner = refl; held = told.held byte lo hi });
    }
