-- The run of a denial that is true, and the denials that are refused, computed.
use Rattle.std.proofs.Common.{◌≡◌, ◌⊎◌, ℕ, ◌+◌, ◌*◌, ◌≤◌, Bool, true, false, List, [], ◌∷◌, ◌++◌, length, take, get_or, Some, None, refl, sym, ◌∙◌, ap, subst, arith, inl, inr}
use Rattle.std.specs.Prelude.{◌^◌, ◌&&◌, filter}
use Rattle.nfs_xdr.specs.{Tables.In, Spelling.{number, hyper}}
use Rattle.nfs_xdr.proofs.Lists.{stays_in}
use Rattle.nfs_compound.specs.{declared.lock_args.Lock.Lock, declared.lock_args.Locker.TheVariants.OpenOwner}
use Rattle.nfs_compound.specs.{declared.lock_args.OpenToLockOwner.OpenToLockOwner, declared.op.Item.Item, declared.op.Item.TheVariants.Operation}
use Rattle.nfs_compound.specs.declared.op.Op.TheVariants as Op
use Rattle.nfs_compound.specs.declared.op_num.OpNum.TheVariants as Num
use Rattle.nfs_results.specs.declared.res.Denied as result
use Rattle.nfs_results.specs.declared.res.Res.TheVariants as Res
use Rattle.nfs_results.specs.Results.{spell_result, done_head}
use Rattle.nfs_opens.specs.declared.locking.Wish.{Wish}
use Rattle.nfs_files.specs.LockTold.{LockTold}
use Rattle.nfs_exec.specs.{Runs.LockHeld.LocksFor, Runs.Ops.RanOp}
use Rattle.nfs_exec.proofs.Runs.OneWalk.{in_back}
use Rattle.nfs_serve.specs.{Step.{ServerState, new_state}}
use Rattle.nfs_promises.specs.{Runs.{Requests.words, Started.usual, Points.{state_after, state_after_all, reached, taken, ops_of}}, Network.Endpoint.Arrival}
use Rattle.nfs_promises.specs.Locks.{LockKeptWorked.{earlier, locks, clashes, outset, asked, last_of}, Denials.{IsBegunBy, IsRefusedFor, ByLock, ByTest}}
use Rattle.nfs_promises.specs.Locks.{Denials.{byte_of, Grants}, NoIsTrue.{IsInLease, IsGrantedIn, IsGranted, Before, Within, IsTrue}, NoneOutlives.last_renewal}
use Rattle.nfs_promises.specs.Locks.NoIsTrueWorked.{before_clash, IsDeniedTruly, denies, blames_another, silence, asks_late, before_again, asks_again}
use Rattle.nfs_promises.specs.{Locks.NoIsTrueWorked.DenialsRefused, Bytes.ChangeTells.RunsIn}
use Rattle.nfs_promises.proofs.{Runs.{Computing.computing, LastOperation.{nothing, three}}, Locks.{LockKeptWorked.{says_ok, asking}, StatesBegun.same_lock}}
use Rattle.nfs_promises.proofs.Locks.Traced.{in_front}

-- A LOCK that granted something says NFS4_OK, and is among the operations of the records or of the compound.

abbrev is_lock : Item → Bool
is_lock (Operation (Op.Lock a)) = true
is_lock item = false

abbrev grants : RanOp → Bool
grants d = is_lock d.item && says_ok d.result

abbrev pub all_ops : ServerState → List Arrival → List RanOp
all_ops s [] = []
all_ops s (c ∷ more) = ops_of s c ++ all_ops (state_after s c) more

named_ok : (id : List ℕ) → says_ok (done_head Num.Lock ++ id) ≡ true
unfolding number
named_ok id = refl

it_grants : (k : LockTold) (owner : List ℕ) (d : RanOp) → Grants k owner d → grants d ≡ true
it_grants k owner d g =
    let l = g.tells.locks in
    ap (λ i. is_lock i && says_ok d.result) l.is ∙ (ap says_ok l.names.answers ∙ named_ok l.names.id)

pub in_records : (s : ServerState) (before : List Arrival) (c : Arrival) (more : List Arrival) (d : RanOp) → In d (ops_of (state_after_all s before) c) → In d (all_ops s (before ++ c ∷ more))
in_records s [] c more d there = in_front d (ops_of s c) (all_ops (state_after s c) more) there
in_records s (b ∷ before) c more d there = in_back d (ops_of s b) (all_ops (state_after s b) (before ++ c ∷ more)) (in_records (state_after s b) before c more d there)

abbrev granting : List RanOp → List RanOp
granting ds = filter grants ds

given_in : (k : LockTold) (owner : List ℕ) (records : List Arrival) (g : IsGrantedIn usual k owner records) → In g.lock (granting (all_ops (new_state usual) records))
given_in k owner records g =
    let there : In g.lock (ops_of (reached usual g.earlier) g.arrival) = subst (In g.lock) (sym g.ops) (in_back g.lock g.front (g.lock ∷ g.back) (inl refl)) in
    stays_in grants (all_ops (new_state usual) records) g.lock
    (subst (λ rs. In g.lock (all_ops (new_state usual) rs)) (sym g.all) (in_records (new_state usual) g.earlier g.arrival g.between g.lock there)) (it_grants k owner g.lock g.grants)

pub none_in : (ds : List RanOp) (d : RanOp) → length ds ≡ 0 → In d ds → ⊥
none_in [] d e there = there
none_in (x ∷ ds) d e there = absurd (omega (arith, e))

pub one_in : (ds : List RanOp) (x d : RanOp) → length ds ≡ 1 → In d ds → d ≡ last_of x ds
one_in [] x d e there = absurd there
one_in (y ∷ []) x d e (inl here) = here
one_in (y ∷ []) x d e (inr later) = absurd later
one_in (y ∷ z ∷ ds) x d e there = absurd (omega (arith, e))

-- none in the compound
not_within : (k : LockTold) (owner : List ℕ) (until front back : List RanOp) (lock : RanOp) → length (granting until) ≡ 0 → until ≡ front ++ lock ∷ back → Grants k owner lock → ⊥
not_within k owner until front back lock none same g =
    none_in (granting until) lock none (stays_in grants until lock (subst (In lock) (sym same) (in_back lock front (lock ∷ back) (inl refl))) (it_grants k owner lock g))

-- nobody locked
by_nobody : (k : LockTold) (owner : List ℕ) (records : List Arrival) (c : Arrival) (until : List RanOp) → length (granting (all_ops (new_state usual) records)) ≡ 0
    → length (granting until) ≡ 0 → IsGranted usual k owner records c until → ⊥
by_nobody k owner records c until none here (Before g lease spared) = none_in (granting (all_ops (new_state usual) records)) g.lock none (given_in k owner records g)
by_nobody k owner records c until none here (Within front lock back same g spared) = not_within k owner until front back lock here same g

-- one client did, once
record IsOnes (k : LockTold) (records : List Arrival) (c : Arrival) (client : ℕ) : Type 0 where
  pub its : k.client ≡ client
  pub lease : IsInLease usual k.client records c

by_one : (k : LockTold) (owner : List ℕ) (records : List Arrival) (c : Arrival) (until : List RanOp) (client : ℕ)
    → length (granting (all_ops (new_state usual) records)) ≡ 1 → (last_of nothing (granting (all_ops (new_state usual) records))).context.client ≡ client
    → length (granting until) ≡ 0 → IsGranted usual k owner records c until → IsOnes k records c client
by_one k owner records c until client one its here (Before g lease spared) = record {
  its = g.grants.tells.client
      ∙ (ap (λ (d : RanOp). d.context.client) (one_in (granting (all_ops (new_state usual) records)) nothing g.lock one (given_in k owner records g)) ∙ its);
  lease = lease;
}
by_one k owner records c until client one its here (Within front lock back same g spared) = absurd (not_within k owner until front back lock here same g)

pub late : (records : List Arrival) (c : Arrival) (client moment last : ℕ) → last_renewal client None (new_state usual) records ≡ Some last → taken (reached usual records) c ≡ moment
    → last + 91 ≤ moment → IsInLease usual client records c → ⊥
late records c client moment last renewed now past is =
    let one : last ≡ is.0 = (let same : Some last ≡ Some is.0 = sym renewed ∙ is.1 in cc) in
    let within = is.2 in absurd (omega (arith, now, past, within, one))

-- the client in the report of a LOCK
client_byte : (r : result.Denied) → get_or (spell_result (Res.LockDenied r)) 35 0 ≡ get_or (hyper r.owner.clientid) 7 0
unfolding computing
client_byte r = refl

pub is_denied_truly : IsDeniedTruly
unfolding computing
is_denied_truly = record {
  until = take 2 (ops_of asked clashes);
  lock = last_of nothing (ops_of asked clashes);
  ops = three nothing (ops_of asked clashes) refl;
  asks = refl;
  denied = refl;
}

blamed : 2 ≡ get_or blames_another 35 0
unfolding computing
blamed = refl

-- it is of the client that locked
another_client : (client : ℕ) → client ≡ 7 * 2 ^ 32 + 1 → 2 ≡ get_or (hyper client) 7 0 → ⊥
unfolding hyper
another_client client its e = let bad : ◌≡◌ {A = ℕ} 2 1 = e ∙ ap (λ client. get_or (hyper client) 7 0) its in absurd (omega arith)

not_another : (records : List Arrival) (c : Arrival) (until : List RanOp) (d : RanOp) → is_lock d.item ≡ true → length (granting (all_ops (new_state usual) records)) ≡ 1
    → (last_of nothing (granting (all_ops (new_state usual) records))).context.client ≡ 7 * 2 ^ 32 + 1 → length (granting until) ≡ 0
    → IsTrue usual records c until (denies blames_another d) → ⊥
not_another records c until d lock one its here t = go _ refl t.refused
  where
    ones : IsOnes (byte_of t.held t.held.first) records c (7 * 2 ^ 32 + 1)
    ones = by_one (byte_of t.held t.held.first) t.owner records c until (7 * 2 ^ 32 + 1) one its here (t.granted t.held.first (omega arith) t.clash.2)

    go : (r : result.Denied) → r.owner.clientid ≡ t.held.client → IsRefusedFor (denies blames_another d) t.wish r → ⊥
    go r mine (ByLock a is wish text) = another_client r.owner.clientid (mine ∙ ones.its) (blamed ∙ (ap (λ text. get_or text 35 0) text ∙ client_byte r))
    go r mine (ByTest a is wish text) = absurd (let bad : true ≡ false = sym lock ∙ ap is_lock is in cc)

-- It is not of the owner that asks.

abbrev again : Lock
again = record (asking 0) {
  locker = OpenOwner (record {
    open_seqid = 0;
    open_stateid = record { seqid = 1; other = words (7 ∷ 0 ∷ 1 ∷ []) };
    lock_seqid = 0;
    lock_owner = record { clientid = 0; owner = 0x6c ∷ [] };
  });
}

runs_ops : (s : ServerState) (records : List Arrival) (d : RanOp) → RunsIn s records d → In d (all_ops s records)
runs_ops s [] d there = there
runs_ops s (c ∷ more) d (inl here) = in_front d (ops_of s c) (all_ops (state_after s c) more) here
runs_ops s (c ∷ more) d (inr later) = in_back d (ops_of s c) (all_ops (state_after s c) more) (runs_ops (state_after s c) more d later)

told_grants : (d : RanOp) (n : ℕ) (w : Wish) → LocksFor d n w → grants d ≡ true
told_grants d n w l = ap (λ i. is_lock i && says_ok d.result) l.is ∙ (ap says_ok l.names.answers ∙ named_ok l.names.id)

-- which operation began the lock state
begun_by_one : (records : List Arrival) (until : List RanOp) (first : RanOp) (n client : ℕ) (owner : List ℕ) → length (granting (all_ops (new_state usual) records)) ≡ 1
    → length (granting until) ≡ 0 → RunsIn (new_state usual) records first ⊎ In first until → IsBegunBy first n client owner
    → first ≡ last_of nothing (granting (all_ops (new_state usual) records))
begun_by_one records until first n client owner one none (inl runs) b = one_in (granting (all_ops (new_state usual) records)) nothing first one
    (stays_in grants (all_ops (new_state usual) records) first (runs_ops (new_state usual) records first runs) (told_grants first n b.wish b.locks))
begun_by_one records until first n client owner one none (inr here) b =
    absurd (none_in (granting until) first none (stays_in grants until first here (told_grants first n b.wish b.locks)))

new_owner : (o p : OpenToLockOwner) → OpenOwner o ≡ OpenOwner p → o.lock_owner.owner ≡ p.lock_owner.owner
new_owner o p e = let same : o ≡ p = cc in ap (λ (o : OpenToLockOwner). o.lock_owner.owner) same

begun_owner : (first : RanOp) (n client : ℕ) (owner : List ℕ) (a : Lock) (o : OpenToLockOwner) → first.item ≡ Operation (Op.Lock a) → a.locker ≡ OpenOwner o
    → IsBegunBy first n client owner → owner ≡ o.lock_owner.owner
begun_owner first n client owner a o is new b =
    let locker : OpenOwner b.new ≡ OpenOwner o = sym b.locker ∙ (ap (λ (a : Lock). a.locker) (same_lock first.item b.locks.asked a b.locks.is is) ∙ new) in
    sym b.named ∙ new_owner b.new o locker

not_own : (records : List Arrival) (c : Arrival) (until : List RanOp) (d : RanOp) (result : List ℕ) (a b : Lock) (o p : OpenToLockOwner)
    → length (granting (all_ops (new_state usual) records)) ≡ 1
    → (last_of nothing (granting (all_ops (new_state usual) records))).context.client ≡ d.context.client
    → (last_of nothing (granting (all_ops (new_state usual) records))).item ≡ Operation (Op.Lock a) → a.locker ≡ OpenOwner o
    → d.item ≡ Operation (Op.Lock b) → b.locker ≡ OpenOwner p → o.lock_owner.owner ≡ p.lock_owner.owner → length (granting until) ≡ 0
    → IsTrue usual records c until (denies result d) → ⊥
not_own records c until d result a b o p one its is new asks by same none t =
    let ones = by_one (byte_of t.held t.held.first) t.owner records c until d.context.client one its none (t.granted t.held.first (omega arith) t.clash.2) in
    let first = begun_by_one records until t.begun.0 t.held.state t.held.client t.owner one none t.begun.1 t.begun.2 in
    let owner : t.owner ≡ o.lock_owner.owner = begun_owner t.begun.0 t.held.state t.held.client t.owner a o (ap (λ (d : RanOp). d.item) first ∙ is) new t.begun.2 in
    t.others.new b p asks by ones.its (owner ∙ same)

pub denials_refused : DenialsRefused
unfolding computing
denials_refused = record {
  nobody = λ d result t. by_nobody (byte_of t.held t.held.first) t.owner earlier locks (take 2 (ops_of outset locks)) refl refl
      (t.granted t.held.first (omega arith) t.clash.2);
  run_out = λ d result t.
      (let ones = by_one (byte_of t.held t.held.first) t.owner silence asks_late (take 2 (ops_of (reached usual silence) asks_late)) (7 * 2 ^ 32 + 1) refl refl refl
      (t.granted t.held.first (omega arith) t.clash.2) in
      late silence asks_late (7 * 2 ^ 32 + 1) 202 102 refl refl (omega arith) (subst (λ client. IsInLease usual client silence asks_late) ones.its ones.lease));
  another = λ d t. not_another before_clash clashes (take 2 (ops_of asked clashes)) (last_of d (ops_of asked clashes)) refl refl refl refl t;
  own = λ d result t. not_own before_again asks_again (take 1 (ops_of (reached usual before_again) asks_again)) (last_of d (ops_of (reached usual before_again) asks_again))
      result (asking 0) again _ _ refl refl refl refl refl refl refl refl t;
}
