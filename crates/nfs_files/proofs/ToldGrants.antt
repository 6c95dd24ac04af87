-- A LOCK, LOCKU or CLOSE is granted where it answers NFS4_OK and a stateid, and answers so where it is granted; the stateid of LOCK and of LOCKU
-- names the lock state.
use Rattle.std.proofs.Common.{◌≡◌, ◌⊎◌, ℕ, suc, ◌+◌, ◌≤◌, Bool, true, false, cond, List, ◌++◌, length, drop, get_or, refl, sym, ◌∙◌, ap, subst, arith, inl, inr}
use Rattle.std.proofs.{lemmas.Bool.{cases_Bool, eqb-true, eqb-false}, lemmas.List.{drop_at, length-append}, lemmas.Nat.from_be_bytes-to_be_bytes_8}
use Rattle.std.specs.{Prelude.{◌==◌, ◌&&◌, Result, Ok, Err}, Int.{w64, from_be_bytes}}
use Rattle.nfs_xdr.specs.{Tables.In, Spelling.{number, hyper}, declared.time.Time.Time, declared.status.Status.Status}
use Rattle.nfs_xdr.specs.declared.status.Status.TheVariants.{Nfs4Ok, Delay}
use Rattle.nfs_xdr.proofs.{Lists.{find_in, in_map, in_push}, Tables.{in_bounds, in_once}}
use Rattle.nfs_compound.specs.{declared.lock_args.Lock.Lock, declared.lock_args.Locker.Locker, Stateid.stateid, declared.lock_args.LockU.LockU}
use Rattle.nfs_compound.specs.{declared.lock_args.LockType.LockType, declared.open_args.Close.Close, declared.op_num.OpNum.OpNum, OpNum.op_number}
use Rattle.nfs_compound.specs.declared.op_num.OpNum.TheVariants as Num
use Rattle.nfs_compound.specs.declared.op.Op.TheVariants as Op
use Rattle.nfs_results.specs.declared.res.Denied as result
use Rattle.nfs_results.specs.{declared.res.Res.Res, Results.{spell_result, refusal, done_head, status_of_result}}
use Rattle.nfs_results.proofs.Lengths.{length_head, length_spelled}
use Rattle.nfs_opens.specs.{declared.stateid.StateId.StateId, declared.stateid.CurrentSeqid.TheVariants.Own, declared.records.LockState.LockState}
use Rattle.nfs_opens.specs.{declared.locking.Wish.Wish, declared.locking.OpenFault.OpenFault, StateId.last_number, Table.Table, TableInvariants.IsTable}
use Rattle.nfs_opens.specs.Locking.{raised}
use Rattle.nfs_opens.specs.declared.locking.OpenFault.TheVariants as F
use Rattle.nfs_opens.specs.Closing as closing
use Rattle.nfs_opens.specs.Locking as locking
use Rattle.nfs_opens.proofs.CallLaws.{first_state, IsLocked, IsUnlocked, unlocked_is}
use Rattle.nfs_files.proofs.{OpensMoved.lock_is, Wishes.{wish_is, lock_wish, unlock_wish}, Outcomes.{one, one_or_delay}}
use Rattle.nfs_files.proofs.{Inside.{Locks, Unlocks, Closes}, KeptOps.{lock_ok, clashing}, ToldLocks.{granted_held, left_by}, Steady.Few}
use Rattle.nfs_names.specs.{declared.context.Context.Context, State.State, Outcome.{Outcome, answers, mapped, is_ok, or_lack, lacks}}
use Rattle.nfs_names.proofs.Found.{came, ok_is}
use Rattle.nfs_files.specs.{declared.ranges.Wished.Wished, declared.target.Target.Target, StateIds.{wire_id, meant}, Target.the_file, Parts.target}
use Rattle.nfs_files.specs.{Ranges.wished, Operation.grows, Close.{spent}, Parts.{wish, closes, closed, unlocking, unlocked, unlocks}}
use Rattle.nfs_files.specs.{LockTold.{Names, LockTold}, Laws.{ClashesAreRefused, ToldLocksAreHeld}}
use Rattle.nfs_files.specs.Parts as parts
use Rattle.nfs_files.specs.Lock as of_lock
use Rattle.nfs_files.proofs.InSteps as in_steps

-- The spelling of a stateid behind NFS4_OK.

abbrev id_text : StateId → List ℕ
id_text k = number k.seqid ++ (number k.instance ++ hyper k.number)

lock_spelled : (k : StateId) → spell_result (Res.Lock (wire_id k)) ≡ done_head Num.Lock ++ id_text k
unfolding number hyper stateid
lock_spelled k = refl

unlock_spelled : (k : StateId) → spell_result (Res.LockU (wire_id k)) ≡ done_head Num.LockU ++ id_text k
unfolding number hyper stateid
unlock_spelled k = refl

text_long : (k : StateId) → length (id_text k) ≡ 16
unfolding number hyper
text_long k = refl

text_number : (k : StateId) → k.number ≤ last_number → from_be_bytes w64 (drop 8 (id_text k)) ≡ k.number
unfolding number hyper
text_number k small = from_be_bytes-to_be_bytes_8 k.number (omega arith)

names_text : (op : OpNum) (text : List ℕ) (k : StateId) → text ≡ done_head op ++ id_text k → k.number ≤ last_number → Names op text k.number
names_text op text k is small = record { id = id_text k; answers = is; long = text_long k; number = text_number k small }

named_text : (op : OpNum) (text : List ℕ) (k : StateId) (n : ℕ) → text ≡ done_head op ++ id_text k → k.number ≤ last_number → Names op text n → k.number ≡ n
named_text op text k n is small names =
    let head = length_head (op_number op) Nfs4Ok in
    let same : id_text k ≡ names.id =
    sym (drop_at (done_head op) (id_text k) 8 head) ∙ (ap (drop 8) (sym is ∙ names.answers) ∙ drop_at (done_head op) names.id 8 head) in
    sym (text_number k small) ∙ (ap (λ (id : List ℕ). from_be_bytes w64 (drop 8 id)) same ∙ names.number)

spent_named : Names Num.Close (spell_result (Res.Close spent)) 0
unfolding number hyper stateid
spent_named = record { id = drop 8 (spell_result (Res.Close spent)); answers = refl; long = refl; number = refl }

-- What is refused names nothing: it is too short, or says another status.

short_names : (op : OpNum) (n : ℕ) (r : Res) (m : ℕ) → length (spell_result r) ≡ 8 → Names op (spell_result r) m → ⊥
short_names op n r m short names =
    let head = length_head (op_number op) Nfs4Ok in
    let whole = ap length names.answers in
    let both = length-append (done_head op) names.id in
    let long = names.long in absurd (omega arith)

pub lock_refused : (status : Status) (m : ℕ) → Names Num.Lock (spell_result (refusal (op_number Num.Lock) status)) m → ⊥
lock_refused status m names = short_names Num.Lock 12 (Res.Refused (op_number Num.Lock) status) m (length_spelled (Res.Refused (op_number Num.Lock) status)) names

denied_names : (d : result.Denied) (m : ℕ) → Names Num.Lock (spell_result (Res.LockDenied d)) m → ⊥
unfolding number
denied_names d m names = let bad : ◌≡◌ {A = ℕ} 39 0 = ap (λ (text : List ℕ). get_or text 6 0) names.answers in absurd (omega arith)

-- or the operation came to what it comes to
delay_or_not : (b : Bool) (s : State) (x : Context) (op : OpNum) (o : Outcome)
    → ((or_lack b s x op o).result ≡ refusal (op_number op) (lacks s op)) ⊎ ((or_lack b s x op o).result ≡ o.result)
delay_or_not b s x op o = elim (cases_Bool (b && is_ok (status_of_result o.result))) [ inl here ↦ inl (rw here refl) | inr other ↦ inr (rw other refl) ]

undelayed : (op : OpNum) (b : Bool) (s : State) (x : Context) (o : Outcome) (m : ℕ)
    → (Names op (spell_result (refusal (op_number op) (lacks s op))) m → ⊥)
    → Names op (spell_result (or_lack b s x op o).result) m → Names op (spell_result o.result) m
undelayed op b s x o m never names = elim (delay_or_not b s x op o) [
  | inl delayed ↦ absurd (never (subst (λ r. Names op (spell_result r) m) delayed names))
  | inr same ↦ subst (λ r. Names op (spell_result r) m) same names
]

ok_same : (b : Bool) (s : State) (x : Context) (op : OpNum) (o : Outcome) → is_ok (status_of_result (refusal (op_number op) (lacks s op))) ≡ false
    → is_ok (status_of_result (or_lack b s x op o).result) ≡ true → (or_lack b s x op o).result ≡ o.result
ok_same b s x op o never ok = elim (delay_or_not b s x op o) [
  | inl delayed ↦ absurd (let bad : true ≡ false = sym ok ∙ (ap (λ (r : Res). is_ok (status_of_result r)) delayed ∙ never) in cc)
  | inr same ↦ same
]

-- The lock state that a LOCK answers has a number that there can be, and is the client's.

pub record IsClients (t : Table) (w : Wish) (did : StateId × Table) : Type 0 where
  pub small : did.0.number ≤ last_number
  pub client : (l : LockState) → In l did.1.locks → l.number ≡ did.0.number → l.client ≡ w.client

raised_number : (n : ℕ) (l : LockState) → (cond (l.number == n) (raised l) l).number ≡ l.number
raised_number n l = elim (l.number == n) as (λ v. (cond v (raised l) l).number ≡ l.number) [ true ↦ refl | false ↦ refl ]

raised_client : (n : ℕ) (l : LockState) → (cond (l.number == n) (raised l) l).client ≡ l.client
raised_client n l = elim (l.number == n) as (λ v. (cond v (raised l) l).client ≡ l.client) [ true ↦ refl | false ↦ refl ]

locked_clients : (t : Table) (w : Wish) (did : StateId × Table) → IsTable t → Few t → IsLocked t w did → IsClients t w did
locked_clients t w did table few (inl more) =
    let n = more.number in
    let l = more.state in
    let number : n ≡ did.0.number = sym (ap (λ (i : StateId). i.number) more.answer) in
    let found = find_in (λ (k : LockState). k.number == n) t.locks l more.found in
    let named : l.number ≡ n = eqb-true _ _ found.1 in
    let bounds = in_bounds (λ (k : LockState). k.number) 1 (suc t.last) t.locks l table.locks found.0 in
    let below = bounds.1 in
    record {
      small = omega arith;
      client = λ k there same.
          (let was = in_map (λ (k : LockState). cond (k.number == n) (raised k) k) t.locks k (subst (λ (u : Table). In k u.locks) more.left there) in
          let its : was.0.number ≡ n = sym (raised_number n was.0) ∙ (sym (ap (λ (k : LockState). k.number) was.2) ∙ (same ∙ sym number)) in
          let one : was.0 ≡ l = in_once (λ (k : LockState). k.number) 1 (suc t.last) t.locks was.0 l table.locks was.1 found.0 (its ∙ sym named) in
          ap (λ (k : LockState). k.client) was.2 ∙ (raised_client n was.0 ∙ (ap (λ (k : LockState). k.client) one ∙ (more.own table).0)));
    }
locked_clients t w did table few (inr first) =
    let number : t.last + 1 ≡ did.0.number = sym (ap (λ (i : StateId). i.number) first.answer) in
    let other = eqb-false t.last last_number first.room in
    record {
      small = omega arith;
      client = λ l there same. elim (in_push t.locks (first_state t w first.owner first.opened) l (subst (λ (u : Table). In l u.locks) first.left there)) [
        | inl new ↦ ap (λ (k : LockState). k.client) new
        | inr old ↦ absurd (let bounds = in_bounds (λ (k : LockState). k.number) 1 (suc t.last) t.locks l table.locks old in let below = bounds.1 in omega arith)
      ];
    }

pub lock_clients : (t : Table) (who : Locker) (id : StateId) (w : Wish) (did : StateId × Table) → IsTable t → Few t → of_lock.locks_as t who id w ≡ Ok did
    → IsClients t w did
lock_clients t who id w did table few granted = locked_clients t w did table few (lock_is t who id w did granted)

-- LOCK

lock_result : (s : State) (x : Context) (now : Time) (a : Lock) (m : Wished) (did : StateId × Table) → parts.locking s x a ≡ Ok m
    → of_lock.locks_as s.opens a.locker m.id m.wish ≡ Ok did → (one s x now (Op.Lock a)).result ≡ Res.Lock (wire_id did.0)
lock_result s x now a m did judged granted =
    rw (in_steps.lock_is s x a)
    (ap (λ v. (answers s x Num.Lock v (parts.locks s x a.locker)).result) judged
    ∙ ap (λ v. (of_lock.locked s x v).result) granted)

pub record IsTold (op : OpNum) (s : State) (x : Context) (how : LockType) (offset size : ℕ) (text : List ℕ) (n : ℕ) (w : Wish) : Type 0 where
  pub wish : wished s x how offset size ≡ Ok w
  pub names : Names op text n

-- a LOCK that is granted and answers NFS4_OK tells so
pub lock_tells : (s : State) (x : Context) (now : Time) (refused : Bool) (a : Lock) (n : ℕ) (w : Wish) → IsTable s.opens → Few s.opens
    → Locks s x (Op.Lock a) n w → is_ok (status_of_result (one_or_delay refused s x now (Op.Lock a)).result) ≡ true
    → IsTold Num.Lock s x a.locktype a.offset a.length (spell_result (one_or_delay refused s x now (Op.Lock a)).result) n w
lock_tells s x now refused a n w table few locks ok =
    let op : Op.Lock a ≡ Op.Lock locks.asked = locks.is in
    let same : a ≡ locks.asked = cc in
    let m : Wished = record { wish = w; id = locks.id } in
    let judged : parts.locking s x a ≡ Ok m = subst (λ a. parts.locking s x a ≡ Ok m) (sym same) locks.judged in
    let granted : of_lock.locks_as s.opens a.locker m.id m.wish ≡ Ok locks.did =
    subst (λ (a : Lock). of_lock.locks_as s.opens a.locker m.id m.wish ≡ Ok locks.did) (sym same) locks.granted in
    let small = (lock_clients s.opens a.locker locks.id w locks.did table few granted).small in
    let r : (one_or_delay refused s x now (Op.Lock a)).result ≡ Res.Lock (wire_id locks.did.0) =
    ok_same (grows s x (Op.Lock a) && refused) s x Num.Lock (one s x now (Op.Lock a)) refl ok ∙ lock_result s x now a m locks.did judged granted in
    record {
      wish = lock_wish s x a m judged;
      names = subst (Names Num.Lock (spell_result (one_or_delay refused s x now (Op.Lock a)).result)) locks.state
          (names_text Num.Lock _ locks.did.0 (ap spell_result r ∙ lock_spelled locks.did.0) small);
    }

-- and a LOCK that tells so is granted
pub lock_grants_told : (s : State) (x : Context) (now : Time) (refused : Bool) (a : Lock) (n : ℕ) (w : Wish) → IsTable s.opens → Few s.opens
    → wished s x a.locktype a.offset a.length ≡ Ok w → Names Num.Lock (spell_result (one_or_delay refused s x now (Op.Lock a)).result) n
    → Locks s x (Op.Lock a) n w
lock_grants_told s x now refused a n w table few wish names =
    by_judged (parts.locking s x a) refl
    (subst (λ (o : Outcome). Names Num.Lock (spell_result o.result) n) (in_steps.lock_is s x a)
    (undelayed Num.Lock (grows s x (Op.Lock a) && refused) s x (one s x now (Op.Lock a)) n (lock_refused Delay n) names))
  where
    by_answer : (m : Wished) → parts.locking s x a ≡ Ok m → (v : Result (StateId × Table) OpenFault) → of_lock.locks_as s.opens a.locker m.id m.wish ≡ v
        → Names Num.Lock (spell_result (of_lock.locked s x v).result) n → Locks s x (Op.Lock a) n w
    by_answer m judged (Ok did) granted told =
        let same : m.wish ≡ w = ok_is (lock_wish s x a m judged) wish in
        let small = (lock_clients s.opens a.locker m.id m.wish did table few granted).small in
        subst (Locks s x (Op.Lock a) n) same (record {
          asked = a;
          id = m.id;
          did = did;
          is = refl;
          judged = judged;
          granted = granted;
          state = named_text Num.Lock (spell_result (Res.Lock (wire_id did.0))) did.0 n (lock_spelled did.0) small told;
        })
    by_answer m judged (Err (F.Refused status)) granted told = absurd (lock_refused status n told)
    by_answer m judged (Err (F.Denied h)) granted told = absurd (denied_names _ n told)
    by_answer m judged (Err F.Memory) granted told = absurd (lock_refused Delay n told)

    by_judged : (v : Result Wished Status) → parts.locking s x a ≡ v
        → Names Num.Lock (spell_result (answers s x Num.Lock v (parts.locks s x a.locker)).result) n → Locks s x (Op.Lock a) n w
    by_judged (Err status) judged told = absurd (lock_refused status n told)
    by_judged (Ok m) judged told = by_answer m judged (of_lock.locks_as s.opens a.locker m.id m.wish) refl told

-- LOCKU

unlocked_id : (t : Table) (id : StateId) (client file first last : ℕ) (did : StateId × Table) → IsTable t → Few t
    → IsUnlocked t id client file first last did → (did.0.number ≡ id.number) × (id.number ≤ last_number)
unlocked_id t id client file first last did table few its =
    let found = find_in (λ (k : LockState). k.number == id.number) t.locks its.state its.found in
    let named : its.state.number ≡ id.number = eqb-true _ _ found.1 in
    let bounds = in_bounds (λ (k : LockState). k.number) 1 (suc t.last) t.locks its.state table.locks found.0 in
    let below = bounds.1 in
    (ap (λ (i : StateId). i.number) its.answer, omega arith)

unlock_result : (s : State) (x : Context) (now : Time) (a : LockU) (m : Wished) (did : StateId × Table) → unlocking s x a ≡ Ok m
    → locking.unlock s.opens m.id m.wish.client m.wish.file m.wish.first m.wish.last ≡ Ok did → (one s x now (Op.LockU a)).result ≡ Res.LockU (wire_id did.0)
unlock_result s x now a m did judged granted =
    rw (in_steps.unlock_is s x a)
    (ap (λ v. (answers s x Num.LockU v (unlocks s x)).result) judged
    ∙ ap (λ v. (answers s x Num.LockU v (λ did. unlocked s x did.0 did.1)).result) granted)

pub unlock_tells : (s : State) (x : Context) (now : Time) (refused : Bool) (a : LockU) (n : ℕ) (w : Wish) → IsTable s.opens → Few s.opens
    → Unlocks s x (Op.LockU a) n w → is_ok (status_of_result (one_or_delay refused s x now (Op.LockU a)).result) ≡ true
    → IsTold Num.LockU s x a.locktype a.offset a.length (spell_result (one_or_delay refused s x now (Op.LockU a)).result) n w
unlock_tells s x now refused a n w table few unlocks ok =
    let op : Op.LockU a ≡ Op.LockU unlocks.asked = unlocks.is in
    let same : a ≡ unlocks.asked = cc in
    let m : Wished = record { wish = w; id = unlocks.id } in
    let judged : unlocking s x a ≡ Ok m = subst (λ a. unlocking s x a ≡ Ok m) (sym same) unlocks.judged in
    let id = unlocked_id s.opens m.id w.client w.file w.first w.last unlocks.did table few
    (unlocked_is s.opens m.id w.client w.file w.first w.last unlocks.did unlocks.granted) in
    let r : (one_or_delay refused s x now (Op.LockU a)).result ≡ Res.LockU (wire_id unlocks.did.0) =
    ok_same (grows s x (Op.LockU a) && refused) s x Num.LockU (one s x now (Op.LockU a)) refl ok ∙ unlock_result s x now a m unlocks.did judged unlocks.granted in
    let number = id.0 in
    let low = id.1 in
    record {
      wish = unlock_wish s x a m judged;
      names = subst (Names Num.LockU (spell_result (one_or_delay refused s x now (Op.LockU a)).result)) (number ∙ unlocks.state)
          (names_text Num.LockU _ unlocks.did.0 (ap spell_result r ∙ unlock_spelled unlocks.did.0) (omega arith));
    }

-- CLOSE

close_result : (s : State) (x : Context) (now : Time) (a : Close) (t : Target) (did : _) → target s x Own a.open_stateid ≡ Ok t
    → closing.close s.opens t.id x.client t.file ≡ Ok did → (one s x now (Op.Close a)).result ≡ Res.Close spent
close_result s x now a t did judged granted =
    rw (in_steps.close_is s x a)
    (ap (λ v. (answers s x Num.Close v (closes s x)).result) judged
    ∙ ap (λ v. (answers s x Num.Close v (λ did. closed s x t.file did.1)).result) granted)

target_parts : (file : ℕ) (t : Target) (v : Result StateId Status) → mapped (λ id. record { file = file; id = id }) v ≡ Ok t → v ≡ Ok t.id
target_parts file t (Err status) e = absurd cc
target_parts file t (Ok id) e = let same : record { file = file; id = id } ≡ t = cc in ap Ok (ap (λ (t : Target). t.id) same)

target_meant : (s : State) (x : Context) (a : Close) (t : Target) → target s x Own a.open_stateid ≡ Ok t → meant x Own a.open_stateid ≡ Ok t.id
unfolding target
target_meant s x a t e =
    let d = came (the_file s x) _ t e in target_parts d.found.number t (meant x Own a.open_stateid) d.then

pub record IsToldClosed (x : Context) (a : Close) (text : List ℕ) (n : ℕ) : Type 0 where
  pub id : StateId
  pub meant : meant x Own a.open_stateid ≡ Ok id
  pub opened : id.number ≡ n
  pub names : Names Num.Close text 0

pub close_tells : (s : State) (x : Context) (now : Time) (refused : Bool) (a : Close) (n : ℕ) → Closes s x (Op.Close a) n
    → is_ok (status_of_result (one_or_delay refused s x now (Op.Close a)).result) ≡ true
    → IsToldClosed x a (spell_result (one_or_delay refused s x now (Op.Close a)).result) n
close_tells s x now refused a n closes ok =
    let op : Op.Close a ≡ Op.Close closes.asked = closes.is in
    let same : a ≡ closes.asked = cc in
    let t : Target = record { file = closes.file; id = closes.id } in
    let judged : target s x Own a.open_stateid ≡ Ok t = subst (λ (a : Close). target s x Own a.open_stateid ≡ Ok t) (sym same) closes.judged in
    let r : (one_or_delay refused s x now (Op.Close a)).result ≡ Res.Close spent =
    ok_same (grows s x (Op.Close a) && refused) s x Num.Close (one s x now (Op.Close a)) refl ok ∙ close_result s x now a t closes.did judged closes.granted in
    record {
      id = closes.id;
      meant = target_meant s x a t judged;
      opened = closes.opened;
      names = subst (λ r. Names Num.Close (spell_result r) 0) (sym r) spent_named;
    }

-- The laws of one LOCK.

pub clashes_refused : ClashesAreRefused
clashes_refused k s x now refused a n w table few some stands wish names clash =
    clashing k s x (Op.Lock a) n w table some stands (lock_grants_told s x now refused a n w table few wish names) clash

told_ok : (s : State) (x : Context) (now : Time) (refused : Bool) (a : Lock) (n : ℕ) → Names Num.Lock (spell_result (one_or_delay refused s x now (Op.Lock a)).result) n
    → (one_or_delay refused s x now (Op.Lock a)).result ≡ (one s x now (Op.Lock a)).result
told_ok s x now refused a n names = elim (delay_or_not (grows s x (Op.Lock a) && refused) s x Num.Lock (one s x now (Op.Lock a))) [
  | inl delayed ↦ absurd (lock_refused Delay n (subst (λ r. Names Num.Lock (spell_result r) n) delayed names))
  | inr same ↦ same
]

-- what a LOCK that tells so did
pub record IsDone (s : State) (x : Context) (now : Time) (refused : Bool) (a : Lock) (n : ℕ) (w : Wish) : Type 0 where
  pub id : StateId
  pub did : StateId × Table
  pub granted : of_lock.locks_as s.opens a.locker id w ≡ Ok did
  pub number : did.0.number ≡ n
  pub ok : is_ok (status_of_result (one_or_delay refused s x now (Op.Lock a)).result) ≡ true
  pub left : (one_or_delay refused s x now (Op.Lock a)).state.opens ≡ did.1

told_done : (s : State) (x : Context) (now : Time) (refused : Bool) (a : Lock) (n : ℕ) (w : Wish) → IsTable s.opens → Few s.opens
    → wished s x a.locktype a.offset a.length ≡ Ok w → Names Num.Lock (spell_result (one_or_delay refused s x now (Op.Lock a)).result) n
    → IsDone s x now refused a n w
told_done s x now refused a n w table few wish names =
    let locks = lock_grants_told s x now refused a n w table few wish names in
    let op : Op.Lock a ≡ Op.Lock locks.asked = locks.is in
    let same : a ≡ locks.asked = cc in
    let m : Wished = record { wish = w; id = locks.id } in
    let judged : parts.locking s x a ≡ Ok m = subst (λ a. parts.locking s x a ≡ Ok m) (sym same) locks.judged in
    let granted : of_lock.locks_as s.opens a.locker locks.id w ≡ Ok locks.did =
    subst (λ (a : Lock). of_lock.locks_as s.opens a.locker locks.id w ≡ Ok locks.did) (sym same) locks.granted in
    let ok = ap (λ (r : Res). is_ok (status_of_result r)) (told_ok s x now refused a n names) ∙ lock_ok s x now a m locks.did judged granted in
    record {
      id = locks.id;
      did = locks.did;
      granted = granted;
      number = locks.state;
      ok = ok;
      left = left_by s x now refused a m locks.did judged granted ok;
    }

pub told_is_ok : (s : State) (x : Context) (now : Time) (refused : Bool) (a : Lock) (n : ℕ) (w : Wish) → IsTable s.opens → Few s.opens
    → wished s x a.locktype a.offset a.length ≡ Ok w → Names Num.Lock (spell_result (one_or_delay refused s x now (Op.Lock a)).result) n
    → is_ok (status_of_result (one_or_delay refused s x now (Op.Lock a)).result) ≡ true
told_is_ok s x now refused a n w table few wish names = (told_done s x now refused a n w table few wish names).ok

-- the lock state is the client's
pub told_client : (s : State) (x : Context) (now : Time) (refused : Bool) (a : Lock) (n : ℕ) (w : Wish) → IsTable s.opens → Few s.opens
    → wished s x a.locktype a.offset a.length ≡ Ok w → Names Num.Lock (spell_result (one_or_delay refused s x now (Op.Lock a)).result) n
    → (l : LockState) → In l (one_or_delay refused s x now (Op.Lock a)).state.opens.locks → l.number ≡ n → l.client ≡ x.client
told_client s x now refused a n w table few wish names l there number =
    let done = told_done s x now refused a n w table few wish names in
    (lock_clients s.opens a.locker done.id w done.did table few done.granted).client l (subst (λ (t : Table). In l t.locks) done.left there)
    (number ∙ sym done.number)
    ∙ (wish_is s x a.locktype a.offset a.length w wish).client

pub told_held : ToldLocksAreHeld
told_held s x now refused a n w table few wish names b lo hi =
    let done = told_done s x now refused a n w table few wish names in
    let k : LockTold = record { state = n; client = w.client; opened = 0; file = w.file; kind = w.kind; first = b; last = b } in
    ap (λ (t : Table). t.held w.file n b) done.left
    ∙ granted_held k s.opens w done.did (lock_is s.opens a.locker done.id w done.did done.granted) done.number
    refl refl lo hi b (omega arith) (omega arith)
