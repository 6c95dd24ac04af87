-- A LOCK or a LOCKT that is answered NFS4ERR_DENIED found a lock that is in its way, and reports it.
use Rattle.std.proofs.{Common.{◌≡◌, ℕ, Bool, true, false, Option, Some, None, refl, sym, ◌∙◌, ap}, lemmas.Bool.false≢true}
use Rattle.std.specs.{Prelude.{◌==◌, ◌&&◌, not, Result, Ok, Err}, Option.option_map_or}
use Rattle.nfs_xdr.specs.{Status.status_number, declared.time.Time.Time, declared.status.Status.Status}
use Rattle.nfs_xdr.specs.declared.status.Status.TheVariants as S
use Rattle.nfs_compound.specs.{OpNum.op_number, declared.lock_args.{Lock.Lock, LockT.LockT, LockType.LockType, Locker.{Locker, TheVariants.{LockOwner, OpenOwner}}}}
use Rattle.nfs_compound.specs.{declared.op.{Item.Item, Item.TheVariants.Operation}, declared.op_num.OpNum.OpNum, declared.stateid.Stateid.Stateid}
use Rattle.nfs_compound.specs.declared.op_num.OpNum.TheVariants as Num
use Rattle.nfs_compound.specs.declared.lock_args.LockType.TheVariants as LockTypes
use Rattle.nfs_compound.specs.declared.op.Op.TheVariants as Op
use Rattle.nfs_results.specs.declared.res.Denied as result
use Rattle.nfs_results.specs.{declared.res.Res.Res, Results.status_of_result}
use Rattle.nfs_ranges.specs.declared.Held.{Held}
use Rattle.nfs_opens.specs.{declared.judging.Seat.Seat, declared.judging.Seat.TheVariants.{Anonymous, ReadBypass}, declared.judging.Sort.{Sort, TheVariants.{Either, OpenOnly, LockOnly}}}
use Rattle.nfs_opens.specs.declared.{locking.{OpenFault.TheVariants.{Denied, Memory, Refused}, Wish.Wish}, records.LockState.LockState}
use Rattle.nfs_opens.specs.{declared.stateid.{CurrentSeqid.TheVariants.Any, StateId.StateId}, Judging.{judge, judge_checks, special, state_named}, StateId.{is_anonymous, is_bypass}, Steps.require}
use Rattle.nfs_opens.specs.Locking as locking
use Rattle.nfs_opens.specs.{Locking.{access_in, clash, lock_as, lock_first, state_of, test_lock}, Table.Table}
use Rattle.nfs_opens.proofs.Terms.{judge_named, number_of}
use Rattle.nfs_names.specs.{declared.context.Context.Context, Context.anonymous, Outcome.{Outcome, done, refuses}, State.State}
use Rattle.nfs_names.proofs.{Faulted.status_of_refusal, Ones.by_delay}
use Rattle.nfs_files.specs.{Denied.lock_denied, Lock.{lock, locked, locks_as, stateid_in}, LockT.lock_t, Operation.grows, Ranges.wished, StateIds.meant}
use Rattle.nfs_files.proofs.{Outcomes.one_or_delay, TreeFiles.IsWhole}
use Rattle.nfs_promises.specs.Answers.{Asked.locked as asked_range, Reasons.Reason}
use Rattle.nfs_promises.proofs.Answers.Blaming.{Blames, answers_blame, bool_blames, ends_then, held_blames, then_checks}
use Rattle.nfs_promises.proofs.Answers.{FileReasons.wished_blames, HoldReasons.{Faults, seat_faults, as_faults, first_faults}, StateReasons.meant_blames}

abbrev pub is_denied : Status → Bool
is_denied status = status_number status == status_number S.Denied

abbrev Clear : Status → Type 0
Clear f = is_denied f ≡ false

-- Of a status that has a reason only where bytes are asked for, there is none elsewhere.
clear : {A : Type 0} (s : State) (x : Context) (i : Item) → asked_range i ≡ None → (v : Result A Status) → Blames (Reason s x i) v → Blames Clear v
clear s x i none (Ok a) is = tt
clear s x i none (Err f) is = by f is
  where
    by : (f : Status) → Reason s x i f → Clear f
    by S.Denied why = absurd (let bad : None ≡ Some why.range = sym none ∙ why.is in cc)
    by f why = refl

judge_clear : (t : Table) (id : StateId) (client : ℕ) (file : Option ℕ) (sort : Sort) → Blames Clear (judge t id client file sort)
judge_clear t id client file sort =
    bool_blames Clear (is_anonymous id) _ _ (λ a. special_clear Anonymous sort) (λ a. bool_blames Clear (is_bypass id) _ _ (λ b. special_clear ReadBypass sort) (λ b. named_clear))
  where
    special_clear : (k : Seat) (sort : Sort) → Blames Clear (special sort k)
    special_clear k Either = tt
    special_clear k OpenOnly = refl
    special_clear k LockOnly = refl

    named_clear : Blames Clear (judge_named client file sort id.seqid (state_named t id))
    named_clear = elim (state_named t id) as (λ k. Blames Clear (judge_named client file sort id.seqid k)) [
      | None ↦ refl
      | Some n ↦ then_checks Clear (judge_checks client file sort id.seqid n) (Ok n.seat)
          (λ u. refl, λ u. (λ u. refl, λ u. (λ u. refl, λ u. (λ u. refl, λ u. (λ u. refl, λ u. tt))))) (λ u. tt)
    ]

-- the lock state of whoever asks, 0 where there is none
abbrev pub asker : Table → Locker → StateId → Wish → ℕ
asker t (OpenOwner o) id w = number_of (state_of t w.client o.lock_owner.owner w.file)
asker t (LockOwner o) id w = id.number

-- what the table of opens denies is a clash with another lock state
locks_clash : (t : Table) (who : Locker) (id : StateId) (w : Wish) → Faults Clear (λ h. clash t (asker t who id w) w ≡ Some h) (locks_as t who id w)
locks_clash t (LockOwner o) id w =
    seat_faults Clear (λ h. clash t id.number w ≡ Some h) (judge t id w.client (Some w.file) LockOnly) _ (judge_clear t id w.client (Some w.file) LockOnly) (λ n e.
    as_faults Clear (λ h. clash t id.number w ≡ Some h) t w (access_in n) (λ off. refl) (λ last. refl) id.number (λ none. refl) (λ h is. is))
locks_clash t (OpenOwner o) id w =
    seat_faults Clear (λ h. clash t (asker t (OpenOwner o) id w) w ≡ Some h) (judge t id w.client (Some w.file) OpenOnly) _ (judge_clear t id w.client (Some w.file) OpenOnly)
    (λ n e. by n (state_of t w.client o.lock_owner.owner w.file))
  where
    by : (n : Seat) (k : Option LockState) → Faults Clear (λ h. clash t (number_of k) w ≡ Some h)
        (option_map_or (λ (l : LockState). lock_as t w l.number (access_in n)) k (lock_first t w id.number o.lock_owner.owner (access_in n)))
    by n None = first_faults Clear (λ h. clash t 0 w ≡ Some h) t w (access_in n) (λ off. refl) (λ last. refl) id.number o.lock_owner.owner (λ h is. is)
    by n (Some l) = as_faults Clear (λ h. clash t l.number w ≡ Some h) t w (access_in n) (λ off. refl) (λ last. refl) l.number (λ none. refl) (λ h is. is)

-- One operation.

-- what it found, where `IsAsker` says which lock state asks
pub record WasDenied (s : State) (x : Context) (how : LockType) (offset size : ℕ) (r : Res) (reports : result.Denied → Res) (IsAsker : Wish → ℕ → Type 0) : Type 0 where
  pub wish : Wish
  pub asks : wished s x how offset size ≡ Ok wish
  pub held : Held
  pub number : ℕ
  pub whose : IsAsker wish number
  pub clash : locking.clash s.opens number wish ≡ Some held
  pub answers : r ≡ reports (lock_denied s.opens held)

module _ (s : State) (x : Context) where
  -- a LOCK asks for the lock state that it names, or for the one of its new lock owner
  abbrev pub IsLocker : Lock → Wish → ℕ → Type 0
  IsLocker a w n = (id : StateId) × (meant x Any (stateid_in a.locker) ≡ Ok id) × (n ≡ asker s.opens a.locker id w)

  abbrev pub IsTester : LockT → Wish → ℕ → Type 0
  IsTester a w n = n ≡ number_of (state_of s.opens w.client a.owner.owner w.file)

  abbrev IsDenied : Lock → Outcome → Type 0
  IsDenied a o = is_denied (status_of_result o.result) ≡ true → WasDenied s x a.locktype a.offset a.length o.result Res.LockDenied (IsLocker a)

  abbrev IsTestDenied : LockT → Outcome → Type 0
  IsTestDenied a o = is_denied (status_of_result o.result) ≡ true → WasDenied s x a.locktype a.offset a.length o.result Res.LockTDenied (IsTester a)

  not_refused : (op : OpNum) (f : Status) → Clear f → is_denied (status_of_result (refuses s x op f).result) ≡ true → ⊥
  not_refused op f other is = false≢true (sym other ∙ (ap is_denied (sym (status_of_refusal (op_number op) f)) ∙ is))

module _ (s : State) (whole : IsWhole s) (x : Context) where
  -- a LOCKU of the same bytes is refused alike
  abbrev unlocks : Stateid → LockType → (offset size : ℕ) → Item
  unlocks given how offset size = Operation (Op.LockU (record { locktype = how; seqid = 0; lock_stateid = given; offset = offset; length = size }))

  wished_clear : (given : Stateid) (how : LockType) (offset size : ℕ) → Blames Clear (wished s x how offset size)
  wished_clear given how offset size = (let i = unlocks given how offset size in clear s x i refl (wished s x how offset size) (wished_blames s whole x i refl refl how offset size refl))

  meant_clear : (given : Stateid) → Blames Clear (meant x Any given)
  meant_clear given = (let i = unlocks given LockTypes.Read 0 0 in
      clear s x i refl (meant x Any given) (meant_blames s x i (record { given = given; sort = LockOnly; form = Any; here = true }) refl))

  by_fault : (a : Lock) (w : Wish) (id : StateId) → wished s x a.locktype a.offset a.length ≡ Ok w → meant x Any (stateid_in a.locker) ≡ Ok id
      → (v : _) → Faults Clear (λ h. clash s.opens (asker s.opens a.locker id w) w ≡ Some h) v → IsDenied s x a (locked s x v)
  by_fault a w id asks means (Ok did) fair is = absurd (false≢true is)
  by_fault a w id asks means (Err (Denied h)) fair is =
      record { wish = w; asks = asks; held = h; number = asker s.opens a.locker id w; whose = (id, means, refl); clash = fair; answers = refl }
  by_fault a w id asks means (Err (Refused f)) fair is = absurd (not_refused s x Num.Lock f fair is)
  by_fault a w id asks means (Err Memory) fair is = absurd fair

  lock_denies : (a : Lock) → IsDenied s x a (lock s x a)
  unfolding lock
  lock_denies a = answers_blame Clear (IsDenied s x a) s x Num.Lock _ (λ f other is. absurd (not_refused s x Num.Lock f other is))
      (ends_then Clear (IsDenied s x a) (wished s x a.locktype a.offset a.length) _ (wished_clear (stateid_in a.locker) a.locktype a.offset a.length) (λ w asks.
      ends_then Clear (IsDenied s x a) (require (not a.reclaim) S.NoGrace) _ (held_blames Clear (not a.reclaim) S.NoGrace (λ off. refl)) (λ u e.
      ends_then Clear (IsDenied s x a) (meant x Any (stateid_in a.locker)) _ (meant_clear (stateid_in a.locker)) (λ id means.
      by_fault a w id asks means (locks_as s.opens a.locker id w) (locks_clash s.opens a.locker id w)))))

  pub lock_was_denied : (now : Time) (refused : Bool) (a : Lock) → IsDenied s x a (one_or_delay refused s x now (Op.Lock a))
  lock_was_denied now refused a =
      by_delay (IsDenied s x a) (grows s x (Op.Lock a) && refused) s x Num.Lock (lock s x a) (λ is. absurd (false≢true is)) (lock_denies a)

  test_denies : (a : LockT) → IsTestDenied s x a (lock_t s x a)
  unfolding lock_t
  test_denies a = answers_blame Clear (IsTestDenied s x a) s x Num.LockT _ (λ f other is. absurd (not_refused s x Num.LockT f other is))
      (ends_then Clear (IsTestDenied s x a) (wished s x a.locktype a.offset a.length) _ (wished_clear anonymous a.locktype a.offset a.length) (λ w asks.
      by w asks (test_lock s.opens a.owner.owner w) refl))
    where
      by : (w : Wish) → wished s x a.locktype a.offset a.length ≡ Ok w → (o : Option Held) → test_lock s.opens a.owner.owner w ≡ o
          → IsTestDenied s x a (done s x (option_map_or (λ h. Res.LockTDenied (lock_denied s.opens h)) o Res.LockT))
      by w asks None e is = absurd (false≢true is)
      by w asks (Some h) e is = record {
        wish = w;
        asks = asks;
        held = h;
        number = number_of (state_of s.opens w.client a.owner.owner w.file);
        whose = refl;
        clash = e;
        answers = refl;
      }

  pub test_denied : (now : Time) (refused : Bool) (a : LockT) → IsTestDenied s x a (one_or_delay refused s x now (Op.LockT a))
  test_denied now refused a =
      by_delay (IsTestDenied s x a) (grows s x (Op.LockT a) && refused) s x Num.LockT (lock_t s x a) (λ is. absurd (false≢true is)) (test_denies a)
