-- CLOSE, OPEN_DOWNGRADE and LOCK: what they are refused with has its reason.
use Rattle.std.proofs.Common.{◌≡◌, ℕ, Bool, true, false, cond, not, List, [], ◌∷◌, Option, Some, None, refl, sym, ◌∙◌, ap, subst, inl, inr}
use Rattle.std.proofs.lemmas.Bool.{false≢true, eq-eqb, eqb-true, not-false}
use Rattle.std.specs.{Prelude.{◌==◌, is_none, Result, Ok, Err, ok_or, option_map}, Option.option_map_or}
use Rattle.nfs_xdr.specs.{Checks.judged, Tables.In, declared.status.Status.Status}
use Rattle.nfs_xdr.specs.declared.status.Status.TheVariants as S
use Rattle.nfs_xdr.proofs.Lists.{find_in, any_in, none_found}
use Rattle.nfs_compound.specs.declared.{open_args.{Close.Close, OpenDowngrade.OpenDowngrade}, lock_args.{Lock.Lock, Locker.Locker}}
use Rattle.nfs_compound.specs.declared.{lock_args.{Locker.TheVariants.{OpenOwner, LockOwner}, LockType.LockType}, op.Item.{Item, TheVariants.Operation}}
use Rattle.nfs_compound.specs.declared.lock_args.LockType.TheVariants as LockTypes
use Rattle.nfs_compound.specs.declared.op.Op.TheVariants as Op
use Rattle.nfs_compound.specs.declared.op_num.OpNum.TheVariants as Num
use Rattle.nfs_ranges.specs.declared.Held.{Held}
use Rattle.nfs_opens.specs.{declared.judging.Seat.Seat, declared.judging.Sort.TheVariants.{Either, OpenOnly, LockOnly}, declared.locking.OpenFault.OpenFault, declared.locking.Wish.Wish}
use Rattle.nfs_opens.specs.{declared.locking.OpenFault.TheVariants.{Refused, Denied, Memory}, declared.records.LockState.LockState, declared.share.Share.Share}
use Rattle.nfs_opens.specs.{declared.stateid.CurrentSeqid.TheVariants.{Any, Own}, declared.stateid.StateId.StateId, Share.share_of, StateId.last_number}
use Rattle.nfs_opens.specs.{Judging.judge, Opening.is_narrower, Table.{Table, open_at, lock_at}, Steps.{◌>>=◌, require, map_err}}
use Rattle.nfs_opens.specs.Locking.{permits, access_in, clash, is_locker, state_of, lock_judged, lock_as, lock_first, lock_under, lock_known}
use Rattle.nfs_opens.specs.Closing as closing
use Rattle.nfs_opens.specs.Opening as opening
use Rattle.nfs_opens.proofs.{LockLemmas.{judged_open, judged_lock}, Terms.number_of}
use Rattle.nfs_names.specs.{declared.context.Context.Context, State.State, Outcome.Outcome}
use Rattle.nfs_files.specs.{Close.close, Lock.{lock, locks_as, locked, stateid_in}, OpenDowngrade.{bits, open_downgrade}, Ranges.{kind_of, wished}, StateIds.meant, Target.the_file}
use Rattle.nfs_files.proofs.{TreeFiles.IsWhole, WrittenOps.current_number}
use Rattle.nfs_promises.specs.{Permission.Permitted.has_right, Answers.{Asked.{StateGiven, StandsFor, by_state, of_locker, of_type, IsOf, IsAskers}, Reasons.Reason}}
use Rattle.nfs_promises.specs.Answers.Invalid.{NoShare, ToNarrow, Widens, States}
use Rattle.nfs_promises.proofs.Answers.Blaming.{Blames, then_blames, there_blames, held_blames, ends_then, ends_checks, answers_blame}
use Rattle.nfs_promises.proofs.Answers.{Placed.{Answers, of_refusal, refused_so, done_so}, HeldReasons.held_so, InvalidReasons.{no_share, not_narrower, ok_some}, StateReasons.{IsSeated, access_there, seated, stands_for, given_one, meant_blames, state_blames}}
use Rattle.nfs_promises.proofs.Locks.OneStateEach.{HasOneEach, found_one}
use Rattle.nfs_promises.proofs.Answers.FileReasons.{file_blames, the_file_is, wished_blames, wished_is}

-- What the table of opens refuses, by its reason.

module _ (R : Status → Type 0) (D : Held → Type 0) where
  abbrev pub HasReason : OpenFault → Type 0
  HasReason (Refused f) = R f
  HasReason (Denied h) = D h
  HasReason Memory = ⊥

  abbrev pub Faults : {A : Type 0} → Result A OpenFault → Type 0
  Faults (Err f) = HasReason f
  Faults (Ok a) = Unit {0}

  faults_then : {A B : Type 0} (v : Result A OpenFault) (next : A → Result B OpenFault) → Faults v → ((a : A) → Faults (next a)) → Faults (v >>= next)
  faults_then (Err f) next is each = is
  faults_then (Ok a) next is each = each a

  pub seat_faults : {A : Type 0} (v : Result Seat Status) (next : Seat → Result A OpenFault) → Blames R v → ((k : Seat) → v ≡ Ok k → Faults (next k)) → Faults (map_err Refused v >>= next)
  seat_faults (Err f) next is each = is
  seat_faults (Ok k) next is each = each k refl

  there_faults : {A : Type 0} (o : Option A) (f : Status) → (o ≡ None → R f) → Faults (ok_or o (Refused f))
  there_faults None f why = why refl
  there_faults (Some a) f why = tt

  module _ (t : Table) (w : Wish) (access : Share) (mode : permits access w.kind ≡ false → R S.OpenMode) (fault : (t.last == last_number) ≡ true → R S.ServerFault) where
    judged_faults : (own : ℕ) → ((h : Held) → clash t own w ≡ Some h → D h) → Faults (lock_judged t own access w)
    judged_faults own denied = by (permits access w.kind) (clash t own w) refl refl
      where
        by : (may : Bool) (o : Option Held) → permits access w.kind ≡ may → clash t own w ≡ o → Faults (cond may (judged (option_map Denied o)) (Err (Refused S.OpenMode)))
        by true None may held = tt
        by true (Some h) may held = denied h held
        by false o may held = mode may

    pub as_faults : (n : ℕ) → (lock_at t n ≡ None → R S.BadStateId) → ((h : Held) → clash t n w ≡ Some h → D h) → Faults (lock_as t w n access)
    as_faults n none denied =
        faults_then (lock_judged t n access w) _ (judged_faults n denied) (λ u.
        faults_then (ok_or (lock_at t n) (Refused S.BadStateId)) _ (there_faults (lock_at t n) S.BadStateId none) (λ l. tt))

    pub first_faults : (opened : ℕ) (owner : List ℕ) → ((h : Held) → clash t 0 w ≡ Some h → D h) → Faults (lock_first t w opened owner access)
    first_faults opened owner denied =
        faults_then (lock_judged t 0 access w) _ (judged_faults 0 denied) (λ u.
        faults_then (require (not (t.last == last_number)) (Refused S.ServerFault)) _ (held_faults (t.last == last_number) fault) (λ u. tt))
      where
        held_faults : (b : Bool) → (b ≡ true → R S.ServerFault) → Faults (require (not b) (Refused S.ServerFault))
        held_faults true why = why refl
        held_faults false why = tt

-- to lock in a way is to have the access for it
permits_so : (access : Share) (type : LockType) → permits access (kind_of type) ≡ has_right access (of_type type)
permits_so access LockTypes.Read = refl
permits_so access LockTypes.ReadW = refl
permits_so access LockTypes.Write = refl
permits_so access LockTypes.WriteW = refl

-- a lock state that was found stands under its number
found_stands : (t : Table) (client file : ℕ) (owner : List ℕ) (l : LockState) → state_of t client owner file ≡ Some l → lock_at t l.number ≡ None → ⊥
found_stands t client file owner l found none =
    let its = find_in (is_locker client owner file) t.locks l found in
    false≢true (sym (none_found _ t.locks none) ∙ any_in (λ (k : LockState). k.number == l.number) t.locks l its.0 (eq-eqb l.number l.number refl))

module _ (s : State) (whole : IsWhole s) (x : Context) where
  pub close_blames : (a : Close) → Answers s x (Operation (Op.Close a)) (close s x a)
  unfolding close
  close_blames a =
      let i : Item = Operation (Op.Close a) in
      let k : StateGiven = record { given = a.open_stateid; sort = OpenOnly; form = Own; here = true } in
      let B : Status → Type 0 = Reason s x i in
      let Y : Outcome → Type 0 = Answers s x i in
      answers_blame B Y s x Num.Close _ (refused_so s x i Num.Close) (ends_then B Y (the_file s x) _ (file_blames s whole x i refl refl) (λ d e.
      (let at = current_number s x d (the_file_is s x d e) in
      ends_then B Y (meant x Own a.open_stateid) _ (meant_blames s x i k refl) (λ id means.
      ends_then B Y (closing.close s.opens id x.client d.number) _
      (then_blames B (judge s.opens id x.client (Some d.number) OpenOnly) _ (state_blames s x i k refl id (stands_for x k id means) x.client (Some d.number) refl (refl, at)) (λ n e. tt))
      (λ did e. done_so s x i tt)))))

  pub narrow_blames : (a : OpenDowngrade) (id : StateId) (file : ℕ) → StandsFor x (record { given = a.open_stateid; sort = OpenOnly; form = Own; here = true }) id → x.current ≡ Some file
      → Blames (Reason s x (Operation (Op.OpenDowngrade a))) (opening.downgrade s.opens id x.client file (bits a.share_access) (bits a.share_deny))
  narrow_blames a id file means at =
      let i : Item = Operation (Op.OpenDowngrade a) in
      let k : StateGiven = record { given = a.open_stateid; sort = OpenOnly; form = Own; here = true } in
      let B : Status → Type 0 = Reason s x i in
      then_blames B (judge s.opens id x.client (Some file) OpenOnly) _ (state_blames s x i k refl id means x.client (Some file) refl (refl, at)) (λ n e.
      then_blames B (ok_or (open_at s.opens id.number) S.BadStateId) _ (there_blames B (open_at s.opens id.number) S.BadStateId (λ none.
      (let its = judged_open s.opens id x.client file n e in let bad : None ≡ Some its.0 = sym none ∙ its.1 in cc))) (λ o there.
      then_blames B (require (is_narrower (bits a.share_access) (bits a.share_deny) o) S.Inval) _
      (held_blames B (is_narrower (bits a.share_access) (bits a.share_deny) o) S.Inval (λ wider. NoShare (Widens a k id o refl refl means
      (ok_some (open_at s.opens id.number) S.BadStateId o there) (not_narrower (bits a.share_access) (bits a.share_deny) o.access o.deny wider)))) (λ u e. tt)))

  pub downgrade_blames : (a : OpenDowngrade) → Answers s x (Operation (Op.OpenDowngrade a)) (open_downgrade s x a)
  unfolding open_downgrade
  downgrade_blames a =
      let i : Item = Operation (Op.OpenDowngrade a) in
      let k : StateGiven = record { given = a.open_stateid; sort = OpenOnly; form = Own; here = true } in
      let B : Status → Type 0 = Reason s x i in
      let Y : Outcome → Type 0 = Answers s x i in
      answers_blame B Y s x Num.OpenDowngrade _ (refused_so s x i Num.OpenDowngrade) (ends_then B Y (the_file s x) _ (file_blames s whole x i refl refl) (λ d e.
      (let at = current_number s x d (the_file_is s x d e) in
      ends_then B Y (meant x Own a.open_stateid) _ (meant_blames s x i k refl) (λ id means.
      ends_then B Y (judge s.opens id x.client (Some d.number) OpenOnly) _ (state_blames s x i k refl id (stands_for x k id means) x.client (Some d.number) refl (refl, at)) (λ n e.
      ends_checks B Y ((is_none (share_of a.share_access), S.Inval) ∷ (is_none (share_of a.share_deny), S.Inval) ∷ []) _
      (λ v. NoShare (ToNarrow a refl (inl (no_share a.share_access v))), λ u. (λ v. NoShare (ToNarrow a refl (inr (no_share a.share_deny v))), λ u. tt)) (λ u.
      ends_then B Y (opening.downgrade s.opens id x.client d.number (bits a.share_access) (bits a.share_deny)) _ (narrow_blames a id d.number (stands_for x k id means) at)
      (λ did e. done_so s x i tt)))))))

  -- LOCK

  abbrev IsDenied : Lock → Held → Type 0
  IsDenied a h = Reason s x (Operation (Op.Lock a)) S.Denied

  abbrev HaveReason : {A : Type 0} → Lock → Result A OpenFault → Type 0
  HaveReason a v = Faults (Reason s x (Operation (Op.Lock a))) (IsDenied a) v

  locked_so : (a : Lock) (v : _) → HaveReason a v → Answers s x (Operation (Op.Lock a)) (locked s x v)
  locked_so a (Ok did) is = done_so s x (Operation (Op.Lock a)) tt
  locked_so a (Err (Denied h)) is = of_refusal s x (Operation (Op.Lock a)) S.Denied is
  locked_so a (Err (Refused f)) is = refused_so s x (Operation (Op.Lock a)) Num.Lock f is
  locked_so a (Err Memory) is = absurd is

  module _ (each : HasOneEach s.opens) (a : Lock) (w : Wish) (asks : wished s x a.locktype a.offset a.length ≡ Ok w) where
    abbrev i : Item
    i = Operation (Op.Lock a)

    at : (w.client ≡ x.client) × (x.current ≡ Some w.file) × (w.kind ≡ kind_of a.locktype)
    at = wished_is s x a.locktype a.offset a.length w asks

    last_state : (s.opens.last == last_number) ≡ true → Reason s x i S.ServerFault
    last_state last = States (eqb-true s.opens.last last_number last)

    -- the asker's lock states on the file have this number
    abbrev AreAskers : ℕ → Type 0
    AreAskers own = (l : LockState) → In l s.opens.locks → l.file ≡ w.file → IsAskers x i l → l.number ≡ own

    denied : (own : ℕ) → AreAskers own → (h : Held) → clash s.opens own w ≡ Some h → Reason s x i S.Denied
    denied own askers h some = held_so s whole x i (record { type = a.locktype; offset = a.offset; size = a.length }) refl w asks own askers h some

    mode : (k : StateGiven) → by_state i ≡ Some k → (id : StateId) → StandsFor x k id → (n : Seat) → (k.sort ≡ Either → ⊥) → IsSeated s.opens id k.sort n → permits (access_in n) w.kind ≡ false
        → Reason s x i S.OpenMode
    mode k is id means n only seat off = record {
      given = k;
      is = is;
      id = id;
      means = means;
      right = of_type a.locktype;
      uses = refl;
      access = access_in n;
      has = access_there s.opens whole.table id k.sort n (inl only) seat;
      lacks = sym (permits_so (access_in n) a.locktype) ∙ (ap (permits (access_in n)) (sym at.2) ∙ off);
    }

    under_faults : (k : StateGiven) → by_state i ≡ Some k → (id : StateId) → StandsFor x k id → k.sort ≡ OpenOnly → (owner : List ℕ)
        → AreAskers (number_of (state_of s.opens w.client owner w.file)) → Blames (Reason s x i) (judge s.opens id w.client (Some w.file) OpenOnly) → HaveReason a (lock_under s.opens id owner w)
    under_faults k is id means sort owner askers blames = seat_faults (Reason s x i) (IsDenied a) (judge s.opens id w.client (Some w.file) OpenOnly) _ blames (λ n e.
        by n (mode k is id means n (λ either. (let bad : OpenOnly ≡ Either = sym sort ∙ either in cc)) (subst (λ sort. IsSeated s.opens id sort n) (sym sort) (seated s.opens id w.client (Some w.file) OpenOnly n e)))
        (state_of s.opens w.client owner w.file) refl)
      where
        by : (n : Seat) → (permits (access_in n) w.kind ≡ false → Reason s x i S.OpenMode) → (o : Option LockState) → state_of s.opens w.client owner w.file ≡ o
            → HaveReason a (option_map_or (λ (l : LockState). lock_as s.opens w l.number (access_in n)) o (lock_first s.opens w id.number owner (access_in n)))
        by n lacks None found = first_faults (Reason s x i) (IsDenied a) s.opens w (access_in n) lacks last_state id.number owner (denied 0 (λ l there file mine. askers l there file mine ∙ ap number_of found))
        by n lacks (Some l) found =
            as_faults (Reason s x i) (IsDenied a) s.opens w (access_in n) lacks last_state l.number (λ none. absurd (found_stands s.opens w.client w.file owner l found none))
            (denied l.number (λ k there file mine. askers k there file mine ∙ ap number_of found))

    known_faults : (k : StateGiven) → by_state i ≡ Some k → (id : StateId) → StandsFor x k id → k.sort ≡ LockOnly → AreAskers id.number
        → Blames (Reason s x i) (judge s.opens id w.client (Some w.file) LockOnly) → HaveReason a (lock_known s.opens id w)
    known_faults k is id means sort askers blames = seat_faults (Reason s x i) (IsDenied a) (judge s.opens id w.client (Some w.file) LockOnly) _ blames (λ n e.
        (let its = judged_lock s.opens id w.client w.file n e in
        as_faults (Reason s x i) (IsDenied a) s.opens w (access_in n)
        (mode k is id means n (λ either. (let bad : LockOnly ≡ Either = sym sort ∙ either in cc)) (subst (λ sort. IsSeated s.opens id sort n) (sym sort) (seated s.opens id w.client (Some w.file) LockOnly n e)))
        last_state id.number (λ none. (let bad : None ≡ Some its.0 = sym none ∙ its.1 in cc))
        (denied id.number askers)))

    pub lock_faults : (id : StateId) → meant x Any (stateid_in a.locker) ≡ Ok id → HaveReason a (locks_as s.opens a.locker id w)
    lock_faults id means = by a.locker refl means
      where
        by : (l : Locker) → a.locker ≡ l → meant x Any (stateid_in l) ≡ Ok id → HaveReason a (locks_as s.opens l id w)
        by (OpenOwner o) is means = (let k : StateGiven = record { given = o.open_stateid; sort = OpenOnly; form = Any; here = true } in
            let named = ap (λ l. Some (of_locker l)) is in
            under_faults k named id (stands_for x k id means) refl o.lock_owner.owner (λ l there file mine. found_one s.opens each w.client o.lock_owner.owner w.file l there
            (mine.0 ∙ sym at.0) (subst (λ k. IsOf x i k l) is mine.1) file) (state_blames s x i k named id (stands_for x k id means) w.client (Some w.file) at.0 (refl, at.1)))
        by (LockOwner o) is means = (let k : StateGiven = record { given = o.lock_stateid; sort = LockOnly; form = Any; here = true } in
            let named = ap (λ l. Some (of_locker l)) is in
            known_faults k named id (stands_for x k id means) refl (λ l there file mine. given_one x i k id named (stands_for x k id means) l.number (subst (λ k. IsOf x i k l) is mine.1)) (state_blames s x i k named id (stands_for x k id means) w.client (Some w.file) at.0 (refl, at.1)))

  pub meant_so : (a : Lock) (l : Locker) → a.locker ≡ l → Blames (Reason s x (Operation (Op.Lock a))) (meant x Any (stateid_in l))
  meant_so a (OpenOwner o) is = meant_blames s x (Operation (Op.Lock a)) (record { given = o.open_stateid; sort = OpenOnly; form = Any; here = true }) (ap (λ l. Some (of_locker l)) is)
  meant_so a (LockOwner o) is = meant_blames s x (Operation (Op.Lock a)) (record { given = o.lock_stateid; sort = LockOnly; form = Any; here = true }) (ap (λ l. Some (of_locker l)) is)

  pub lock_blames : HasOneEach s.opens → (a : Lock) → Answers s x (Operation (Op.Lock a)) (lock s x a)
  unfolding lock
  lock_blames each a =
      let i : Item = Operation (Op.Lock a) in
      let B : Status → Type 0 = Reason s x i in
      let Y : Outcome → Type 0 = Answers s x i in
      answers_blame B Y s x Num.Lock _ (refused_so s x i Num.Lock) (ends_then B Y (wished s x a.locktype a.offset a.length) _
      (wished_blames s whole x i refl refl a.locktype a.offset a.length refl) (λ w asks.
      ends_then B Y (require (not a.reclaim) S.NoGrace) _ (held_blames B (not a.reclaim) S.NoGrace (λ off. inr (a, refl, not-false a.reclaim off))) (λ u e.
      ends_then B Y (meant x Any (stateid_in a.locker)) _ (meant_so a a.locker refl) (λ id means. locked_so a (locks_as s.opens a.locker id w) (lock_faults each a w asks id means)))))
