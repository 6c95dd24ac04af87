-- Each operation on open files had effects that fit, or none: the one walk over the operations.
use Rattle.std.proofs.Common.{◌≡◌, ℕ, suc, ◌+◌, Bool, true, false, Option, Some, None, [], ◌∷◌, refl, sym, ◌∙◌, ap, subst, inl, inr}
use Rattle.std.proofs.lemmas.Bool.{cases_Bool, eqb-true, eqb-false}
use Rattle.std.specs.Prelude.{◌==◌, ◌&&◌, Ok}
use Rattle.nfs_xdr.specs.{Checks.first_fault, Tables.In, declared.time.Time.Time}
use Rattle.nfs_xdr.proofs.{Lists.find_in, Tables.in_once}
use Rattle.nfs_compound.specs.{Arguments.arguments, declared.stateid.Stateid.Stateid, declared.open_args.Close.Close}
use Rattle.nfs_compound.specs.{declared.open_args.OpenDowngrade.OpenDowngrade, declared.lock_args.LockU.LockU, declared.lock_args.Lock.Lock}
use Rattle.nfs_compound.specs.{declared.file_args.Write.Write, declared.file_args.SetAttr.SetAttr, declared.open_args.Open.Open, declared.op.Op.Op}
use Rattle.nfs_compound.specs.{declared.op.Item.Item, declared.op.Item.TheVariants.{Operation, Fault}}
use Rattle.nfs_compound.specs.declared.op_num.OpNum.TheVariants as Num
use Rattle.nfs_results.specs.{declared.res.Res.Res, Results.status_of_result}
use Rattle.nfs_tree.specs.{Bytes.has_bytes, Calls.write_fault}
use Rattle.nfs_ranges.specs.declared.Held.{Held}
use Rattle.nfs_opens.specs.{declared.stateid.StateId.StateId, declared.records.OpenState.OpenState, declared.records.LockState.LockState, StateId.last_number}
use Rattle.nfs_opens.specs.{Table.{Table, open_at, lock_at}, TableInvariants.IsTable}
use Rattle.nfs_opens.specs.Locking as locking
use Rattle.nfs_opens.proofs.CallLaws.{IsLocked}
use Rattle.nfs_names.specs.{declared.context.Context.Context, declared.node.Node.Node, State.{State, with_tree}, Ending.with_opens, Faults.tree_fault_status}
use Rattle.nfs_names.specs.{Outcome.{Outcome, checked, done, is_ok}, Checks.current}
use Rattle.nfs_names.proofs.{Found.checked_ok, Ones.by_delay, Effects.Makes, Rows.none_mapped}
use Rattle.nfs_files.specs.{declared.opening.Found.Found, declared.opening.Found.TheVariants.{There, Absent}, declared.ranges.Wished.Wished}
use Rattle.nfs_files.specs.{declared.setting.Setting.Setting, Bytes.{file_checks, behind_sets}, Operation.grows, Close.close, Parts.{readable, writable}}
use Rattle.nfs_files.specs.{Commit.write_verifier, FreeStateid.free_stateid, LockU.lock_u, OpenParts.tree_fault}
use Rattle.nfs_files.specs.{OpenDowngrade.{bits, open_downgrade}, Read.was_read, TestStateid.test_stateid}
use Rattle.nfs_files.specs.Parts as parts
use Rattle.nfs_files.specs.Lock as of_lock
use Rattle.nfs_files.specs.OpenParts as open_parts
use Rattle.nfs_files.specs.Open as of_open
use Rattle.nfs_files.specs.SetAttrParts as set_parts
use Rattle.nfs_files.specs.SetAttr as of_set
use Rattle.nfs_files.specs.Write as of_write
use Rattle.nfs_files.proofs.Terms.{tested}
use Rattle.nfs_files.proofs.{WriteRows.write_found, SetRows.set_found, OpenAnswers.file_regular_behind, Granted.tree_free, Opened.shared_free}
use Rattle.nfs_files.proofs.{OthersTables.{OpensAreOf, LocksAreOf, lock_is_of}, Outcomes.{one, one_or_delay, comes_to}}
use Rattle.nfs_files.proofs.OpensMoved.{answered, by_close, by_free, by_downgrade, by_lock, by_unlock}
use Rattle.nfs_files.proofs.Wishes.{IsWish, wish_is, wish_range, lock_wish, unlock_wish}
use Rattle.nfs_files.proofs.Effects.{Effect, Names, Writes, Resizes, Changes, Opens, Narrows, Closes, Locks, Begins, Unlocks, Frees, Fits, Cause, Caused, Did, OpensAs, behind, table_behind, opens_behind, kept}
use Rattle.nfs_files.proofs.InSteps.{write_is, set_attr_is, commit_is, test_is, read_is}
use Rattle.nfs_files.proofs.InSteps as in_steps

-- Whose an open or a lock state is that was found under its number.
locks_of : (t : Table) (n client : ℕ) (l : LockState) → IsTable t → lock_at t n ≡ Some l → l.client ≡ client → LocksAreOf t n client
locks_of t n client l is found mine =
    let there = find_in (λ (l : LockState). l.number == n) t.locks l found in lock_is_of t n client l is there.0 (eqb-true _ _ there.1) mine

open_is : (t : Table) (n : ℕ) (o : OpenState) → IsTable t → open_at t n ≡ Some o → (p : OpenState) → In p t.opens → p.number ≡ n → p ≡ o
open_is t n o is found p here named =
    let there = find_in (λ (o : OpenState). o.number == n) t.opens o found in
    in_once (λ (o : OpenState). o.number) 1 (suc t.last) t.opens p o is.opens here there.0 (named ∙ sym (eqb-true _ _ there.1))

opens_of : (t : Table) (n client : ℕ) (o : OpenState) → IsTable t → open_at t n ≡ Some o → o.client ≡ client → OpensAreOf t n client
opens_of t n client o is found mine p here named = ap (λ (o : OpenState). o.client) (open_is t n o is found p here named) ∙ mine

module _ (s : State) (x : Context) where
  -- no effect, or one alone
  nothing : (op : Op) (r : Res) → Did s x op (done s x r)
  nothing op r = record { effects = []; caused = tt; state = refl; client = refl }

  had : (op : Op) (o : Outcome) (e : Effect) → (IsTable s.opens → Fits s x.client e) → Cause s x op o.result e → is_ok (status_of_result o.result) ≡ true
      → o.state ≡ behind s e → o.context.client ≡ x.client → Did s x op o
  had op o e fits cause ok state client =
      record { effects = e ∷ []; caused = (record { fits = fits; cause = cause; ok = ok }, tt); state = state; client = client }

  -- LOCK
  locked_did : (a : Lock) (k : Wished) (did : StateId × Table) → parts.locking s x a ≡ Ok k → of_lock.locks_as s.opens a.locker k.id k.wish ≡ Ok did
      → IsLocked s.opens k.wish did → Did s x (Op.Lock a) (of_lock.locked s x (Ok did))
  locked_did a k did judged granted (inl more) =
      let wish = lock_wish s x a k judged in
      let is : IsWish x a.offset a.length k.wish = wish_is s x a.locktype a.offset a.length k.wish wish in
      had (Op.Lock a) (of_lock.locked s x (Ok did)) (Locks more.number k.wish) (λ table. record {
        range = wish_range s x a.locktype a.offset a.length k.wish wish;
        access = more.access;
        judged = more.judged;
        state = more.state;
        found = more.found;
        of_file = (more.own table).1;
        mine = locks_of s.opens more.number x.client more.state table more.found ((more.own table).0 ∙ is.client);
      }) (record {
        asked = a;
        id = k.id;
        did = did;
        is = refl;
        judged = judged;
        granted = granted;
        state = ap (λ (i : StateId). i.number) more.answer;
      }) refl (ap (with_opens s) more.left) refl
  locked_did a k did judged granted (inr first) =
      let wish = lock_wish s x a k judged in
      let is : IsWish x a.offset a.length k.wish = wish_is s x a.locktype a.offset a.length k.wish wish in
      had (Op.Lock a) (of_lock.locked s x (Ok did)) (Begins first.opened first.owner k.wish) (λ table. record {
        mine = is.client;
        left = eqb-false s.opens.last last_number first.room;
        range = wish_range s x a.locktype a.offset a.length k.wish wish;
        access = first.access;
        judged = first.judged;
        state = first.state;
        found = first.found;
        same = first.mine;
        of_file = first.there;
        table = table;
      }) (record {
        asked = a;
        id = k.id;
        did = did;
        is = refl;
        judged = judged;
        granted = granted;
        state = ap (λ (i : StateId). i.number) first.answer;
      }) refl (ap (with_opens s) first.left) refl

  -- LOCKU
  unlock_did : (a : LockU) → Did s x (Op.LockU a) (lock_u s x a)
  unlock_did a = by_unlock (Did s x (Op.LockU a)) s x a (λ status. nothing _ _) (λ k did judged granted law.
      (let is : IsWish x a.offset a.length k.wish = wish_is s x a.locktype a.offset a.length k.wish (unlock_wish s x a k judged) in
      had (Op.LockU a) _ (Unlocks k.id.number k.wish) (λ table. locks_of s.opens k.id.number x.client law.state table law.found (law.mine ∙ is.client))
      (record { asked = a; id = k.id; did = did; is = refl; judged = judged; granted = granted; state = refl }) refl (ap (with_opens s) law.left) refl))

  -- CLOSE
  close_did : (a : Close) → Did s x (Op.Close a) (close s x a)
  close_did a = by_close (Did s x (Op.Close a)) s x a (λ status. nothing _ _) (λ t did judged granted law.
      had (Op.Close a) _ (Closes t.id.number t.file) (λ table. record {
        mine = opens_of s.opens t.id.number x.client law.state table law.found law.mine;
        of_file = λ o there named. ap (λ (o : OpenState). o.file) (open_is s.opens t.id.number law.state table law.found o there named) ∙ law.there;
        table = table;
      }) (record { asked = a; file = t.file; id = t.id; did = did; is = refl; judged = judged; granted = granted; opened = refl }) refl refl refl)

  -- FREE_STATEID
  free_did : (given : Stateid) → Did s x (Op.FreeStateid given) (free_stateid s x given)
  free_did given = by_free (Did s x (Op.FreeStateid given)) s x given (λ status. nothing _ _) (λ id did law.
      had (Op.FreeStateid given) _ (Frees id.number) (λ table. record {
        state = law.state;
        found = law.found;
        empty = law.empty;
        mine = locks_of s.opens id.number x.client law.state table law.found law.mine;
        table = table;
      }) tt refl refl refl)

  -- OPEN_DOWNGRADE
  downgrade_did : (a : OpenDowngrade) → Did s x (Op.OpenDowngrade a) (open_downgrade s x a)
  downgrade_did a = by_downgrade (Did s x (Op.OpenDowngrade a)) s x a (λ status. nothing _ _) (λ t did law.
      had (Op.OpenDowngrade a) _ (Narrows t.id.number (bits a.share_access) (bits a.share_deny)) (λ table. record {
        state = law.state;
        found = law.found;
        narrower = law.narrower;
        mine = opens_of s.opens t.id.number x.client law.state table law.found law.mine;
      }) (a, refl) refl refl refl)

  -- OPEN
  opened_did : (now : Time) (a : Open) (f : Found) → open_parts.asked_for s x a ≡ Ok f → tree_fault s.tree a f ≡ None
      → (IsTable s.opens → Fits (with_tree s (of_open.tree_of s.tree x now a f)) x.client (Opens (of_open.asking x a (of_open.file_of s.tree f))))
      → Did s x (Op.Open a) (of_open.opened s x now a f)
  opened_did now a (There place f true) is none fits =
      let opens : OpensAs s x (Op.Open a) (of_open.opened s x now a (There place f true)).result (There place f true) =
      record { asked = a; is = refl; found = is; ok = _; sets = refl; answers = refl } in
      record {
        effects = Resizes f.number 0 (behind_sets s.tree x f) now ∷ Opens (of_open.asking x a f.number) ∷ [];
        caused = (
          record { fits = λ table. none; cause = inr (record { place = place; file = f; opens = opens; number = refl; empty = refl; set = refl }); ok = refl },
          (record { fits = fits; cause = (There place f true, opens); ok = refl }, tt),
        );
        state = refl;
        client = refl;
      }
  opened_did now a (There place f false) is none fits =
      had (Op.Open a) (of_open.opened s x now a (There place f false)) (Opens (of_open.asking x a f.number)) fits
      (There place f false, record { asked = a; is = refl; found = is; ok = _; sets = refl; answers = refl }) refl refl refl
  opened_did now a (Absent m) is none fits =
      let opens : OpensAs s x (Op.Open a) (of_open.opened s x now a (Absent m)).result (Absent m) =
      record { asked = a; is = refl; found = is; ok = _; sets = refl; answers = refl } in
      record {
        effects = Names (Makes m.place.number (of_open.name_of a.claim) (of_open.new_of a m.wanted) (of_open.made_sets s.tree x now a m) now)
            ∷ Opens (of_open.asking x a (s.tree.last_object + 1)) ∷ [];
        caused = (
          record { fits = λ table. none; cause = (Absent m, opens); ok = refl },
          (record { fits = fits; cause = (Absent m, opens); ok = refl }, tt),
        );
        state = refl;
        client = refl;
      }

  open_did : (now : Time) (a : Open) → Did s x (Op.Open a) (of_open.open_file s x now a)
  open_did now a =
      rw (in_steps.open_is s x now a)
      (answered (Did s x (Op.Open a)) s x Num.Open (checked (open_parts.asked_for s x a) (of_open.last_checks s x a)) (of_open.opened s x now a)
      (λ status. nothing _ _) (λ f granted.
      (let p = checked_ok (open_parts.asked_for s x a) (of_open.last_checks s x a) f granted in
      opened_did now a f p.0 (tree_free s x a f p.0 p.1)
      (λ table. record { mine = refl; regular = file_regular_behind s x now a f p.0; free = shared_free s x a f p.1; table = table }))))

  -- WRITE
  written_did : (now : Time) (w : Write) (d : Node) → writable s x w.stateid (current s x) ≡ Ok d → first_fault (of_write.last_checks s w d) ≡ None
      → write_fault s.tree d.number w.offset w.bytes ≡ None → Did s x (Op.Write w) (parts.was_written s x now w d)
  written_did now w d found checks none = elim (cases_Bool (has_bytes w.bytes)) [
    | inl some ↦ had (Op.Write w) (parts.was_written s x now w d) (Writes d.number w.offset w.bytes (behind_sets s.tree x d) now) (λ table. (none, some)) (record {
      asked = w;
      is = refl;
      from = refl;
      bytes = refl;
      file = d;
      found = found;
      checked = checks;
      some = some;
      number = refl;
      set = refl;
      answers = refl;
    }) refl (rw some refl) refl
    | inr empty ↦ record { effects = []; caused = tt; state = rw empty refl; client = refl }
  ]

  write_did : (now : Time) (w : Write) → Did s x (Op.Write w) (of_write.write s x now w)
  write_did now w =
      rw (write_is s x now w)
      (answered (Did s x (Op.Write w)) s x Num.Write (checked (writable s x w.stateid (current s x)) (of_write.last_checks s w)) (parts.was_written s x now w)
      (λ status. nothing _ _) (λ d granted.
      (let p = checked_ok (writable s x w.stateid (current s x)) (of_write.last_checks s w) d granted in
      written_did now w d p.0 p.1 (none_mapped tree_fault_status (write_fault s.tree d.number w.offset w.bytes) (write_found s x w d p.0 ∙ p.1)))))

  -- SETATTR
  set_did : (now : Time) (a : SetAttr) (m : Setting) (size : Option ℕ) → m.wanted.size ≡ size → set_parts.asked_for s x a ≡ Ok m
      → set_parts.tree_fault s.tree m.node.number m.wanted size ≡ None
      → Did s x (Op.SetAttr a) (record (set_parts.was_set s x now a m) { state = with_tree s (of_set.with_set s.tree x m.node now m.wanted size) })
  set_did now a m (Some size) is found none = had (Op.SetAttr a) _ (Resizes m.node.number size (of_set.settled_sets s.tree x m.node now m.wanted) now) (λ table. none)
      (inl (record { asked = a; is = refl; setting = m; found = found; number = refl; sets = is; words = _; answers = refl })) refl refl refl
  set_did now a m None is found none = elim (cases_Bool (of_set.gives_some m.wanted)) [
    | inl some ↦ had (Op.SetAttr a) _ (Changes m.node.number (of_set.settled_sets s.tree x m.node now m.wanted) now) (λ table. tt)
        (record { asked = a; is = refl; setting = m; found = found; number = refl; sets = is; words = _; answers = refl }) refl (rw some refl) refl
    | inr empty ↦ record { effects = []; caused = tt; state = rw empty refl; client = refl }
  ]

  set_attr_did : (now : Time) (a : SetAttr) → Did s x (Op.SetAttr a) (of_set.set_attr s x now a)
  set_attr_did now a =
      rw (set_attr_is s x now a)
      (answered (Did s x (Op.SetAttr a)) s x Num.SetAttr (checked (set_parts.asked_for s x a) (set_parts.last_checks s)) (set_parts.was_set s x now a)
      (λ status. nothing _ _) (λ m granted.
      (let p = checked_ok (set_parts.asked_for s x a) (set_parts.last_checks s) m granted in
      set_did now a m m.wanted.size refl p.0
      (none_mapped tree_fault_status (set_parts.tree_fault s.tree m.node.number m.wanted m.wanted.size) (set_found s x a m p.0 ∙ p.1)))))

  tested_did : (op : Op) (o : Option Held) → Did s x op (tested s x o)
  tested_did op None = nothing op _
  tested_did op (Some h) = nothing op _

  -- By the operation.
  did_one : (now : Time) (op : Op) → Did s x op (one s x now op)
  unfolding test_stateid
  did_one now (Op.Close a) = close_did a
  did_one now (Op.Commit a) =
      rw (commit_is s x)
      (answered {A = Node} (Did s x (Op.Commit a)) s x Num.Commit (checked (current s x) file_checks) (λ d. done s x (Res.Commit (write_verifier s)))
      (λ status. nothing _ _) (λ d e. nothing _ _))
  did_one now (Op.FreeStateid given) = free_did given
  did_one now (Op.Lock a) =
      by_lock (Did s x (Op.Lock a)) s x a (λ status. nothing _ _) (λ h. nothing _ _) (λ k did judged granted law. locked_did a k did judged granted law)
  did_one now (Op.LockT a) = rw (test_is s x a) (answered (Did s x (Op.LockT a)) s x Num.LockT _ _ (λ status. nothing _ _)
      (λ w e. tested_did (Op.LockT a) (locking.test_lock s.opens a.owner.owner w)))
  did_one now (Op.LockU a) = unlock_did a
  did_one now (Op.Open a) = open_did now a
  did_one now (Op.OpenDowngrade a) = downgrade_did a
  did_one now (Op.Read a) =
      rw (read_is s x a)
      (answered {A = Node} (Did s x (Op.Read a)) s x Num.Read (readable s x a.stateid (current s x)) (λ d. done s x (Res.Read (was_read s a d)))
      (λ status. nothing _ _) (λ d e. nothing _ _))
  did_one now (Op.SetAttr a) = set_attr_did now a
  did_one now (Op.TestStateid given) = nothing (Op.TestStateid given) _
  did_one now (Op.Write a) = write_did now a
  did_one now op = nothing op _

  pub did : (refused : Bool) (now : Time) (op : Op) → Did s x op (one_or_delay refused s x now op)
  did refused now op = by_delay (Did s x op) (grows s x op && refused) s x (arguments op).op (one s x now op) (nothing op _) (did_one now op)

-- What each effect keeps that an operation has, the operation keeps; and what holds of no operation is kept where there is none.
pub caused_item : (P : State → Type 0) (refused : Bool) (s : State) (x : Context) (now : Time) (i : Item)
    → ((op : Op) → i ≡ Operation op → (t : State) (e : Effect) → Caused s x op (comes_to refused s x now i).result t e → P t → P (behind t e))
    → P s → P (comes_to refused s x now i).state
caused_item P refused s x now (Operation op) each is = kept P s x op (one_or_delay refused s x now op) (did s x refused now op) (each op refl) is
caused_item P refused s x now (Fault n status) each is = is

-- the same of the table of opens
pub caused_opens : (P : Table → Type 0) (refused : Bool) (s : State) (x : Context) (now : Time) (i : Item)
    → ((op : Op) → i ≡ Operation op → (t : State) (e : Effect) → Caused s x op (comes_to refused s x now i).result t e → P t.opens → P (table_behind t.opens e))
    → P s.opens → P (comes_to refused s x now i).state.opens
caused_opens P refused s x now i each is =
    caused_item (λ t. P t.opens) refused s x now i (λ op same t e caused is. subst P (sym (opens_behind t e)) (each op same t e caused is)) is

-- and of what each effect keeps that fits, whatever caused it
pub kept_item : (P : State → Type 0) (refused : Bool) (s : State) (x : Context) (now : Time) (i : Item)
    → ((t : State) (e : Effect) → (IsTable s.opens → Fits t x.client e) → P t → P (behind t e)) → P s → P (comes_to refused s x now i).state
kept_item P refused s x now i each is = caused_item P refused s x now i (λ op same t e caused is. each t e caused.fits is) is

pub kept_opens : (P : Table → Type 0) (refused : Bool) (s : State) (x : Context) (now : Time) (i : Item)
    → ((t : State) (e : Effect) → (IsTable s.opens → Fits t x.client e) → P t.opens → P (table_behind t.opens e))
    → P s.opens → P (comes_to refused s x now i).state.opens
kept_opens P refused s x now i each is = caused_opens P refused s x now i (λ op same t e caused is. each t e caused.fits is) is

pub same_client : (refused : Bool) (s : State) (x : Context) (now : Time) (i : Item) → (comes_to refused s x now i).context.client ≡ x.client
same_client refused s x now (Operation op) = (did s x refused now op).client
same_client refused s x now (Fault n status) = refl
