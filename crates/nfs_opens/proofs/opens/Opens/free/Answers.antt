use Rattle.std.proofs.Common.{◌≡◌, Bool, true, false, not, ℕ, Option, Some, None, List, sym, subst, ap, ◌∙◌, refl}
use Rattle.std.specs.{Prelude.{◌==◌, Result, Ok, ok_or}, Option.option_copied}
use Rattle.nfs_xdr.specs.{declared.status.Status.Status, declared.status.Status.TheVariants.{BadStateId, LocksHeld}}
use Rattle.nfs_ranges.specs.Holders.{holds_any}
use Rattle.nfs_opens.specs.{contracts.opens.Opens.the_view, declared.judging.Seat.Seat, declared.judging.Sort.TheVariants.Either}
use Rattle.nfs_opens.specs.{declared.stateid.StateId.StateId, declared.records.LockState.LockState, Holding.held_by, Steps.{◌>>=◌, ◌>>◌, require}}
use Rattle.nfs_opens.specs.{Table.{Kept, Table, table, answer_of, table_after, lock_at}, TableInvariants.{AreHolders, IsTable}, Judging.judge}
use Rattle.nfs_opens.specs.Closing.{lock_in, without_lock, free}
use Rattle.nfs_opens.proofs.{CallLaws.goes_on, LockLemmas.same_table, StepLemmas.free_keeps, LockedLemmas.{listed_left, one_file}}
use Rattle.nfs_opens.proofs.opens.Opens.free.Goals as goal

-- what it comes to by what is found under the number, and by whether that holds a byte
abbrev by_held : Table → ℕ → Bool → Result (Unit {0} × Table) Status
by_held t n held = do
  require (not held) LocksHeld
  Ok (tt, without_lock t n)

abbrev by_state : Table → ℕ → Option LockState → Result (Unit {0} × Table) Status
by_state t n o = do
  l ← ok_or o BadStateId
  by_held t n (holds_any (t.held l.file) n)

judged : (t : Table) (id : StateId) (client : ℕ) (seat : Seat) (n : ℕ) (o : Option LockState) → judge t id client None Either ≡ Ok seat → lock_in seat ≡ Ok n
    → lock_at t n ≡ o → free t id client ≡ by_state t n o
judged t id client seat n o told named found =
    goes_on (judge t id client None Either) (λ seat. lock_in seat >>= λ n. by_state t n (lock_at t n)) seat told
    ∙ goes_on (lock_in seat) (λ n. by_state t n (lock_at t n)) n named ∙ ap (by_state t n) found

pub returns-in-None-clause-answer : goal.returns-in-None-clause-answer
returns-in-None-clause-answer c =
    sym (ap answer_of (judged (table c.args.self.now) c.args.id c.args.client c.in_ok-judge.field-0 c.in_ok-number.number None
    (sym c.judge.ensures ∙ c.in_ok-judge.was) (sym c.lock_in.ensures ∙ c.in_ok-number.was)
    (ap (λ (k : Kept). lock_at (table k) c.in_ok-number.number) (sym c.self.view_is) ∙ (sym c.get.ensures ∙ ap option_copied c.in-None.is))))

pub returns-in-None-clause-after : goal.returns-in-None-clause-after
returns-in-None-clause-after c =
    sym (ap (table_after (table c.args.self.now)) (judged (table c.args.self.now) c.args.id c.args.client c.in_ok-judge.field-0 c.in_ok-number.number None
    (sym c.judge.ensures ∙ c.in_ok-judge.was) (sym c.lock_in.ensures ∙ c.in_ok-number.was)
    (ap (λ (k : Kept). lock_at (table k) c.in_ok-number.number) (sym c.self.view_is) ∙ (sym c.get.ensures ∙ ap option_copied c.in-None.is))))

pub returns-then-any-clause-answer : goal.returns-then-any-clause-answer
returns-then-any-clause-answer c =
    let t = table c.args.self.now in
    let n = c.in_ok-number.number in
    let l = c.in-Some.lock.now in
    let is = judged t c.args.id c.args.client c.in_ok-judge.field-0 n (Some l) (sym c.judge.ensures ∙ c.in_ok-judge.was) (sym c.lock_in.ensures ∙ c.in_ok-number.was)
    (ap (λ (k : Kept). lock_at (table k) n) (sym c.self.view_is) ∙ (sym c.get.ensures ∙ ap option_copied c.in-Some.is)) in
    let held : holds_any (t.held l.file) n ≡ true = ap (λ (k : Kept). holds_any ((table k).held l.file) n) (sym c.self.view_is) ∙ (sym c.any.ensures ∙ c.if-any.true) in
    sym (ap answer_of (is ∙ ap (by_held t n) held))

pub returns-then-any-clause-after : goal.returns-then-any-clause-after
returns-then-any-clause-after c =
    let t = table c.args.self.now in
    let n = c.in_ok-number.number in
    let l = c.in-Some.lock.now in
    let is = judged t c.args.id c.args.client c.in_ok-judge.field-0 n (Some l) (sym c.judge.ensures ∙ c.in_ok-judge.was) (sym c.lock_in.ensures ∙ c.in_ok-number.was)
    (ap (λ (k : Kept). lock_at (table k) n) (sym c.self.view_is) ∙ (sym c.get.ensures ∙ ap option_copied c.in-Some.is)) in
    let held : holds_any (t.held l.file) n ≡ true = ap (λ (k : Kept). holds_any ((table k).held l.file) n) (sym c.self.view_is) ∙ (sym c.any.ensures ∙ c.if-any.true) in
    sym (ap (table_after t) (is ∙ ap (by_held t n) held))

pub forget_unlocked-requires : goal.forget_unlocked-requires
forget_unlocked-requires c =
    let t = table (the_view c.self.inside) in
    let found : lock_at t c.in_ok-number.number ≡ Some c.in-Some.lock.now = sym c.get.ensures ∙ ap option_copied c.in-Some.is in
    subst (λ (ls : List LockState). AreHolders ls t.held) (sym c.remove.ensures)
    (free_keeps t c.in_ok-number.number c.in-Some.lock.now c.self.invariant.table found (sym c.any.ensures ∙ c.if-any.false)).holders

pub invariant_of-self : goal.invariant_of-self
invariant_of-self c =
    let t = table (the_view c.self.inside) in
    let n = c.in_ok-number.number in
    let found : lock_at t n ≡ Some c.in-Some.lock.now = sym c.get.ensures ∙ ap option_copied c.in-Some.is in
    let same = same_table c.self.inside.opens.items _ c.remove.new.self.items _
    (held_by c.forget_unlocked.new.files) _ c.self.inside.last c.self.inside.instance refl c.remove.ensures c.forget_unlocked.ensures.held in
    record {
      table = subst IsTable (sym same) (free_keeps t n c.in-Some.lock.now c.self.invariant.table found (sym c.any.ensures ∙ c.if-any.false));
      listed = listed_left (λ l. l.number == n) c.in-Some.lock.now.file c.self.inside.locks.items c.remove.new.self.items c.self.inside.files c.forget_unlocked.new.files
          c.self.invariant.listed (one_file t n c.in-Some.lock.now c.self.invariant.table found) c.remove.ensures c.forget_unlocked.ensures.listed
          c.forget_unlocked.ensures.gone;
      room = c.self.invariant.room;
    }

pub returns-clause-answer : goal.returns-clause-answer
returns-clause-answer c =
    let t = table c.args.self.now in
    let n = c.in_ok-number.number in
    let l = c.in-Some.lock.now in
    let is = judged t c.args.id c.args.client c.in_ok-judge.field-0 n (Some l) (sym c.judge.ensures ∙ c.in_ok-judge.was) (sym c.lock_in.ensures ∙ c.in_ok-number.was)
    (ap (λ (k : Kept). lock_at (table k) n) (sym c.self.view_is) ∙ (sym c.get.ensures ∙ ap option_copied c.in-Some.is)) in
    let held : holds_any (t.held l.file) n ≡ false = ap (λ (k : Kept). holds_any ((table k).held l.file) n) (sym c.self.view_is) ∙ (sym c.any.ensures ∙ c.if-any.false) in
    sym (ap answer_of (is ∙ ap (by_held t n) held))

pub returns-clause-after : goal.returns-clause-after
returns-clause-after c =
    let t = table c.args.self.now in
    let n = c.in_ok-number.number in
    let l = c.in-Some.lock.now in
    let is = judged t c.args.id c.args.client c.in_ok-judge.field-0 n (Some l) (sym c.judge.ensures ∙ c.in_ok-judge.was) (sym c.lock_in.ensures ∙ c.in_ok-number.was)
    (ap (λ (k : Kept). lock_at (table k) n) (sym c.self.view_is) ∙ (sym c.get.ensures ∙ ap option_copied c.in-Some.is)) in
    let held : holds_any (t.held l.file) n ≡ false = ap (λ (k : Kept). holds_any ((table k).held l.file) n) (sym c.self.view_is) ∙ (sym c.any.ensures ∙ c.if-any.false) in
    same_table c.self.inside.opens.items _ c.remove.new.self.items _
    (held_by c.forget_unlocked.new.files) _ c.self.inside.last c.self.inside.instance refl c.remove.ensures c.forget_unlocked.ensures.held
    ∙ ap (λ (k : Kept). without_lock (table k) n) c.self.view_is ∙ sym (ap (table_after t) (is ∙ ap (by_held t n) held))
