use Rattle.std.proofs.{Common.{◌≡◌, ◌<◌, ◌+◌, ◌++◌, ◌∷◌, [], List, suc, sym, subst, ap, ◌∙◌, arith, refl}, lemmas.Grind.common_steps, lemmas.Bool.ne_eqb}
use Rattle.std.specs.Prelude.{Ok}
use Rattle.nfs_opens.specs.{contracts.opens.Opens.the_view, Holding.held_by, Table.{Kept, table, answer_of, table_after, open_at}, TableInvariants.IsTable}
use Rattle.nfs_opens.specs.{Locking.{lock_judged, lock_first}, declared.records.LockState.LockState}
use Rattle.nfs_opens.proofs.{LockLemmas.same_table, StepLemmas.{judged_tells, table_first, lock_first_is}, CallLaws.first_state, LockedLemmas.listed_pushed}
use Rattle.nfs_opens.proofs.opens.Opens.lock_first.Goals as goal
use Rattle.nfs_xdr.proofs.{Lists.some_there, Tables.in_bounds}
use Rattle.nfs_xdr.specs.Tables.{In}

pub push-requires-clause-behind : goal.push-requires-clause-behind
push-requires-clause-behind c = subst (λ (ls : List LockState). (l : LockState) → In l ls → l.number < c.self.inside.last + 1) (sym c.reserve.ensures.items)
    (λ l there. let up = (in_bounds (λ (l : LockState). l.number) 1 (suc c.self.inside.last) c.self.inside.locks.items l c.self.invariant.table.locks there).1 in omega arith)

pub invariant_of-self-2 : goal.invariant_of-self-2
invariant_of-self-2 c =
    let judged : lock_judged (table (the_view c.self.inside)) 0 c.args.access c.args.wish.now ≡ Ok tt =
    ap (λ (k : Kept). lock_judged (table k) 0 c.args.access c.args.wish.now) c.self.view_is ∙ (sym c.judge_lock.ensures ∙ c.in_ok-judge_lock.was) in
    let items : c.push.new.self.items ≡ c.self.inside.locks.items ++ first_state (table (the_view c.self.inside)) c.args.wish.now c.args.owner.now
    c.args.opened ∷ [] = grind (arith, common_steps) in
    let same = same_table c.self.inside.opens.items _ c.push.new.self.items _ (held_by c.set.new.self) _
    (c.self.inside.last + 1) c.self.inside.instance refl items c.in_ok-set.ensures.ok in
    let (o, found, under) = some_there _ _ c.requires.under in
    record {
      table = subst IsTable (sym same)
          (table_first (table (the_view c.self.inside)) c.args.wish.now c.args.owner.now c.args.opened o c.self.invariant.table c.requires.range (omega arith)
          (judged_tells (table (the_view c.self.inside)) 0 c.args.access c.args.wish.now c.self.invariant.table c.requires.range (omega arith) judged)
          (ap (λ (k : Kept). open_at (table k) c.args.opened) c.self.view_is ∙ found) under.0 under.1);
      listed = listed_pushed c.self.inside.locks.items c.push.new.self.items (first_state (table (the_view c.self.inside)) c.args.wish.now c.args.owner.now c.args.opened)
          c.self.inside.files c.set.new.self c.self.invariant.listed items c.set.ensures.listed;
      room = c.self.invariant.room;
    }

pub returns-clause-locks : goal.returns-clause-locks
returns-clause-locks c =
    let judged : lock_judged (table (the_view c.self.inside)) 0 c.args.access c.args.wish.now ≡ Ok tt =
    ap (λ (k : Kept). lock_judged (table k) 0 c.args.access c.args.wish.now) c.self.view_is ∙ (sym c.judge_lock.ensures ∙ c.in_ok-judge_lock.was) in
    let items : c.push.new.self.items ≡ c.self.inside.locks.items ++ first_state (table (the_view c.self.inside)) c.args.wish.now c.args.owner.now
    c.args.opened ∷ [] = grind (arith, common_steps) in
    let same = same_table c.self.inside.opens.items _ c.push.new.self.items _ (held_by c.set.new.self) _
    (c.self.inside.last + 1) c.self.inside.instance refl items c.in_ok-set.ensures.ok in
    let is = lock_first_is (table (the_view c.self.inside)) c.args.wish.now c.args.opened c.args.owner.now c.args.access judged (ne_eqb _ _ c.if-self.false) in
    subst (λ (k : Kept). (Ok (record { seqid = 1; instance = c.self.inside.instance; number = c.self.inside.last + 1 }) ≡
    answer_of (lock_first (table k) c.args.wish.now c.args.opened c.args.owner.now c.args.access))
    × (record {
      opens = c.self.inside.opens.items;
      locks = c.push.new.self.items;
      held = held_by c.set.new.self;
      last = c.self.inside.last + 1;
      instance =
          c.self.inside.instance;
    } ≡ table_after (table k) (lock_first (table k) c.args.wish.now c.args.opened c.args.owner.now c.args.access)))
    c.self.view_is
    (sym (ap answer_of is), same ∙ sym (ap (table_after (table (the_view c.self.inside))) is))
