use Rattle.std.proofs.Common.{◌≡◌, Some, ℕ, sym, subst, ap, ◌∙◌, arith, refl}
use Rattle.nfs_xdr.proofs.Lists.{find_in}
use Rattle.std.specs.{Prelude.{Ok, ◌==◌}, Option.option_copied}
use Rattle.nfs_opens.specs.{contracts.opens.Opens.the_view, declared.records.LockState.LockState, Holding.held_by}
use Rattle.nfs_opens.specs.{Table.{Kept, table, answer_of, table_after, lock_at}, TableInvariants.IsTable, Locking.{lock_judged, lock_as}}
use Rattle.nfs_opens.proofs.{LockLemmas.same_table, StepLemmas.{if_some, lock_as_is, table_locked}, LockedLemmas.{listed_set, listed_raised}}
use Rattle.nfs_opens.proofs.opens.Opens.lock_as.Goals as goal

pub invariant_of-self-2 : goal.invariant_of-self-2
invariant_of-self-2 c =
    let found : lock_at (table (the_view c.self.inside)) c.args.state ≡ Some c.in-Some.lock.now =
    sym c.get.ensures ∙ ap option_copied c.in-Some.is in
    let judged : lock_judged (table (the_view c.self.inside)) c.args.state c.args.access c.args.wish.now ≡ Ok tt =
    ap (λ (k : Kept). lock_judged (table k) c.args.state c.args.access c.args.wish.now) c.self.view_is ∙ (sym c.judge_lock.ensures ∙ c.in_ok-judge_lock.was) in
    let of_file : c.in-Some.lock.now.file ≡ c.args.wish.now.file =
    if_some _ c.in-Some.lock.now (λ (l : LockState). l.file ≡ c.args.wish.now.file) (ap (λ (k : Kept). lock_at (table k) c.args.state) (sym c.self.view_is)
    ∙ found) c.requires.file in
    let same = same_table c.self.inside.opens.items _ c.raise.new.self.items _ (held_by c.set.new.self) _ c.self.inside.last c.self.inside.instance
    refl c.raise.ensures c.in_ok-set.ensures.ok in
    record {
      table = subst IsTable (sym same)
          (table_locked (table (the_view c.self.inside)) c.args.wish.now c.args.state c.args.access c.in-Some.lock.now c.self.invariant.table
          c.requires.range (omega arith) judged found of_file);
      listed = listed_raised c.args.state c.self.inside.locks.items c.raise.new.self.items c.set.new.self
          (listed_set c.self.inside.locks.items c.args.wish.now.file c.in-Some.lock.now c.self.inside.files c.set.new.self c.self.invariant.listed c.set.ensures.listed
          (find_in (λ (l : LockState). l.number == c.args.state) c.self.inside.locks.items c.in-Some.lock.now found).0 of_file) c.raise.ensures;
      room = c.self.invariant.room;
    }

pub returns-clause-locks : goal.returns-clause-locks
returns-clause-locks c =
    let found : lock_at (table (the_view c.self.inside)) c.args.state ≡ Some c.in-Some.lock.now =
    sym c.get.ensures ∙ ap option_copied c.in-Some.is in
    let judged : lock_judged (table (the_view c.self.inside)) c.args.state c.args.access c.args.wish.now ≡ Ok tt =
    ap (λ (k : Kept). lock_judged (table k) c.args.state c.args.access c.args.wish.now) c.self.view_is ∙ (sym c.judge_lock.ensures ∙ c.in_ok-judge_lock.was) in
    let is = lock_as_is (table (the_view c.self.inside)) c.args.wish.now c.args.state c.args.access c.in-Some.lock.now judged found in
    let same = same_table c.self.inside.opens.items _ c.raise.new.self.items _ (held_by c.set.new.self) _ c.self.inside.last c.self.inside.instance
    refl c.raise.ensures c.in_ok-set.ensures.ok in
    subst (λ (k : Kept). (Ok (record { seqid = c.next_seqid-seqid.result; instance = c.self.inside.instance; number = c.args.state }) ≡
    answer_of (lock_as (table k) c.args.wish.now c.args.state c.args.access))
    × (record {
      opens = c.self.inside.opens.items;
      locks = c.raise.new.self.items;
      held = held_by c.set.new.self;
      last = c.self.inside.last;
      instance =
          c.self.inside.instance;
    } ≡ table_after (table k) (lock_as (table k) c.args.wish.now c.args.state c.args.access)))
    c.self.view_is (
      ap (λ (s : ℕ). Ok (record { seqid = s; instance = c.self.inside.instance; number = c.args.state })) c.next_seqid-seqid.ensures
          ∙ sym (ap answer_of is),
      same ∙ sym (ap (table_after (table (the_view c.self.inside))) is),
    )
