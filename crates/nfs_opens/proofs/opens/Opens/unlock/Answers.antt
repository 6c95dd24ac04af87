use Rattle.std.proofs.Common.{◌≡◌, Some, None, ℕ, sym, subst, ap, ◌∙◌, refl}
use Rattle.std.specs.{Prelude.{Ok, Err, ok_or}, Option.option_copied}
use Rattle.nfs_opens.specs.{contracts.opens.Opens.the_view, declared.locking.OpenFault.TheVariants.Refused, Holding.{held_by, on_file}}
use Rattle.nfs_opens.specs.{Table.{Kept, table, answer_of, table_after, lock_at, with_lock}, TableInvariants.IsTable, Judging.judge}
use Rattle.nfs_opens.specs.{declared.judging.Sort.TheVariants.LockOnly, StateId.next_seqid, Steps.map_err, Locking.{unlock, raised}}
use Rattle.nfs_xdr.specs.declared.status.Status.TheVariants.{BadStateId}
use Rattle.nfs_ranges.specs.Holders.{cleared}
use Rattle.nfs_opens.proofs.{CallLaws.{goes_on, stops}, LockLemmas.same_table, StepLemmas.table_unlocked, LockedLemmas.listed_raised}
use Rattle.nfs_opens.proofs.opens.Opens.unlock.Goals as goal

pub clear_bytes-requires-clause-within : goal.clear_bytes-requires-clause-within
clear_bytes-requires-clause-within c = c.self.invariant.table.within c.args.file

pub returns-in-None-clause-unlocks : goal.returns-in-None-clause-unlocks
returns-in-None-clause-unlocks c =
    let judged : judge (table (the_view c.self.inside)) c.args.id c.args.client (Some c.args.file) LockOnly ≡ Ok c.in_ok-judge.field-0 =
    ap (λ (k : Kept). judge (table k) c.args.id c.args.client (Some c.args.file) LockOnly) c.self.view_is ∙ (sym c.judge.ensures ∙ c.in_ok-judge.was) in
    let found : lock_at (table (the_view c.self.inside)) c.args.id.number ≡ None =
    sym c.get.ensures ∙ ap option_copied c.in-None.is in
    let is : unlock (table (the_view c.self.inside)) c.args.id c.args.client c.args.file c.args.first c.args.last ≡ Err BadStateId =
    goes_on (judge (table (the_view c.self.inside)) c.args.id c.args.client (Some c.args.file) LockOnly) _ c.in_ok-judge.field-0 judged
    ∙ stops (ok_or (lock_at (table (the_view c.self.inside)) c.args.id.number) BadStateId) _ BadStateId
    (ap (λ o. ok_or o BadStateId) found) in
    subst (λ (k : Kept). (Err (Refused BadStateId) ≡ answer_of (map_err Refused (unlock (table k) c.args.id c.args.client c.args.file c.args.first c.args.last))) ×
    (table k ≡ table_after (table k) (map_err Refused (unlock (table k) c.args.id c.args.client c.args.file c.args.first c.args.last))))
    c.self.view_is
    (sym (ap (λ d. answer_of (map_err Refused d)) is), sym (ap (λ d. table_after (table (the_view c.self.inside)) (map_err Refused d)) is))

pub invariant_of-self-2 : goal.invariant_of-self-2
invariant_of-self-2 c =
    let same = same_table c.self.inside.opens.items _ c.raise.new.self.items _
    (held_by c.clear_bytes.new.files) _ c.self.inside.last c.self.inside.instance refl c.raise.ensures c.in_ok-clear_bytes.ensures.ok in
    record {
      table = subst IsTable (sym same)
          (table_unlocked (table (the_view c.self.inside)) c.args.id.number c.args.file c.args.first c.args.last c.self.invariant.table);
      listed = listed_raised c.args.id.number c.self.inside.locks.items c.raise.new.self.items c.clear_bytes.new.files
          (λ f some. c.self.invariant.listed f (c.clear_bytes.ensures.listed f some)) c.raise.ensures;
      room = c.self.invariant.room;
    }

pub returns-clause-unlocks : goal.returns-clause-unlocks
returns-clause-unlocks c =
    let found : lock_at (table (the_view c.self.inside)) c.args.id.number ≡ Some c.in-Some.lock.now =
    sym c.get.ensures ∙ ap option_copied c.in-Some.is in
    let judged : judge (table (the_view c.self.inside)) c.args.id c.args.client (Some c.args.file) LockOnly ≡ Ok c.in_ok-judge.field-0 =
    ap (λ (k : Kept). judge (table k) c.args.id c.args.client (Some c.args.file) LockOnly) c.self.view_is ∙ (sym c.judge.ensures ∙ c.in_ok-judge.was) in
    let is : unlock (table (the_view c.self.inside)) c.args.id c.args.client c.args.file c.args.first c.args.last ≡ Ok (
      record { seqid = next_seqid c.in-Some.lock.now.seqid; instance = c.self.inside.instance; number = c.args.id.number },
      record (with_lock (table (the_view c.self.inside)) c.args.id.number raised) {
        held = on_file (held_by c.self.inside.files) c.args.file (λ h. cleared h c.args.id.number c.args.first c.args.last);
      },
    ) =
    goes_on (judge (table (the_view c.self.inside)) c.args.id c.args.client (Some c.args.file) LockOnly) _ c.in_ok-judge.field-0 judged
    ∙ goes_on (ok_or (lock_at (table (the_view c.self.inside)) c.args.id.number) BadStateId) _ c.in-Some.lock.now
    (ap (λ o. ok_or o BadStateId) found) in
    let same = same_table c.self.inside.opens.items _ c.raise.new.self.items _
    (held_by c.clear_bytes.new.files) _ c.self.inside.last c.self.inside.instance refl c.raise.ensures c.in_ok-clear_bytes.ensures.ok in
    subst (λ (k : Kept). (Ok (record { seqid = c.next_seqid-seqid.result; instance = c.self.inside.instance; number = c.args.id.number }) ≡
    answer_of (map_err Refused (unlock (table k) c.args.id c.args.client c.args.file c.args.first c.args.last)))
    × (record {
      opens = c.self.inside.opens.items;
      locks = c.raise.new.self.items;
      held = held_by c.clear_bytes.new.files;
      last = c.self.inside.last;
      instance = c.self.inside.instance;
    } ≡ table_after (table k) (map_err Refused (unlock (table k) c.args.id c.args.client c.args.file c.args.first c.args.last))))
    c.self.view_is (
      ap (λ (s : ℕ). Ok (record { seqid = s; instance = c.self.inside.instance; number = c.args.id.number })) c.next_seqid-seqid.ensures
          ∙ sym (ap (λ d. answer_of (map_err Refused d)) is),
      same ∙ sym (ap (λ d. table_after (table (the_view c.self.inside)) (map_err Refused d)) is),
    )
