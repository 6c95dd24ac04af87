use Rattle.std.proofs.{Common.{◌≡◌, Some, sym, ap, ◌∙◌}, lemmas.Bool.{eqb-true, and_parts}}
use Rattle.std.specs.Option.{option_copied}
use Rattle.nfs_opens.specs.{declared.records.LockState.LockState, Table.table, Locking.{is_locker, state_of}}
use Rattle.nfs_xdr.proofs.{Lists.find_in, Tables.at_of_in}
use Rattle.nfs_opens.proofs.{LockLemmas.judged_lock, StepLemmas.all_some}
use Rattle.nfs_opens.proofs.opens.Opens.lock.Goals as goal

pub lock_as-requires-clause-file : goal.lock_as-requires-clause-file
lock_as-requires-clause-file c =
    let t = table c.args.self.now in
    let l = c.in-Some.lock.now in
    let found : state_of t c.args.wish.now.client c.in-New.owner.now c.args.wish.now.file ≡ Some l = sym c.locker.ensures.found ∙ ap option_copied c.in-Some.is in
    let there = find_in (is_locker c.args.wish.now.client c.in-New.owner.now c.args.wish.now.file) t.locks l found in
    all_some _ l (λ (l : LockState). l.file ≡ c.args.wish.now.file)
    (at_of_in (λ (l : LockState). l.number) 1 _ t.locks l c.locker.ensures.kept.locks there.0) (eqb-true _ _ (and_parts _ _ there.1).0)

pub lock_as-requires-in-Known-clause-file : goal.lock_as-requires-in-Known-clause-file
lock_as-requires-in-Known-clause-file c =
    let (l, found, client, of_file) = judged_lock (table c.args.self.now) c.in-Known.state c.args.wish.now.client c.args.wish.now.file
    c.in_ok-seat-in-Known.seat (sym c.judge-in-Known.ensures ∙ c.in_ok-seat-in-Known.was) in
    all_some _ l (λ (l : LockState). l.file ≡ c.args.wish.now.file) found of_file
