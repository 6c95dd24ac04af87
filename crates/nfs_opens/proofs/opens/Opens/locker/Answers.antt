use Rattle.std.proofs.{Common.{◌≡◌, true, refl, sym, ◌∙◌, ap}, lemmas.Bool.{false≢true}}
use Rattle.std.specs.{Prelude.{◌==◌}, Option.option_copied}
use Rattle.nfs_xdr.proofs.Lists.{find_in}
use Rattle.nfs_opens.specs.{Table.table, Locking.is_locker, Keys.{lock_key, owner_key}}
use Rattle.nfs_opens.proofs.{LockedLemmas.locker_key, KeyLemmas.{found_by, none_by}}
use Rattle.nfs_opens.proofs.opens.Opens.locker.Goals as goal
use Rattle.nfs_opens.proofs.opens.Opens.locker.Goals.{in_default-via-in-Some+else-is_lockers, in_default-via-in_default}

pub returns-in-Some-clause-found : goal.returns-in-Some-clause-found
returns-in-Some-clause-found c =
    let k = owner_key c.args.file c.args.client c.args.owner.now in
    sym (found_by lock_key (is_locker c.args.client c.args.owner.now c.args.file) k
    (locker_key c.args.client c.args.owner.now c.args.file k refl) (table c.args.self.now).locks c.in-Some.lock.now
    (sym c.owned_lock.ensures ∙ ap option_copied c.in-Some.is) (sym c.is_lockers.ensures.own ∙ c.if-is_lockers.true))

pub returns-in_default-clause-found : goal.returns-in_default-clause-found
returns-in_default-clause-found c = elim c.in_default.branch [
  | in_default-via-in-Some+else-is_lockers w ↦ (let k = owner_key c.args.file c.args.client c.args.owner.now in
      let keyed : (lock_key w.in-Some.lock.now == k) ≡ true =
      (find_in (λ l. lock_key l == k) (table c.args.self.now).locks w.in-Some.lock.now (sym c.owned_lock.ensures ∙ ap option_copied w.in-Some.is)).1 in
      absurd (false≢true (sym w.if-is_lockers.false ∙ (w.is_lockers.ensures.key ∙ keyed))))
  | in_default-via-in_default w ↦ (let k = owner_key c.args.file c.args.client c.args.owner.now in
      sym (none_by lock_key (is_locker c.args.client c.args.owner.now c.args.file) k
      (locker_key c.args.client c.args.owner.now c.args.file k refl) (table c.args.self.now).locks
      (sym c.owned_lock.ensures ∙ ap option_copied w.in_default.is)))
]
