-- A run in which others come in time, computed.
use Rattle.std.proofs.{Common.{◌≡◌, List, length, refl, sym, ◌∙◌, ap}, lemmas.Bool.leb-true}
use Rattle.nfs_opens.specs.Closing.{without_lock, without_open}
use Rattle.nfs_files.specs.Own.{opens_of, locks_of}
use Rattle.nfs_promises.specs.Locks.OthersWorked.{ComeInTime}
use Rattle.nfs_promises.specs.Locks.LockKeptWorked as worked
use Rattle.nfs_promises.proofs.Runs.Computing.{computing}

none_is_one : {X : Type 0} (none one : List X) → length none ≡ 0 → length one ≡ 1 → none ≡ one → ⊥
none_is_one none one zero single same = absurd (let bad : 0 ≡ 1 = sym zero ∙ ap length same ∙ single in cc)

pub come_in_time : ComeInTime
unfolding computing
come_in_time = record {
  renews = refl;
  others = (refl, leb-true _ _ refl, refl, (refl, leb-true _ _ refl, refl, (refl, leb-true _ _ refl, refl, tt)));
  none = (refl, leb-true _ _ refl, (refl, leb-true _ _ refl, (refl, leb-true _ _ refl, tt)));
  held = refl;
  opened = refl;
  unlocked = λ is. none_is_one (locks_of worked.told.client (without_lock worked.locked.machine.store.opens 2))
      (locks_of worked.told.client worked.locked.machine.store.opens) refl refl is.locks;
  closed = λ is. none_is_one (opens_of worked.told.client (without_open worked.locked.machine.store.opens 1))
      (opens_of worked.told.client worked.locked.machine.store.opens) refl refl is.opens;
}
