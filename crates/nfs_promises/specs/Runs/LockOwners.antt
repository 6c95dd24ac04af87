-- Whose a lock state is, by the LOCKs that name it (RFC 8881 sections 8.2.5 and 18.10): by the lock owner's string that a LOCK of a new lock owner gives, and by the
-- client whose session it came in.
use Rattle.std.specs.Prelude.{◌≡◌, ◌≢◌, ◌⊎◌, ℕ, ◌≤◌, true, Some}
use Rattle.nfs_compound.specs.{declared.lock_args.Locker.TheVariants.OpenOwner, declared.lock_args.OpenToLockOwner.OpenToLockOwner}
use Rattle.nfs_ranges.specs.Told.{meets}
use Rattle.nfs_opens.specs.declared.locking.Wish.{Wish}
use Rattle.nfs_files.specs.LockTold.{LockTold}
use Rattle.nfs_exec.specs.{Runs.LockHeld.LocksFor, Runs.Ops.RanOp}

-- two LOCKs of new lock owners that are answered NFS4_OK and the stateid of the same lock state are of one string and of one client
abbrev pub AreOne : (first second : RanOp) → Type 0
AreOne first second = (n m : ℕ) (w v : Wish) (one : LocksFor first n w) (two : LocksFor second m v) (o p : OpenToLockOwner)
    → one.asked.locker ≡ OpenOwner o → two.asked.locker ≡ OpenOwner p → w.first ≤ w.last → v.first ≤ v.last → n ≡ m
    → (o.lock_owner.owner ≡ p.lock_owner.owner) × (first.context.client ≡ second.context.client)

-- the owners of two LOCKs differ in their string or in their client
abbrev pub AreTwo : (first : RanOp) → OpenToLockOwner → (second : RanOp) → OpenToLockOwner → Type 0
AreTwo first o second p = (o.lock_owner.owner ≢ p.lock_owner.owner) ⊎ (first.context.client ≢ second.context.client)

-- a wish for a byte of a lock that was told, where one of the two is Write
pub record Meets (k : LockTold) (w : Wish) : Type 0 where
  pub file : w.file ≡ k.file
  pub some : w.first ≤ w.last
  pub before : w.first ≤ k.last
  pub behind : k.first ≤ w.last
  pub kinds : meets w.kind (Some k.kind) ≡ true
