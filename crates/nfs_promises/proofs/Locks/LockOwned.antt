-- A lock state is its owner's.
use Rattle.std.proofs.Common.{◌≡◌, ℕ, [], Option, Some, None}
use Rattle.std.specs.Option.{option_map_or}
use Rattle.nfs_xdr.specs.Tables.{In}
use Rattle.nfs_compound.specs.declared.lock_args.{Locker.TheVariants.OpenOwner, OpenToLockOwner.OpenToLockOwner}
use Rattle.nfs_opens.specs.declared.locking.Wish.{Wish}
use Rattle.nfs_exec.proofs.Runs.{WhatWasDone.event_run, KeptByRuns.Is}
use Rattle.nfs_exec.specs.{Step.{Laws.MachineEvent, Machine.Machine}, Runs.{LockHeld.LocksFor, Ops.{RanOp, ops_by}}}
use Rattle.nfs_serve.specs.Step.{new_state}
use Rattle.nfs_promises.specs.{Runs.Points.{reached, before, asked_by}, Locks.LockOwned.{IsOwned, EachIsOwned}}
use Rattle.nfs_promises.proofs.Runs.{LockOwners.{owned_behind, owned_client}, Points.{IsSound, whole_before, sound_all, sound_new}}

owned_by : (m : Machine) (e : Option MachineEvent) → Is m → (d : RanOp) (n : ℕ) (w : Wish) (locks : LocksFor d n w) (o : OpenToLockOwner) → In d (option_map_or (ops_by m) e [])
    → locks.asked.locker ≡ OpenOwner o → IsOwned d n o.lock_owner.owner
owned_by m None is d n w locks o there owner = absurd there
owned_by m (Some e) is d n w locks o there owner =
    let run = (event_run m e is d there).0 in
    record { owner = owned_behind d run n w locks o owner; client = owned_client d run n w locks }

pub each_is_owned : EachIsOwned
each_is_owned start records c d n w locks o there =
    let s = reached start records in
    let sound : IsSound s = sound_all (new_state start) records (sound_new start) in
    owned_by (before s c) (asked_by s c) (whole_before s c sound.whole) d n w locks o there
