-- A lock that was told stays through all records that spare it and come in time.
use Rattle.std.proofs.Common.{◌≡◌, ℕ, ◌+◌, ◌≤◌, List, [], ◌∷◌, ◌++◌, Option, Some, None, refl, subst, arith, inl, inr}
use Rattle.std.specs.Option.{option_map_or}
use Rattle.nfs_xdr.specs.Tables.{In}
use Rattle.nfs_opens.specs.declared.locking.Wish.{Wish}
use Rattle.nfs_names.specs.declared.start.Start.{Start}
use Rattle.nfs_files.specs.LockTold.{LockTold, Stands}
use Rattle.nfs_exec.proofs.Runs.{WhatWasDone.event_state, KeptByRuns.Is}
use Rattle.nfs_exec.specs.{Step.{Machine.Machine, Laws.MachineEvent}, Runs.{Ops.{RanOp, ops_by}, LockHeld.{LocksFor, the_lock, AreSpared, StandsBefore}}}
use Rattle.nfs_exec.specs.Runs.LockHeld.{StandsWhile, Tells}
use Rattle.nfs_serve.specs.Step.{ServerState, new_state}
use Rattle.nfs_promises.specs.{Network.Endpoint.Arrival, Runs.Points.{state_after, reached, taken, before, asked_by, ops_of}, Locks.LockKept.LockKept}
use Rattle.nfs_promises.specs.Locks.LockKept.{OnlyOneIsTold, EachIsTold}
use Rattle.nfs_promises.proofs.Runs.{LockHeld.{lock_stays, told_kept}, Points.{IsSound, whole_before, sound_all, sound_new}, StayingInTime.{Stays, told_from}}
use Rattle.nfs_promises.proofs.Runs.StayingInTime.{through, stays_for, up_to}

-- Behind the record that told it, and through whatever records come.

abbrev Lives : LockTold → (lease last : ℕ) → ServerState → Type 0
Lives k lease last s = Stays k.client lease last (λ u. Stands k u.opens) s

told_lives : (start : Start) (earlier : List Arrival) (c : Arrival) (k : LockTold) (front : List RanOp) (lock : RanOp) (back : List RanOp)
    → (let s = reached start earlier in
    ops_of s c ≡ front ++ lock ∷ back → Tells k lock → StandsWhile k back × (AreSpared k back → Lives k start.lease (taken s c) (state_after s c)))
told_lives start earlier c k front lock back e tells =
    let s = reached start earlier in
    told_from (the_lock k) tt k.client start earlier c front lock back (λ is event same. told_kept k (before s c) event front lock back is same tells) e

pub lock_kept : LockKept
lock_kept start earlier c k front lock back e tells =
    let s = reached start earlier in
    let told = told_lives start earlier c k front lock back e tells in
    (told.0, λ spared more. stays_for (the_lock k) k.client start.lease (lock_stays k tells.range.1) (taken s c) tt (state_after s c) more (told.1 spared))

-- Of two LOCKs that clash only one is told.

before_second : (k : LockTold) (ds front : List RanOp) (second : RanOp) (back : List RanOp) → ds ≡ front ++ second ∷ back → StandsWhile k ds → AreSpared k front
    → StandsBefore k second
before_second k ds front second back same while all = go front (subst (StandsWhile k) same while) all
  where
    go : (front : List RanOp) → StandsWhile k (front ++ second ∷ back) → AreSpared k front → StandsBefore k second
    go [] while all = while.0
    go (f ∷ front) while all = go front (while.1 (all f (inl refl))).1 (λ e there. all e (inr there))

pub only_one : OnlyOneIsTold
only_one start earlier c k front first back between d until second behind n w e tells spared all locks clash =
    let s = reached start earlier in
    let some = tells.range.1 in
    let lives = (told_lives start earlier c k front first back e tells).1 spared in
    let (way, last, t, there, then) = up_to (the_lock k) k.client start.lease (lock_stays k some) (taken s c) tt (state_after s c) between
    (λ way last t. (ops_of t d ≡ until ++ second ∷ behind) × (taken t d ≤ last + start.lease) × AreSpared k until) lives all in
    let while = (through (the_lock k) k.client start.lease (lock_stays k some) last way t d there then.1).0 in
    (before_second k (ops_of t d) until second behind then.0 while then.2).refused n w locks clash

-- Whatever LOCK was told told a lock.

told_by : (m : Machine) (o : Option MachineEvent) → Is m → (d : RanOp) (n : ℕ) (w : Wish) → In d (option_map_or (ops_by m) o []) → LocksFor d n w → w.first ≤ w.last
    → (opened : ℕ)
    × Tells (record { state = n; client = d.context.client; opened = opened; file = w.file; kind = w.kind; first = w.first; last = w.last }) d
told_by m None is d n w there locks some = absurd there
told_by m (Some e) is d n w there locks some =
    let state = event_state m e is d there n w locks some in (
      state.0,
      record {
        wish = w;
        locks = locks;
        range = (omega arith, some, omega arith);
        kind = refl;
        file = refl;
        client = refl;
        opened = state.1;
      },
    )

pub each_is_told : EachIsTold
each_is_told start records c d n w there locks some =
    let s = reached start records in
    let sound : IsSound s = sound_all (new_state start) records (sound_new start) in
    told_by (before s c) (asked_by s c) (whole_before s c sound.whole) d n w there locks some
