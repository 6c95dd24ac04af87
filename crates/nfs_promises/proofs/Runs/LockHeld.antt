-- A lock that was told, through the operations of an event.
use Rattle.std.proofs.{Common.{◌≡◌, ◌≤◌, Bool, true, false, List, ◌∷◌, ◌++◌, sym, ◌∙◌, ap, subst}, lemmas.Bool.eq-eqb}
use Rattle.std.specs.{Prelude.{◌==◌, filter}, Option.option_map_or}
use Rattle.nfs_xdr.specs.Tables.{In}
use Rattle.nfs_xdr.proofs.Lists.{in_filter, stays_in}
use Rattle.nfs_compound.specs.{declared.op.Op.Op, declared.op.Item.TheVariants.Operation}
use Rattle.nfs_opens.specs.{declared.records.LockState.LockState, Table.Table}
use Rattle.nfs_names.specs.{Outcome.is_ok, State.time_at}
use Rattle.nfs_names.proofs.Untouched.{leaves_each}
use Rattle.nfs_files.specs.{LockTold.{LockTold, Stands}, Own.HasAsBefore}
use Rattle.nfs_files.proofs.Inside as inside
use Rattle.nfs_files.proofs.KeptOps.{spared, clashing}
use Rattle.nfs_exec.specs.{Step.Machine.Machine, Step.Laws.{MachineEvent, stepped}, Runs.LockHeld.{Spares, StandsBefore, Tells, the_lock, is_of}}
use Rattle.nfs_exec.specs.Runs.Ops.{RanOp, ops_by}
use Rattle.nfs_exec.proofs.{Runs.KeptByRuns.Is, Runs.OneRun.{IsRun, by_run}, Runs.WhatWasDone.{did_lock, spared_inside, told_stands}}
use Rattle.nfs_promises.proofs.Runs.OthersByRuns.{SparesClient, event_apart}
use Rattle.nfs_exec.proofs.{Runs.OneWalk.{Stays, IsTold, told_walked}}

-- what others leave
pub lock_frame : (k : LockTold) (t u : Table) → HasAsBefore k.client t u → Stands k t → Stands k u
lock_frame k t u own is =
    let p : LockState → Bool = λ l. l.client == k.client in
    let mine : In is.lock (filter p t.locks) = stays_in p t.locks is.lock is.there (eq-eqb is.lock.client k.client is.client) in
    record {
      lock = is.lock;
      there = (in_filter p u.locks is.lock (subst (In is.lock) (sym own.locks) mine)).0;
      number = is.number;
      client = is.client;
      opened = is.opened;
      held = λ b lo hi. ap (λ n. u.held k.file n b) (sym is.number)
          ∙ (own.bytes is.lock is.there is.client k.file b ∙ (ap (λ n. t.held k.file n b) is.number ∙ is.held b lo hi));
    }

-- One operation.

lock_behind : (k : LockTold) → k.first ≤ k.last → (d : RanOp) → IsRun d → Stands k d.before.store.opens → Spares k d → Stands k d.behind.store.opens
lock_behind k some d r stands spares =
    by_run (λ status text s. (is_ok status ≡ true → (op : Op) → d.item ≡ Operation op → inside.Spares k d.before.store d.context op) → Stands k s.opens) d r
    (λ spares. stands)
    (λ o e spares. subst (Stands k) (sym (leaves_each r.refused d.before.store d.context (time_at d.before.store r.now) d.item o e).opens) stands)
    (λ spares. spared k d.before.store d.context (time_at d.before.store r.now) r.refused d.item r.whole.table some spares stands)
    (λ other spares. stands)
    (λ ok op item. spared_inside k d r spares op item ok)

before_lock : (k : LockTold) → k.first ≤ k.last → (d : RanOp) → IsRun d → Stands k d.before.store.opens → StandsBefore k d
before_lock k some d r stands = record {
  stands = stands;
  refused = λ n w l clash. clashing k d.before.store d.context (Op.Lock l.asked) n w r.whole.table some stands (did_lock d r n w l).locks clash;
}

pub lock_stays : (k : LockTold) → k.first ≤ k.last → Stays (the_lock k) (SparesClient k.client)
lock_stays k some = record {
  step = λ way d r stands. (before_lock k some d r stands, lock_behind k some d r stands);
  idle = λ way m e is idle alone. lock_frame k m.store.opens (stepped m e).store.opens
      (event_apart k.client m e is (ap (λ o. option_map_or (is_of k.client) o false) idle.unrun) alone);
}

-- From the LOCK on that told it.

pub told_kept : (k : LockTold) (m : Machine) (e : MachineEvent) (front : List RanOp) (lock : RanOp) (back : List RanOp) → Is m → ops_by m e ≡ front ++ lock ∷ back
    → Tells k lock → IsTold (the_lock k) tt k.client m e back
told_kept k m e front lock back is same tells = told_walked (the_lock k) (SparesClient k.client) (lock_stays k tells.range.1) k.client m e front lock back is same
    (sym tells.client) tt (λ run. told_stands k lock run tells)
