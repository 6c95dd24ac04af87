-- One writer by filehandle, computed.
use Rattle.std.proofs.Common.{◌≡◌, ◌+◌, ◌≤◌, [], ◌∷◌, ◌++◌, take, refl, arith}
use Rattle.std.specs.List.{list_all}
use Rattle.nfs_names.specs.GetFh.{get_fh}
use Rattle.nfs_exec.specs.Runs.LockHeld.{AreSpared, the_lock}
use Rattle.nfs_serve.specs.Step.{ServerState}
use Rattle.nfs_promises.specs.Runs.Points.{state_after_all, taken, ops_of}
use Rattle.nfs_promises.specs.Locks.{OneWriterByHandleWorked.IsOneWriter, LockKeptWorked.last_of}
use Rattle.nfs_promises.proofs.{Runs.{Computing.computing, LastOperation.{nothing, four}}, Locks.LockKeptWorked.{spares, all_spared, are_in_time, locks_for}}
use Rattle.nfs_promises.specs.Locks.OneWriterByHandleWorked as worked
use Rattle.nfs_promises.specs.Locks.LockKeptWorked as held

-- The run, computed.

abbrev asked : ServerState
asked = state_after_all worked.locked held.waits

pub is_one_writer : IsOneWriter
unfolding computing get_fh
is_one_writer = record {
  front = take 3 (ops_of held.outset worked.locks);
  first = last_of nothing (ops_of held.outset worked.locks);
  ops = four nothing (ops_of held.outset worked.locks) refl;
  known = refl;
  tells = record {
    wish = held.wish 1 0;
    locks = locks_for (last_of nothing (ops_of held.outset worked.locks)) 1 0 2 refl refl refl refl refl;
    range = (omega arith, omega arith, omega arith);
    kind = refl;
    file = refl;
    client = refl;
    opened = refl;
  };
  until = take 3 (ops_of asked worked.clashes);
  second = last_of nothing (ops_of asked worked.clashes);
  between = are_in_time (the_lock held.told) held.told.client (list_all spares) 90 102 tt worked.locked held.waits
      (λ way last t. (ops_of t worked.clashes ≡ take 3 (ops_of asked worked.clashes) ++ last_of nothing (ops_of asked worked.clashes) ∷ [])
      × (taken t worked.clashes ≤ last + 90)
      × AreSpared held.told (take 3 (ops_of asked worked.clashes))) (all_spared held.told) refl (
        four nothing (ops_of asked worked.clashes) refl,
        omega arith,
        all_spared held.told (take 3 (ops_of asked worked.clashes)) refl,
      );
  later = refl;
  denied = refl;
  granted = locks_for (worked.granting (last_of nothing (ops_of asked worked.clashes))) 2 0 4 refl refl refl refl refl;
  over = record { other = λ same. absurd (omega (arith, same)); before = omega arith; behind = omega arith; kinds = refl };
}
