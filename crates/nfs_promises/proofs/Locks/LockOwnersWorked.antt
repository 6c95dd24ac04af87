-- One owner each, computed.
use Rattle.std.proofs.Common.{[], ◌∷◌, take, refl, arith}
use Rattle.nfs_compound.specs.declared.lock_args.{Lock.Lock, Locker.TheVariants.OpenOwner}
use Rattle.nfs_promises.specs.{Runs.{Requests.words, Points.ops_of}, Locks.{LockKeptWorked.{outset, locks, locked, last_of}, LockOwnersWorked.asks_for_another}}
use Rattle.nfs_promises.specs.Locks.LockOwnersWorked.{OneOwnerEach}
use Rattle.nfs_promises.proofs.{Runs.{Computing.computing, LastOperation.{nothing, three}}, Names.HandlesWorked.{first_of, two}, Locks.LockKeptWorked.asking}
use Rattle.nfs_promises.proofs.Locks.{LockKeptWorked.locks_for, LockOwnedWorked.one_letter}
use Rattle.nfs_promises.specs.Locks.LockKeptWorked as worked

-- The run, computed.

abbrev other_asking : Lock
other_asking = record (asking 0) {
  locker = OpenOwner (record {
    open_seqid = 0;
    open_stateid = record { seqid = 1; other = words (7 ∷ 0 ∷ 1 ∷ []) };
    lock_seqid = 0;
    lock_owner = record { clientid = 0; owner = 0x6d ∷ [] };
  });
}

pub one_owner_each : OneOwnerEach
unfolding computing
one_owner_each = record {
  front = take 2 (ops_of outset locks);
  lock = last_of nothing (ops_of outset locks);
  ops = three nothing (ops_of outset locks) refl;
  told = locks_for (last_of nothing (ops_of outset locks)) 1 0 2 refl refl refl refl refl;
  put = first_of nothing (ops_of locked asks_for_another);
  asked = last_of nothing (ops_of locked asks_for_another);
  asks = two nothing (ops_of locked asks_for_another) refl;
  denied = refl;
  refused = λ is. one_letter (is 2 2 (worked.wish 1 0) (worked.wish 1 0)
      (record {
        asked = asking 0;
        is = refl;
        wish = refl;
        names = record { id = worked.stateid_of_lock 2; answers = refl; long = refl; number = refl };
      })
      (record {
        asked = other_asking;
        is = refl;
        wish = refl;
        names = record { id = worked.stateid_of_lock 2; answers = refl; long = refl; number = refl };
      })
      _ _ refl refl (omega arith) (omega arith) refl).0;
}
