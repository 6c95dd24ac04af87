-- LOCK (RFC 8881 section 18.10): a lock owner holds bytes of a file, if no other one's lock is in the way.
use Rattle.std.specs.Prelude.{not, Result, Ok, Err}
use Rattle.nfs_xdr.specs.declared.status.Status.TheVariants.{NoGrace, Delay}
use Rattle.nfs_compound.specs.{declared.stateid.Stateid.Stateid, declared.lock_args.Lock.Lock, declared.lock_args.Locker.TheVariants.{LockOwner, OpenOwner}}
use Rattle.nfs_compound.specs.declared.lock_args.Locker.{Locker}
use Rattle.nfs_compound.specs.declared.op_num.OpNum.TheVariants as Num
use Rattle.nfs_results.specs.declared.res.Res.TheVariants as Res
use Rattle.nfs_opens.specs.{declared.stateid.StateId.StateId, declared.stateid.CurrentSeqid.TheVariants.Any, declared.locking.Wish.Wish}
use Rattle.nfs_opens.specs.{declared.locking.OpenFault.OpenFault, declared.locking.OpenFault.TheVariants.{Refused, Denied, Memory}, Table.Table}
use Rattle.nfs_opens.specs.{Locking.{lock_under, lock_known}, Steps.{require, ◌>>=◌, ◌>>◌}}
use Rattle.nfs_names.specs.{declared.context.Context.Context, State.State, Outcome.{Outcome, done, refuses, or_refusal}, Ending.with_opens}
use Rattle.nfs_files.specs.{StateIds.{meant, wire_id}, Target.with_stateid, Ranges.wished, Denied.lock_denied}

-- a new lock owner names an open, another one its lock state
abbrev pub stateid_in : Locker → Stateid
stateid_in (OpenOwner o) = o.open_stateid
stateid_in (LockOwner o) = o.lock_stateid

abbrev pub locks_as : Table → Locker → StateId → Wish → Result (StateId × Table) OpenFault
locks_as t (OpenOwner o) id w = lock_under t id o.lock_owner.owner w
locks_as t (LockOwner o) id w = lock_known t id w

abbrev pub locked : State → Context → Result (StateId × Table) OpenFault → Outcome
locked s x (Ok did) = record { result = Res.Lock (wire_id did.0); state = with_opens s did.1; context = with_stateid x (wire_id did.0) }
locked s x (Err (Denied h)) = done s x (Res.LockDenied (lock_denied s.opens h))
locked s x (Err (Refused status)) = refuses s x Num.Lock status
locked s x (Err Memory) = refuses s x Num.Lock Delay

-- there is nothing to reclaim
unfoldable pub lock : State → Context → Lock → Outcome
lock s x a = or_refusal s x Num.Lock (do
  w ← wished s x a.locktype a.offset a.length
  require (not a.reclaim) NoGrace
  id ← meant x Any (stateid_in a.locker)
  Ok (locked s x (locks_as s.opens a.locker id w)))
