-- LOCKT (RFC 8881 section 18.11): whether a lock is in the way of one that a lock owner would set. No open is needed.
use Rattle.std.specs.{Prelude.Ok, Option.option_map_or}
use Rattle.nfs_compound.specs.declared.op_num.OpNum.TheVariants as Num
use Rattle.nfs_compound.specs.declared.lock_args.LockT as args
use Rattle.nfs_results.specs.declared.res.Res.TheVariants as Res
use Rattle.nfs_opens.specs.{Locking.test_lock, Steps.◌>>=◌}
use Rattle.nfs_names.specs.{declared.context.Context.Context, State.State, Outcome.{Outcome, done, or_refusal}}
use Rattle.nfs_files.specs.{Ranges.wished, Denied.lock_denied}

unfoldable pub lock_t : State → Context → args.LockT → Outcome
lock_t s x a = or_refusal s x Num.LockT (do
  w ← wished s x a.locktype a.offset a.length
  Ok (done s x (option_map_or (λ h. Res.LockTDenied (lock_denied s.opens h)) (test_lock s.opens a.owner.owner w) Res.LockT)))
