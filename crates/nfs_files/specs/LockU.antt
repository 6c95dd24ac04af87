-- LOCKU (RFC 8881 section 18.12): a lock owner holds none of these bytes from now on, whether it held them or not.
use Rattle.std.specs.Prelude.{◌==◌, Bool, not, ◌&&◌, Ok}
use Rattle.nfs_compound.specs.declared.lock_args.LockU.{LockU}
use Rattle.nfs_compound.specs.declared.op_num.OpNum.TheVariants as Num
use Rattle.nfs_results.specs.declared.res.Res.TheVariants as Res
use Rattle.nfs_opens.specs.{declared.stateid.CurrentSeqid.TheVariants.Any, Locking.unlock, Steps.{◌>>=◌}}
use Rattle.nfs_names.specs.{declared.context.Context.Context, State.State, Outcome.{Outcome, or_refusal}, Ending.with_opens}
use Rattle.nfs_files.specs.{StateIds.{meant, wire_id}, Target.with_stateid, Ranges.{all_ones, wished}}

unfoldable pub lock_u : State → Context → LockU → Outcome
lock_u s x a = or_refusal s x Num.LockU (do
  w ← wished s x a.locktype a.offset a.length
  id ← meant x Any a.lock_stateid
  did ← unlock s.opens id w.client w.file w.first w.last
  Ok (record { result = Res.LockU (wire_id did.0); state = with_opens s did.1; context = with_stateid x (wire_id did.0) }))

-- the bytes of a whole file are given up without memory
abbrev pub wants_memory : LockU → Bool
wants_memory a = not (a.offset == 0 && a.length == all_ones)
