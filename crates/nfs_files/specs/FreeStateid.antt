-- FREE_STATEID (RFC 8881 section 18.38): a lock state that holds no byte goes.
use Rattle.std.specs.Prelude.{Ok}
use Rattle.nfs_compound.specs.declared.stateid.Stateid.{Stateid}
use Rattle.nfs_compound.specs.declared.op_num.OpNum.TheVariants as Num
use Rattle.nfs_results.specs.declared.res.Res.TheVariants as Res
use Rattle.nfs_opens.specs.{declared.stateid.CurrentSeqid.TheVariants.Any, Steps.◌>>=◌}
use Rattle.nfs_opens.specs.Closing as opens
use Rattle.nfs_names.specs.{declared.context.Context.Context, State.State, Outcome.{Outcome, done, or_refusal}, Ending.with_opens}
use Rattle.nfs_files.specs.StateIds.{meant}

unfoldable pub free_stateid : State → Context → Stateid → Outcome
free_stateid s x given = or_refusal s x Num.FreeStateid (do
  id ← meant x Any given
  did ← opens.free s.opens id x.client
  Ok (done (with_opens s did.1) x Res.FreeStateid))
