-- CLOSE (RFC 8881 section 18.2): an open goes, with its lock states and the bytes that they hold, and a file without a row goes with
-- its last open.
use Rattle.std.specs.Prelude.{replicate, Ok}
use Rattle.nfs_compound.specs.{declared.stateid.Stateid.Stateid, declared.open_args.Close.Close}
use Rattle.nfs_compound.specs.declared.op_num.OpNum.TheVariants as Num
use Rattle.nfs_results.specs.declared.res.Res.TheVariants as Res
use Rattle.nfs_opens.specs.{declared.stateid.CurrentSeqid.TheVariants.Own, Steps.◌>>=◌}
use Rattle.nfs_opens.specs.Closing as opens
use Rattle.nfs_names.specs.{declared.context.Context.Context, State.{State, without_unused}, Outcome.{Outcome, or_refusal}, Ending.with_opens}
use Rattle.nfs_files.specs.{StateIds.meant, Target.{the_file, with_stateid}}

-- what is left of the stateid: no operation takes it
abbrev pub spent : Stateid
spent = record { seqid = 0xffff_ffff; other = replicate 12 0 }

unfoldable pub close : State → Context → Close → Outcome
close s x a = or_refusal s x Num.Close (do
  d ← the_file s x
  id ← meant x Own a.open_stateid
  did ← opens.close s.opens id x.client d.number
  Ok (record { result = Res.Close spent; state = without_unused (with_opens s did.1) d.number; context = with_stateid x spent }))
