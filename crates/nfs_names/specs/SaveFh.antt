-- SAVEFH (RFC 8881 section 18.28): the current filehandle is saved, with its stateid.
use Rattle.std.specs.Prelude.{Some, Ok}
use Rattle.nfs_compound.specs.declared.op_num.OpNum.TheVariants as Num
use Rattle.nfs_results.specs.declared.res.Res.TheVariants as Res
use Rattle.nfs_names.specs.{declared.context.Context.Context, State.State, Outcome.{Outcome, done, or_refusal}, Checks.current}
use Rattle.nfs_opens.specs.Steps.{◌>>=◌}

unfoldable pub save_fh : State → Context → Outcome
save_fh s x = or_refusal s x Num.SaveFh (do
  d ← current s x
  Ok (done s (record x { saved = Some (record { object = d.number; stateid = x.stateid }) }) Res.SaveFh))
