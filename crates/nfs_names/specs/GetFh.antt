-- GETFH (RFC 8881 section 18.8): the current filehandle.
use Rattle.nfs_compound.specs.declared.op_num.OpNum.TheVariants as Num
use Rattle.nfs_results.specs.declared.res.Res.TheVariants as Res
use Rattle.nfs_attrs.specs.Wire.{nfs_fh4}
use Rattle.nfs_names.specs.{declared.context.Context.Context, State.State, Outcome.{Outcome, done, or_refusal}, Checks.current}
use Rattle.nfs_opens.specs.Steps.{◌>>=◌}
use Rattle.std.specs.Prelude.{Ok}

unfoldable pub get_fh : State → Context → Outcome
get_fh s x = or_refusal s x Num.GetFh (do
  d ← current s x
  Ok (done s x (Res.GetFh (nfs_fh4 (record { instance = s.opens.instance; number = d.number })).bytes)))
