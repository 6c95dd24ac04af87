-- VERIFY (RFC 8881 section 18.31): whether the attributes are those that are given, byte for byte as the server writes them (profile).
use Rattle.std.specs.Prelude.{Bool, Result, Ok}
use Rattle.nfs_xdr.specs.{declared.status.Status.Status, declared.status.Status.TheVariants.NotSame}
use Rattle.nfs_compound.specs.declared.op_num.OpNum.TheVariants as Num
use Rattle.nfs_compound.specs.declared.attributes.Attributes.{Attributes}
use Rattle.nfs_results.specs.declared.res.Res.TheVariants as Res
use Rattle.nfs_attrs.specs.{Mask.mask_of, Comparing.same}
use Rattle.nfs_opens.specs.Steps.{◌>>=◌, require, ◌>>◌}
use Rattle.nfs_names.specs.{declared.context.Context.Context, State.State, Outcome.{Outcome, done, or_refusal}, Checks.current}
use Rattle.nfs_names.specs.Attributes.{about}

-- whether they are the same, or why that cannot be said
abbrev pub compared : State → Context → Attributes → Result Bool Status
compared s x a = do
  d ← current s x
  same (mask_of a.attrmask) a.attr_vals (about s d) d.object

unfoldable pub verify : State → Context → Attributes → Outcome
verify s x a = or_refusal s x Num.Verify (do
  equal ← compared s x a
  require equal NotSame
  Ok (done s x Res.Verify))
