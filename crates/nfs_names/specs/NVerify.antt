-- NVERIFY (RFC 8881 section 18.15): whether the attributes are not those that are given.
use Rattle.std.specs.Prelude.{Ok, not}
use Rattle.nfs_xdr.specs.declared.status.Status.TheVariants.{Same}
use Rattle.nfs_compound.specs.declared.op_num.OpNum.TheVariants as Num
use Rattle.nfs_compound.specs.declared.attributes.Attributes.{Attributes}
use Rattle.nfs_results.specs.declared.res.Res.TheVariants as Res
use Rattle.nfs_names.specs.{declared.context.Context.Context, State.State, Outcome.{Outcome, done, or_refusal}, Verify.compared}
use Rattle.nfs_opens.specs.Steps.{require, ◌>>=◌, ◌>>◌}

unfoldable pub nverify : State → Context → Attributes → Outcome
nverify s x a = or_refusal s x Num.NVerify (do
  equal ← compared s x a
  require (not equal) Same
  Ok (done s x Res.NVerify))
