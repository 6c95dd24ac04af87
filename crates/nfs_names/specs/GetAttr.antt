-- GETATTR (RFC 8881 section 18.7): the attributes that are asked for; what can only be set is not asked for.
use Rattle.std.specs.Prelude.{ℕ, List, Ok, not}
use Rattle.nfs_xdr.specs.declared.status.Status.TheVariants.{Inval}
use Rattle.nfs_compound.specs.declared.op_num.OpNum.TheVariants as Num
use Rattle.nfs_results.specs.declared.res.Res.TheVariants as Res
use Rattle.nfs_attrs.specs.Mask.{mask_of, asks_set_only}
use Rattle.nfs_names.specs.{declared.context.Context.Context, State.State, Outcome.{Outcome, done, or_refusal}, Checks.current, Attributes.attributes_of}
use Rattle.nfs_opens.specs.Steps.{require, ◌>>=◌, ◌>>◌}

unfoldable pub get_attr : State → Context → List ℕ → Outcome
get_attr s x words = or_refusal s x Num.GetAttr (do
  d ← current s x
  require (not (asks_set_only (mask_of words))) Inval
  Ok (done s x (Res.GetAttr (attributes_of s (mask_of words) d))))
