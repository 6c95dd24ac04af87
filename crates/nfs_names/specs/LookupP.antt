-- LOOKUPP (RFC 8881 section 18.14): the directory in which the current one stands becomes the current filehandle's object.
use Rattle.std.specs.Prelude.{[], ◌∷◌, Ok, ok_or}
use Rattle.nfs_compound.specs.declared.op_num.OpNum.TheVariants as Num
use Rattle.nfs_results.specs.declared.res.Res.TheVariants as Res
use Rattle.nfs_attrs.specs.Permissions.{execute}
use Rattle.nfs_names.specs.{declared.context.Context.Context, State.State, Context.at_object, Outcome.{Outcome, done, or_refusal}}
use Rattle.nfs_names.specs.Checks.{current, no_directory, no_access}
use Rattle.nfs_xdr.specs.declared.status.Status.TheVariants.{NoEnt}
use Rattle.nfs_tree.specs.Files.{parent_in}
use Rattle.nfs_opens.specs.Steps.{in_order, ◌>>=◌, ◌>>◌}

unfoldable pub lookup_p : State → Context → Outcome
lookup_p s x = or_refusal s x Num.LookupP (do
  d ← current s x
  in_order (no_directory d ∷ no_access x d execute ∷ [])
  n ← ok_or (parent_in s.tree.rows d.number) NoEnt
  Ok (done s (at_object x n) Res.LookupP))
