-- LOOKUP (RFC 8881 section 18.13): the object of a name becomes the current filehandle's.
use Rattle.std.specs.Prelude.{ℕ, List, ◌∷◌, Ok, ok_or}
use Rattle.nfs_xdr.specs.declared.status.Status.TheVariants.{Symlink, NoEnt}
use Rattle.nfs_compound.specs.declared.op_num.OpNum.TheVariants as Num
use Rattle.nfs_results.specs.declared.res.Res.TheVariants as Res
use Rattle.nfs_tree.specs.{Object.is_link, Files.{object_named as found}}
use Rattle.nfs_attrs.specs.Permissions.{execute}
use Rattle.nfs_names.specs.{declared.context.Context.Context, State.State, Context.at_object, Outcome.{Outcome, done, or_refusal}}
use Rattle.nfs_names.specs.Checks.{current, no_directory, no_access, name_checks}
use Rattle.nfs_opens.specs.Steps.{in_order, ◌>>=◌, ◌>>◌}

unfoldable pub lookup : State → Context → List ℕ → Outcome
lookup s x name = or_refusal s x Num.Lookup (do
  d ← current s x
  in_order ((is_link d.object.kind, Symlink) ∷ no_directory d ∷ no_access x d execute ∷ name_checks name)
  n ← ok_or (found s.tree d.number name) NoEnt
  Ok (done s (at_object x n) Res.Lookup))
