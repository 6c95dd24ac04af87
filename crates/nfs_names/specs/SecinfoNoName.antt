-- SECINFO_NO_NAME (RFC 8881 section 18.45): AUTH_SYS is the one flavor; the current filehandle is then none.
use Rattle.std.specs.Prelude.{Bool, List, [], ◌∷◌, None, Ok, is_some, not}
use Rattle.nfs_xdr.specs.{declared.status.Status.Status, declared.status.Status.TheVariants.NoEnt}
use Rattle.nfs_compound.specs.declared.op_num.OpNum.TheVariants as Num
use Rattle.nfs_compound.specs.{declared.name_args.SecinfoStyle.SecinfoStyle, declared.name_args.SecinfoStyle.TheVariants.{CurrentFh, Parent}}
use Rattle.nfs_results.specs.declared.res.Res.TheVariants as Res
use Rattle.nfs_names.specs.{declared.context.Context.Context, declared.node.Node.Node, State.State, Outcome.{Outcome, done, or_refusal}}
use Rattle.nfs_names.specs.Checks.{current, no_directory}
use Rattle.nfs_tree.specs.Files.{parent_in}
use Rattle.nfs_opens.specs.Steps.{in_order, ◌>>=◌, ◌>>◌}

-- the flavors of the directory in which one stands are wanted
abbrev pub style_checks : State → SecinfoStyle → Node → List (Bool × Status)
style_checks s CurrentFh d = []
style_checks s Parent d = no_directory d ∷ (not (is_some (parent_in s.tree.rows d.number)), NoEnt) ∷ []

unfoldable pub secinfo_no_name : State → Context → SecinfoStyle → Outcome
secinfo_no_name s x style = or_refusal s x Num.SecinfoNoName (do
  d ← current s x
  in_order (style_checks s style d)
  Ok (done s (record x { current = None }) (Res.SecinfoNoName (1 ∷ []))))
