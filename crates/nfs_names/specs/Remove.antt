-- REMOVE (RFC 8881 section 18.25): a name goes, and with its last name an object that is not open.
use Rattle.std.specs.Prelude.{ℕ, ◌&&◌, Bool, not, List, [], ◌∷◌, Ok}
use Rattle.nfs_xdr.specs.{declared.time.Time.Time, declared.status.Status.Status, declared.status.Status.TheVariants.{NoEnt, NotEmpty, ServerFault}}
use Rattle.nfs_compound.specs.declared.op_num.OpNum.TheVariants as Num
use Rattle.nfs_results.specs.declared.res.Res.TheVariants as Res
use Rattle.nfs_tree.specs.{Files.{Files, can_change, has_entries, has_name, number_named, raised}, Names.without_name}
use Rattle.nfs_attrs.specs.Permissions.{change_entries}
use Rattle.nfs_names.specs.{declared.context.Context.Context, State.{State, with_tree, without_unused}, Outcome.{Outcome, or_refusal}}
use Rattle.nfs_names.specs.{Checks.{current, no_directory, no_access, name_checks}, Create.change_info}
use Rattle.nfs_opens.specs.Steps.{in_order, ◌>>=◌, ◌>>◌}

-- what is looked at last: the name is there, its object has no entries, and both can change once more
abbrev pub last_checks : Files → ℕ → List ℕ → List (Bool × Status)
last_checks t d name =
    (not (has_name t d name), NoEnt)
    ∷ (has_entries t.rows (number_named t d name), NotEmpty)
    ∷ (not (can_change t d && can_change t (number_named t d name)), ServerFault)
    ∷ []

unfoldable pub remove : State → Context → Time → List ℕ → Outcome
remove s x now name = or_refusal s x Num.Remove (do
  d ← current s x
  in_order (no_directory d ∷ no_access x d change_entries ∷ name_checks name)
  in_order (last_checks s.tree d.number name)
  Ok (record {
    result = Res.Remove (change_info (raised s.tree d.number));
    state = without_unused (with_tree s (without_name s.tree d.number name now)) (number_named s.tree d.number name);
    context = x;
  }))
