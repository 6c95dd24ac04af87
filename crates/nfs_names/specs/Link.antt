-- LINK (RFC 8881 section 18.9): the saved filehandle's object gets one more name, in the current filehandle's directory.
use Rattle.std.specs.Prelude.{ℕ, ◌&&◌, Bool, not, List, [], ◌∷◌, nat_lt, nat_le, Ok}
use Rattle.nfs_xdr.specs.{declared.time.Time.Time, declared.status.Status.Status}
use Rattle.nfs_xdr.specs.declared.status.Status.TheVariants.{IsDir, Exist, NoEnt, MLink, ServerFault}
use Rattle.nfs_compound.specs.declared.op_num.OpNum.TheVariants as Num
use Rattle.nfs_results.specs.declared.res.Res.TheVariants as Res
use Rattle.nfs_tree.specs.{Object.is_directory, Names.with_link}
use Rattle.nfs_tree.specs.Files.{Files, last_count, most_links, can_change, has_name, has_row, links_in, raised}
use Rattle.nfs_attrs.specs.Permissions.{change_entries}
use Rattle.nfs_names.specs.{declared.context.Context.Context, State.{State, with_tree}, Outcome.{Outcome, or_refusal}}
use Rattle.nfs_names.specs.{Checks.{both, no_directory, no_access, name_checks}, Create.change_info}
use Rattle.nfs_opens.specs.Steps.{in_order, ◌>>=◌, ◌>>◌}

-- what is looked at last: the name is free, the object still has a name, and has not too many, and neither a counter nor `change` has its last value
abbrev pub last_checks : Files → ℕ → ℕ → List ℕ → List (Bool × Status)
last_checks t n d name =
    (has_name t d name, Exist)
    ∷ (not (has_row t.rows n), NoEnt)
    ∷ (nat_le most_links (links_in t.rows n), MLink)
    ∷ (not (can_change t d && (can_change t n && nat_lt t.last_cookie last_count)), ServerFault)
    ∷ []

unfoldable pub link : State → Context → Time → List ℕ → Outcome
link s x now name = or_refusal s x Num.Link (do
  p ← both s x
  in_order (no_directory p.current ∷ (is_directory p.saved.object.kind, IsDir) ∷ no_access x p.current change_entries ∷ name_checks name)
  in_order (last_checks s.tree p.saved.number p.current.number name)
  Ok (record {
    result = Res.Link (change_info (raised s.tree p.current.number));
    state = with_tree s (with_link s.tree p.saved.number p.current.number name now);
    context = x;
  }))
