-- RENAME (RFC 8881 section 18.26): an entry moves from the saved filehandle's directory to the current one's.
use Rattle.std.specs.Prelude.{ℕ, ◌&&◌, Bool, not, [], ◌∷◌, ◌++◌, Option, Some, None, Ok, false, true, List}
use Rattle.nfs_xdr.specs.{declared.time.Time.Time, declared.status.Status.Status}
use Rattle.nfs_xdr.specs.declared.status.Status.TheVariants.{NoEnt, Inval, NameTooLong, ServerFault}
use Rattle.nfs_compound.specs.declared.op_num.OpNum.TheVariants as Num
use Rattle.nfs_compound.specs.declared.name_args.Rename as args
use Rattle.nfs_results.specs.declared.res.Res.TheVariants as Res
use Rattle.nfs_tree.specs.Files.{Files, has_name, object_named, raised, unraised}
use Rattle.nfs_tree.specs.Names.{Move, move, moves, is_too_deep, is_below_itself, is_in_the_way, way_fault, can_move, with_moved}
use Rattle.nfs_attrs.specs.Permissions.{change_entries}
use Rattle.nfs_names.specs.{declared.context.Context.Context, declared.node.Pair.Pair, State.{State, with_tree, without_unused}}
use Rattle.nfs_names.specs.{Faults.tree_fault_status, Outcome.{Outcome, done, or_refusal}, Checks.{both, no_directory, no_access, name_checks}, Create.change_info}
use Rattle.nfs_opens.specs.Steps.{in_order, ◌>>=◌, ◌>>◌}

abbrev pub move_of : args.Rename → Pair → Move
move_of a p = move p.saved.number a.oldname p.current.number a.newname

-- what had the new name goes as by REMOVE
abbrev pub without_replaced : State → Option ℕ → State
without_replaced s None = s
without_replaced s (Some n) = without_unused s n

-- Where the tree refuses nothing: of two names of one object nothing moves, and no directory changes.
abbrev pub renamed : State → Context → Time → args.Rename → Pair → Bool → Outcome
renamed s x now a p true = record {
  result = Res.Rename (record {
    source_cinfo = change_info (raised s.tree p.saved.number);
    target_cinfo = change_info (raised s.tree p.current.number);
  });
  state = without_replaced (with_tree s (with_moved s.tree (move_of a p) now)) (object_named s.tree p.current.number a.newname);
  context = x;
}
renamed s x now a p false = done s x (Res.Rename (record {
  source_cinfo = change_info (unraised s.tree p.saved.number);
  target_cinfo = change_info (unraised s.tree p.current.number);
}))

-- what is looked at of the places and the names
abbrev pub place_checks : Context → args.Rename → Pair → List (Bool × Status)
place_checks x a p =
    no_directory p.saved
    ∷ no_directory p.current
    ∷ no_access x p.saved change_entries
    ∷ no_access x p.current change_entries
    ∷ name_checks a.oldname
    ++ name_checks a.newname

-- .. and last: the old name is there, and where something moves, no directory comes to lie too deep or below itself, and the new name can be had
abbrev pub last_checks : Files → Move → List (Bool × Status)
last_checks t m =
    (not (has_name t m.source m.old), NoEnt)
    ∷ (moves t m && is_too_deep t m, NameTooLong)
    ∷ (moves t m && is_below_itself t m, Inval)
    ∷ (moves t m && is_in_the_way t m, tree_fault_status (way_fault t m))
    ∷ (moves t m && not (can_move t m), ServerFault)
    ∷ []

unfoldable pub rename : State → Context → Time → args.Rename → Outcome
rename s x now a = or_refusal s x Num.Rename (do
  p ← both s x
  in_order (place_checks x a p)
  in_order (last_checks s.tree (move_of a p))
  Ok (renamed s x now a p (moves s.tree (move_of a p))))
