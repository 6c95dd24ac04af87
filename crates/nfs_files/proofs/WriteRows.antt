-- WRITE: the tree's own checks are its last ones.
use Rattle.std.proofs.Common.{◌≡◌, Bool, false, not, List, [], ◌∷◌, Some, None, refl, sym, ◌∙◌, ap}
use Rattle.std.specs.Prelude.{Ok, option_map, ◌&&◌}
use Rattle.nfs_xdr.specs.{Checks.first_fault, declared.time.Time.Time}
use Rattle.nfs_xdr.proofs.Checks.{all_passed}
use Rattle.nfs_compound.specs.declared.op_num.OpNum.TheVariants as Num
use Rattle.nfs_compound.specs.declared.file_args.Write.{Write}
use Rattle.nfs_tree.specs.{declared.fault.TreeFault.TreeFault, Bytes.{has_bytes, is_too_long}, Calls.{write_fault, is_regular_at}}
use Rattle.nfs_tree.specs.Files.{is_there, is_directory_at, can_change}
use Rattle.nfs_tree.specs.declared.fault.TreeFault.TheVariants as F
use Rattle.nfs_names.specs.{declared.context.Context.Context, declared.node.Node.Node, State.State, Faults.tree_fault_status, Outcome.refuses, Checks.current}
use Rattle.nfs_names.proofs.{Found.{IsHeld, current_is}, Rows.fault_map, Faulted.{by_last, by_refusal}}
use Rattle.nfs_files.specs.{Bytes.file_checks, Write.{last_checks, write}, Parts.{writable, was_written}}
use Rattle.nfs_files.proofs.SetRows.{file_regular, writable_ok}
use Rattle.nfs_files.proofs.InSteps.{write_is}

write_rows : (s : State) (w : Write) (d : Node) → IsHeld s.tree d → first_fault (file_checks d) ≡ None
    → option_map tree_fault_status (write_fault s.tree d.number w.offset w.bytes) ≡ first_fault (last_checks s w d)
write_rows s w d is e =
    let t = s.tree in
    let n = d.number in
    let checks = all_passed (file_checks d) e in
    let there : not (is_there t n) ≡ false = ap not is.there in
    let directory : is_directory_at t n ≡ false = is.directory ∙ checks.0 in
    let regular : not (is_regular_at t n) ≡ false = ap not (file_regular t d is e) in
    let tail : List (Bool × TreeFault) =
    (has_bytes w.bytes && is_too_long t w.offset w.bytes, F.Fbig) ∷ (has_bytes w.bytes && not (can_change t n), F.Counter) ∷ [] in
    let same : write_fault t n w.offset w.bytes ≡ first_fault tail = rw (there, directory, regular) refl in
    ap (option_map tree_fault_status) same ∙ fault_map tree_fault_status tail

pub write_found : (s : State) (x : Context) (w : Write) (d : Node) → writable s x w.stateid (current s x) ≡ Ok d
    → option_map tree_fault_status (write_fault s.tree d.number w.offset w.bytes) ≡ first_fault (last_checks s w d)
write_found s x w d v = let found = writable_ok s x w.stateid (current s x) d v in write_rows s w d (current_is s x d found.0) found.1

pub write_goes : (s : State) (x : Context) (now : Time) (w : Write) (d : Node) → writable s x w.stateid (current s x) ≡ Ok d
    → write_fault s.tree d.number w.offset w.bytes ≡ None → write s x now w ≡ was_written s x now w d
write_goes s x now w d v none =
    rw (write_is s x now w)
    (by_last s x Num.Write (writable s x w.stateid (current s x)) (last_checks s w)
    (was_written s x now w) d v (sym (write_found s x w d v) ∙ ap (option_map tree_fault_status) none))

pub write_stops : (s : State) (x : Context) (now : Time) (w : Write) (d : Node) (f : TreeFault)
    → writable s x w.stateid (current s x) ≡ Ok d → write_fault s.tree d.number w.offset w.bytes ≡ Some f
    → write s x now w ≡ refuses s x Num.Write (tree_fault_status f)
write_stops s x now w d f v some =
    rw (write_is s x now w)
    (by_refusal s x Num.Write (writable s x w.stateid (current s x)) (last_checks s w)
    (was_written s x now w) d (tree_fault_status f) v (sym (write_found s x w d v) ∙ ap (option_map tree_fault_status) some))
