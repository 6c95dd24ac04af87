-- WRITE (RFC 8881 section 18.32): bytes are written over those of a file. A gap behind its old end is zeros.
use Rattle.std.specs.Prelude.{◌&&◌, Bool, not, List, [], ◌∷◌, length, Ok, if◌then◌else◌}
use Rattle.nfs_xdr.specs.{declared.time.Time.Time, declared.status.Status.Status, declared.status.Status.TheVariants.{FBig, ServerFault}}
use Rattle.nfs_compound.specs.declared.op_num.OpNum.TheVariants as Num
use Rattle.nfs_compound.specs.{declared.file_args.StableHow.TheVariants.FileSync, declared.file_args.Write.Write}
use Rattle.nfs_results.specs.declared.res.WriteOk.{WriteOk}
use Rattle.nfs_results.specs.declared.res.Res.TheVariants as Res
use Rattle.nfs_tree.specs.declared.fault.TreeFault.TheVariants as F
use Rattle.nfs_tree.specs.declared.fault.TreeFault.{TreeFault}
use Rattle.nfs_tree.specs.{Files.{Files, can_change}, Bytes.{has_bytes, is_too_long, with_written}}
use Rattle.nfs_opens.specs.Steps.{in_order, ◌>>=◌, ◌>>◌}
use Rattle.nfs_names.specs.{declared.context.Context.Context, declared.node.Node.Node, State.{State, with_tree}, Outcome.{Outcome, or_refusal}}
use Rattle.nfs_names.specs.Faults.{tree_fault_status}
use Rattle.nfs_files.specs.{Bytes.{writing, may_use, behind_sets}, Commit.write_verifier, Target.the_file}

-- no bytes change nothing, at whatever offset
abbrev pub last_checks : State → Write → Node → List (Bool × Status)
last_checks s w d =
    (has_bytes w.bytes && is_too_long s.tree w.offset w.bytes, FBig)
    ∷ (has_bytes w.bytes && not (can_change s.tree d.number), ServerFault)
    ∷ []

-- the status of what the tree refuses of a WRITE, where that of lack of memory is given
abbrev pub refused_as : Status → TreeFault → Status
refused_as lack F.Memory = lack
refused_as lack f = tree_fault_status f

-- all bytes are written at once, as lastingly as any are (FILE_SYNC4)
abbrev pub write_ok : State → Write → WriteOk
write_ok s w = record { count = length w.bytes; committed = FileSync; writeverf = write_verifier s }

abbrev pub with_bytes : Files → Context → Write → Node → Time → Files
with_bytes t x w d now = if has_bytes w.bytes then with_written t d.number w.offset w.bytes (behind_sets t x d) now else t

unfoldable pub write : State → Context → Time → Write → Outcome
write s x now w = or_refusal s x Num.Write (do
  d ← the_file s x
  may_use s x writing w.stateid d
  in_order (last_checks s w d)
  Ok (record { result = Res.Write (write_ok s w); state = with_tree s (with_bytes s.tree x w d now); context = x }))
