-- READ: the bytes that are given, and whether they end where the file does.
use Rattle.std.proofs.{Common.{◌≡◌, ◌+◌, ◌≤◌, ◌++◌, length, drop, Some, arith}, lemmas.List.length-take}
use Rattle.std.specs.Prelude.{Ok}
use Rattle.nfs_xdr.specs.Spelling.{flag, opaque, padding}
use Rattle.nfs_compound.specs.declared.file_args.Read.{Read}
use Rattle.nfs_results.specs.{Items.read_ok, Largest.given}
use Rattle.nfs_results.specs.declared.res.Res.TheVariants as Res
use Rattle.nfs_results.proofs.Lengths.{behind_within}
use Rattle.nfs_tree.specs.Files.{object_at, data_at}
use Rattle.nfs_names.specs.{declared.context.Context.Context, declared.node.Node.Node, State.State, Outcome.checked, Checks.current}
use Rattle.nfs_names.proofs.Found.{current_is, checked_ok}
use Rattle.nfs_files.specs.{Bytes.{file_checks, reading, may_use}, Read.{was_read}, Parts.readable}
use Rattle.nfs_files.proofs.Passing.{if_passed_ok}
use Rattle.nfs_files.proofs.Terms.{bytes_of}

-- no more bytes are given than were asked for
pub few_given : (s : State) (r : Read) (d : Node) → length (bytes_of s r d) ≤ given r.count
few_given s r d = omega (arith, length-take (given r.count) (drop r.offset (data_at s.tree d.number)))

pub read_within : (s : State) (r : Read) (d : Node)
    → 8 + length (flag (was_read s r d).eof ++ opaque (bytes_of s r d)) ≤ 16 + (given r.count + padding (given r.count))
unfolding read_ok
read_within s r d = behind_within r.count (Res.Read (was_read s r d)) tt (few_given s r d)

pub readable_is : (s : State) (x : Context) (r : Read) (d : Node) → readable s x r.stateid (current s x) ≡ Ok d → object_at s.tree d.number ≡ Some d.object
unfolding readable
readable_is s x r d e =
    let found = checked_ok (current s x) file_checks d (if_passed_ok (checked (current s x) file_checks) (may_use s x reading r.stateid) d e).0 in
    (current_is s x d found.0).object
