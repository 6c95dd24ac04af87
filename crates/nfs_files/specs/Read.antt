-- READ (RFC 8881 section 18.22): bytes of a file, and whether they end where it does.
use Rattle.std.specs.Prelude.{Ok}
use Rattle.nfs_compound.specs.declared.op_num.OpNum.TheVariants as Num
use Rattle.nfs_compound.specs.declared.file_args.Read.{Read}
use Rattle.nfs_results.specs.{Largest.given, declared.res.ReadOk.ReadOk}
use Rattle.nfs_results.specs.declared.res.Res.TheVariants as Res
use Rattle.nfs_tree.specs.Bytes.{part, reaches_end}
use Rattle.nfs_opens.specs.Steps.{◌>>=◌, ◌>>◌}
use Rattle.nfs_names.specs.{declared.context.Context.Context, declared.node.Node.Node, State.State, Outcome.{Outcome, done, or_refusal}}
use Rattle.nfs_files.specs.{Bytes.{reading, may_use}, Target.the_file}

-- the file's bytes in the range, of which not too many are given at once
abbrev pub was_read : State → Read → Node → ReadOk
was_read s r d = record {
  eof = reaches_end s.tree d.number r.offset (given r.count);
  bytes = part s.tree d.number r.offset (given r.count);
}

unfoldable pub read : State → Context → Read → Outcome
read s x r = or_refusal s x Num.Read (do
  d ← the_file s x
  may_use s x reading r.stateid d
  Ok (done s x (Res.Read (was_read s r d))))
