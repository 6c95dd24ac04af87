-- The file that an operation is for, and the stateid that it leaves (RFC 8881 sections 16.2.3.1 and 18.2).
use Rattle.std.specs.Prelude.{Result, Ok}
use Rattle.nfs_xdr.specs.declared.status.Status.{Status}
use Rattle.nfs_compound.specs.declared.stateid.Stateid.{Stateid}
use Rattle.nfs_opens.specs.Steps.{in_order, ◌>>=◌, ◌>>◌}
use Rattle.nfs_names.specs.{declared.context.Context.Context, declared.node.Node.Node, State.State, Checks.current}
use Rattle.nfs_files.specs.Bytes.{file_checks}

-- the current filehandle's object, which must be a file
unfoldable pub the_file : State → Context → Result Node Status
the_file s x = do
  d ← current s x
  in_order (file_checks d)
  Ok d

-- the current stateid is the result's from now on
abbrev pub with_stateid : Context → Stateid → Context
with_stateid x id = record x { stateid = id }
