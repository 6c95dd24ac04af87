-- READLINK (RFC 8881 section 18.24): the text of a symbolic link.
use Rattle.std.specs.Prelude.{Ok}
use Rattle.nfs_xdr.specs.declared.status.Status.TheVariants.{WrongType}
use Rattle.nfs_compound.specs.declared.op_num.OpNum.TheVariants as Num
use Rattle.nfs_results.specs.declared.res.Res.TheVariants as Res
use Rattle.nfs_tree.specs.Object.{is_link}
use Rattle.nfs_tree.specs.{Files.most_text, Bytes.part}
use Rattle.nfs_names.specs.{declared.context.Context.Context, State.State, Outcome.{Outcome, done, or_refusal}, Checks.current}
use Rattle.nfs_opens.specs.Steps.{require, ◌>>=◌, ◌>>◌}

-- the text is all that the object has, and no link has more
unfoldable pub read_link : State → Context → Outcome
read_link s x = or_refusal s x Num.ReadLink (do
  d ← current s x
  require (is_link d.object.kind) WrongType
  Ok (done s x (Res.ReadLink (part s.tree d.number 0 most_text))))
