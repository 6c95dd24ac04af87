-- RESTOREFH (RFC 8881 section 18.27): the saved filehandle becomes the current one, with its stateid. The current one is not looked at.
use Rattle.std.specs.Prelude.{Some, Ok, is_some, ok_or}
use Rattle.nfs_xdr.specs.declared.status.Status.TheVariants.{NoFileHandle, Stale}
use Rattle.nfs_compound.specs.declared.op_num.OpNum.TheVariants as Num
use Rattle.nfs_results.specs.declared.res.Res.TheVariants as Res
use Rattle.nfs_tree.specs.Files.{object_at}
use Rattle.nfs_names.specs.{declared.context.Context.Context, State.State, Outcome.{Outcome, done, or_refusal}}
use Rattle.nfs_opens.specs.Steps.{require, ◌>>=◌, ◌>>◌}

unfoldable pub restore_fh : State → Context → Outcome
restore_fh s x = or_refusal s x Num.RestoreFh (do
  saved ← ok_or x.saved NoFileHandle
  require (is_some (object_at s.tree saved.object)) Stale
  Ok (done s (record x { current = Some saved.object; stateid = saved.stateid }) Res.RestoreFh))
