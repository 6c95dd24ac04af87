-- PUTROOTFH (RFC 8881 section 18.21): the root becomes the current filehandle's object.
use Rattle.nfs_results.specs.declared.res.Res.TheVariants as Res
use Rattle.nfs_tree.specs.Files.{root}
use Rattle.nfs_names.specs.{declared.context.Context.Context, State.State, Context.at_object, Outcome.{Outcome, done}}

unfoldable pub put_root_fh : State → Context → Outcome
put_root_fh s x = done s (at_object x root) Res.PutRootFh
