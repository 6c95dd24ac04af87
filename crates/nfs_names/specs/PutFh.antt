-- PUTFH (RFC 8881 section 18.19): a filehandle that this start of the server gave, and whose object is there, becomes the current one.
use Rattle.std.specs.Prelude.{ℕ, ◌==◌, not, List, [], ◌∷◌, Ok, ok_or, is_some}
use Rattle.nfs_xdr.specs.declared.status.Status.TheVariants.{BadHandle, Stale}
use Rattle.nfs_compound.specs.declared.op_num.OpNum.TheVariants as Num
use Rattle.nfs_results.specs.declared.res.Res.TheVariants as Res
use Rattle.nfs_tree.specs.Files.{object_at}
use Rattle.nfs_attrs.specs.Handle.{handle_of}
use Rattle.nfs_names.specs.{declared.context.Context.Context, State.State, Context.at_object, Outcome.{Outcome, done, or_refusal}}
use Rattle.nfs_opens.specs.Steps.{in_order, ◌>>=◌, ◌>>◌}

unfoldable pub put_fh : State → Context → List ℕ → Outcome
put_fh s x object = or_refusal s x Num.PutFh (do
  h ← ok_or (handle_of object) BadHandle
  in_order ((not (h.instance == s.opens.instance), Stale) ∷ (not (is_some (object_at s.tree h.number)), Stale) ∷ [])
  Ok (done s (at_object x h.number) Res.PutFh))
