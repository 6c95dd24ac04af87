use Rattle.std.proofs.Common.{[], ◌∷◌, refl, ap, ◌∙◌, subst}
use Rattle.nfs_xdr.specs.{SheetState.Puts, Spelling.{number, opaque}}
use Rattle.nfs_results.proofs.AtOnce.{three_at_once}
use Rattle.nfs_results.proofs.head.put_untagged.Goals as goal

pub returns : goal.returns
unfolding number
returns c = subst (Puts c.args.out.now c.put_bytes.new.self) (c.as_flattened.ensures.value ∙ three_at_once _ (0 ∷ 0 ∷ 0 ∷ 0 ∷ []) _ _ (opaque []) _
    (c.to_be_bytes.ensures ∙ ap number c.number.ensures) refl c.to_be_bytes-2.ensures) c.put_bytes.ensures
