use Rattle.std.proofs.Common.{◌∙◌, subst}
use Rattle.nfs_xdr.specs.{SheetState.Puts, Spelling.number}
use Rattle.nfs_results.proofs.AtOnce.{five_at_once}
use Rattle.nfs_results.proofs.item_writing.put_slot.Goals as goal

pub returns : goal.returns
unfolding number
returns c = subst (Puts c.args.out.now c.put_bytes.new.self) (c.as_flattened.ensures.value ∙ five_at_once _ _ _ _ _ _ _ _ _ _
    c.to_be_bytes.ensures c.to_be_bytes-2.ensures c.to_be_bytes-3.ensures c.to_be_bytes-4.ensures c.to_be_bytes-5.ensures) c.put_bytes.ensures
