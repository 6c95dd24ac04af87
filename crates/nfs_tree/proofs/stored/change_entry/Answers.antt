use Rattle.std.proofs.Common.{sym, subst}
use Rattle.nfs_tree.specs.Calls.{CanChange}
use Rattle.nfs_tree.proofs.Objects.{can_change_after}
use Rattle.nfs_tree.proofs.stored.change_entry.Goals as goal

pub change_in-requires-2 : goal.change_in-requires-2
change_in-requires-2 c =
    subst (λ xs. CanChange xs c.args.number) (sym c.change_in.ensures)
    (can_change_after c.args.objects.now c.args.directory c.args.number c.args.now c.modified.result c.requires.apart c.requires.number)
