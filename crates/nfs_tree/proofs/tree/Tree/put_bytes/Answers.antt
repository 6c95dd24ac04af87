use Rattle.std.proofs.{Common.{◌≡◌, ◌+◌, ap, sym, arith, subst}, lemmas.Grind.common_steps}
use Rattle.nfs_tree.specs.{Files.{Files, root}, Calls.CanChange, Bytes.with_written}
use Rattle.nfs_tree.specs.TreeInvariants.{IsTree}
use Rattle.nfs_tree.proofs.{Objects.can_change_all, Trees.tree_of, Sized.{most_fits, write_granted, tree_written}}
use Rattle.nfs_tree.proofs.tree.Tree.put_bytes.Goals as goal

pub write_in-requires-clause-change : goal.write_in-requires-clause-change
write_in-requires-clause-change c =
    let t = c.args.self.now in
    let is : IsTree t = subst IsTree c.self.view_is c.self.invariant in
    let items : c.self.inside.objects ≡ t.objects = ap (λ (t : Files). t.objects) c.self.view_is in
    subst (λ xs. CanChange xs c.args.number) (sym items) (can_change_all t.objects root (t.last_object + 1) c.args.number is.objects
    (write_granted t c.args.number c.args.offset c.args.text.now c.requires.granted c.requires.some).2)

pub write_in-requires-clause-room : goal.write_in-requires-clause-room
write_in-requires-clause-room c =
    let t = c.args.self.now in
    let is : IsTree t = subst IsTree c.self.view_is c.self.invariant in
    let can = write_granted t c.args.number c.args.offset c.args.text.now c.requires.granted c.requires.some in
    let most = most_fits t is in
    let few = can.1 in
    omega arith

pub invariant_of-self-2 : goal.invariant_of-self-2
invariant_of-self-2 c =
    let t = c.args.self.now in
    let is : IsTree t = subst IsTree c.self.view_is c.self.invariant in
    tree_of (with_written t c.args.number c.args.offset c.args.text.now c.args.sets.now c.args.now)
    (tree_written t c.args.number c.args.offset c.args.text.now c.args.sets.now c.args.now is c.requires.granted c.requires.some) _ _ _ _ _ _ _
    (grind (arith, common_steps)) (grind (arith, common_steps)) (grind (arith, common_steps)) (grind (arith, common_steps)) (grind (arith, common_steps)) (grind (arith, common_steps))
