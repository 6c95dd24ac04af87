use Rattle.std.proofs.{Common.{arith, subst}, lemmas.Grind.common_steps}
use Rattle.nfs_tree.specs.{Names.forget, TreeInvariants.IsTree}
use Rattle.nfs_tree.proofs.Trees.{tree_forgets, tree_of}
use Rattle.nfs_tree.proofs.tree.Tree.forget.Goals as goal

pub invariant_of-self : goal.invariant_of-self
invariant_of-self c =
    let t = c.args.self.now in
    let is : IsTree t = subst IsTree c.self.view_is c.self.invariant in
    tree_of (forget t c.args.number) (tree_forgets t c.args.number is c.requires.unnamed c.requires.empty c.requires.other) _ _ _ _ _ _ _
    (grind (arith, common_steps)) (grind (arith, common_steps)) (grind (arith, common_steps)) (grind (arith, common_steps)) (grind (arith, common_steps)) (grind (arith, common_steps))
