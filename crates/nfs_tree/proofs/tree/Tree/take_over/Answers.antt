use Rattle.std.proofs.{Common.{◌≡◌, ◌<◌, ◌+◌, List, ap, sym, arith, subst}, lemmas.Grind.common_steps}
use Rattle.std.specs.Prelude.{All}
use Rattle.nfs_tree.specs.{declared.stored.Stored.Stored, Files.{Files, root, last_count, with_changed}, TreeInvariants.IsTree}
use Rattle.nfs_tree.proofs.{Objects.can_change_all, Trees.{set_granted, tree_changed, tree_of}}
use Rattle.nfs_tree.proofs.tree.Tree.take_over.Goals as goal

pub change_in-requires : goal.change_in-requires
change_in-requires c =
    let t = c.args.self.now in
    let is : IsTree t = subst IsTree c.self.view_is c.self.invariant in
    let items : c.self.inside.objects ≡ t.objects = ap (λ (t : Files). t.objects) c.self.view_is in
    let P : List Stored → Type 0 = λ xs. All (λ (s : Stored). s.number ≡ c.args.number → s.object.change < last_count) xs in
    subst P (sym items) (can_change_all t.objects root (t.last_object + 1) c.args.number is.objects (set_granted t c.args.number c.requires))

pub invariant_of-self : goal.invariant_of-self
invariant_of-self c =
    let t = c.args.self.now in
    let is : IsTree t = subst IsTree c.self.view_is c.self.invariant in
    tree_of (record t { objects = with_changed c.args.number c.args.now c.args.sets.now t.objects })
    (tree_changed t c.args.number c.args.now c.args.sets.now is) _ _ _ _ _ _ _
    (grind (arith, common_steps)) (grind (arith, common_steps)) (grind (arith, common_steps)) (grind (arith, common_steps)) (grind (arith, common_steps)) (grind (arith, common_steps))
