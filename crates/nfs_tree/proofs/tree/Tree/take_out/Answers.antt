use Rattle.std.proofs.{Common.{◌≡◌, ◌≢◌, ◌+◌, ap, sym, arith, subst}, lemmas.Grind.common_steps}
use Rattle.nfs_tree.specs.{Files.{Files, root, number_named}, Calls.CanChange, Names.without_name, TreeInvariants.IsTree}
use Rattle.nfs_tree.proofs.{Objects.can_change_all, Trees.{remove_granted, has_one, apart, tree_removed, tree_of}}
use Rattle.nfs_tree.proofs.tree.Tree.take_out.Goals as goal

pub change_entry-requires : goal.change_entry-requires
change_entry-requires c =
    let t = c.args.self.now in
    let d = c.args.directory in
    let n = number_named t d c.args.name.now in
    let is : IsTree t = subst IsTree c.self.view_is c.self.invariant in
    let items : c.self.inside.objects ≡ t.objects = ap (λ (t : Files). t.objects) c.self.view_is in
    let granted = remove_granted t d c.args.name.now c.requires.granted in
    record {
      apart = subst (λ k. k ≢ d) (sym c.requires.object) (apart t d n (has_one t d c.args.name.now granted.0) granted.1);
      directory = subst (λ xs. CanChange xs d) (sym items) (can_change_all t.objects root (t.last_object + 1) d is.objects granted.2);
      number = subst (λ k. CanChange c.self.inside.objects k) (sym c.requires.object)
          (subst (λ xs. CanChange xs n) (sym items) (can_change_all t.objects root (t.last_object + 1) n is.objects granted.3));
    }

pub drop_entry-requires : goal.drop_entry-requires
drop_entry-requires c =
    let rows : c.self.inside.rows ≡ c.args.self.now.rows = ap (λ (t : Files). t.rows) c.self.view_is in
    rw rows c.requires.found

pub invariant_of-self : goal.invariant_of-self
invariant_of-self c =
    let t = c.args.self.now in
    let is : IsTree t = subst IsTree c.self.view_is c.self.invariant in
    tree_of (without_name t c.args.directory c.args.name.now c.args.now)
    (tree_removed t c.args.directory c.args.name.now c.args.now is c.requires.granted) _ _ _ _ _ _ _
    (grind (arith, common_steps)) (grind (arith, common_steps)) (grind (arith, common_steps)) (grind (arith, common_steps)) (grind (arith, common_steps)) (grind (arith, common_steps))
