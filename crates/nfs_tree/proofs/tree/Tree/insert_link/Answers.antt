use Rattle.std.proofs.{Common.{◌≡◌, ◌+◌, ◌∙◌, ap, sym, arith, subst}, lemmas.Bool.{false≢true}, lemmas.Grind.common_steps}
use Rattle.nfs_tree.specs.{Files.{Files, root, is_directory_at}, Calls.CanChange, Names.with_link, TreeInvariants.IsTree}
use Rattle.nfs_tree.proofs.{Objects.can_change_all, Trees.tree_of, Mapped.short_of, Put.{link_granted, tree_linked}}
use Rattle.nfs_tree.proofs.tree.Tree.insert_link.Goals as goal

pub put_new-requires : goal.put_new-requires
put_new-requires c =
    let t = c.args.self.now in
    let is : IsTree t = subst IsTree c.self.view_is c.self.invariant in
    let rows : c.self.inside.rows ≡ t.rows = ap (λ (t : Files). t.rows) c.self.view_is in
    let last : c.self.inside.last_cookie ≡ t.last_cookie = ap (λ (t : Files). t.last_cookie) c.self.view_is in
    let can = link_granted t c.args.number c.args.directory c.args.name.now c.requires.granted in
    record {
      vacant = rw rows can.vacant;
      short = short_of c.args.name.now can.short;
      last = rw (rows, last) is.cookies;
      named = rw rows (sym can.named);
    }

pub change_entry-requires : goal.change_entry-requires
change_entry-requires c =
    let t = c.args.self.now in
    let d = c.args.directory in
    let n = c.args.number in
    let is : IsTree t = subst IsTree c.self.view_is c.self.invariant in
    let items : c.self.inside.objects ≡ t.objects = ap (λ (t : Files). t.objects) c.self.view_is in
    let can = link_granted t n d c.args.name.now c.requires.granted in
    record {
      apart = λ e. false≢true (sym can.other ∙ ap (is_directory_at t) e ∙ can.directory);
      directory = subst (λ xs. CanChange xs d) (sym items) (can_change_all t.objects root (t.last_object + 1) d is.objects can.change);
      number = subst (λ xs. CanChange xs n) (sym items) (can_change_all t.objects root (t.last_object + 1) n is.objects can.change_object);
    }

pub invariant_of-self-2 : goal.invariant_of-self-2
invariant_of-self-2 c =
    let t = c.args.self.now in
    let is : IsTree t = subst IsTree c.self.view_is c.self.invariant in
    tree_of (with_link t c.args.number c.args.directory c.args.name.now c.args.now)
    (tree_linked t c.args.number c.args.directory c.args.name.now c.args.now is c.requires.granted c.requires.reached) _ _ _ _ _ _ _
    (grind (arith, common_steps)) (grind (arith, common_steps)) (grind (arith, common_steps)) (grind (arith, common_steps)) (grind (arith, common_steps)) (grind (arith, common_steps))
