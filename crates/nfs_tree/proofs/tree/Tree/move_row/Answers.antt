use Rattle.std.proofs.{Common.{◌≡◌, ◌≢◌, ◌+◌, ◌<◌, ℕ, Option, ◌∙◌, ap, sym, arith, subst}, lemmas.Grind.common_steps}
use Rattle.std.specs.Prelude.{unwrap_or, if◌then◌else◌}
use Rattle.nfs_tree.specs.{Files.{Files, root, last_count}, Calls.{CanChange, move_of}, Names.{replaced_object, touched_object, with_moved}, Profile.is_unix, TreeInvariants.IsTree}
use Rattle.nfs_tree.proofs.{Objects.can_change_all, Trees.tree_of, Mapped.short_of}
use Rattle.nfs_tree.proofs.Moved.{moved_apart, move_granted, replaced_source, replaced_target, replaced_left, touched_source, touched_target, touched_can, tree_moved}
use Rattle.nfs_tree.proofs.tree.Tree.move_row.Goals as goal

pub overflow_add-cookie : goal.overflow_add-cookie
overflow_add-cookie c =
    let t = c.args.self.now in
    let small : t.last_cookie < last_count = (move_granted t (move_of c.args.m.now) c.requires.granted c.requires.moves).cookie in
    let same = ap (λ (t : Files). t.last_cookie) c.self.view_is in
    omega arith

pub replace_row-requires : goal.replace_row-requires
replace_row-requires c =
    let t = c.args.self.now in
    let m = move_of c.args.m.now in
    let is : IsTree t = subst IsTree c.self.view_is c.self.invariant in
    let rows : c.self.inside.rows ≡ t.rows = ap (λ (t : Files). t.rows) c.self.view_is in
    let last : c.self.inside.last_cookie ≡ t.last_cookie = ap (λ (t : Files). t.last_cookie) c.self.view_is in
    record {
      short = short_of m.name (move_granted t m c.requires.granted c.requires.moves).short;
      last = rw (rows, last) is.cookies;
      moved = rw rows c.requires.ends.moved;
      replaced = rw rows c.requires.ends.replaced;
      apart = moved_apart t m c.args.ends.now.moved.object (c.self.inside.last_cookie + 1) c.requires.moves;
    }

pub change_moved-requires : goal.change_moved-requires
change_moved-requires c =
    let t = c.args.self.now in
    let m = move_of c.args.m.now in
    let is : IsTree t = subst IsTree c.self.view_is c.self.invariant in
    let items : c.self.inside.objects ≡ t.objects = ap (λ (t : Files). t.objects) c.self.view_is in
    let can = move_granted t m c.requires.granted c.requires.moves in
    let x : c.unwrap_or-replaced.result ≡ replaced_object t m = c.unwrap_or-replaced.ensures
    ∙ ap (λ (o : Option ℕ). unwrap_or o 0) (c.object_of.ensures ∙ c.requires.ends.over) in
    let k : c.touched-touched.result ≡ touched_object t m = c.touched-touched.ensures ∙ ap (λ (n : ℕ). if is_unix t.profile then n else 0) c.requires.ends.object in
    record {
      apart_source = subst (λ n. n ≢ m.source) (sym x) (replaced_source t m is can);
      apart_target = subst (λ n. n ≢ m.target) (sym x) (replaced_target t m is can);
      source = subst (λ xs. CanChange xs m.source) (sym items) (can_change_all t.objects root (t.last_object + 1) m.source is.objects can.change_source);
      target = subst (λ xs. CanChange xs m.target) (sym items) (can_change_all t.objects root (t.last_object + 1) m.target is.objects can.change_target);
      touched_source = subst (λ n. n ≢ m.source) (sym k) (touched_source t m is can);
      touched_target = subst (λ n. n ≢ m.target) (sym k) (touched_target t m is can);
      touched = subst (λ n. CanChange c.self.inside.objects n) (sym k)
          (subst (λ xs. CanChange xs (touched_object t m)) (sym items) (touched_can t m is can));
      replaced = rw (items, k, x) (replaced_left t m c.args.now is can);
    }

pub invariant_of-self-2 : goal.invariant_of-self-2
invariant_of-self-2 c =
    let t = c.args.self.now in
    let m = move_of c.args.m.now in
    let is : IsTree t = subst IsTree c.self.view_is c.self.invariant in
    tree_of (with_moved t m c.args.now) (tree_moved t m c.args.now is c.requires.granted c.requires.moves c.requires.reached) _ _ _ _ _ _ _
    (grind (arith, common_steps)) (grind (arith, common_steps)) (grind (arith, common_steps)) (grind (arith, common_steps)) (grind (arith, common_steps)) (grind (arith, common_steps))
