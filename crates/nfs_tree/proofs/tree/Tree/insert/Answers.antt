use Rattle.std.proofs.{Common.{◌≡◌, ◌+◌, ◌<◌, ap, sym, arith, subst}, lemmas.Grind.common_steps}
use Rattle.nfs_tree.specs.{Files.{Files, root}, Calls.{CanChange, new_of}, Create.with_new, TreeInvariants.IsTree}
use Rattle.nfs_tree.proofs.{Objects.{can_change_all, stored_within}, Trees.tree_of, Mapped.short_of}
use Rattle.nfs_tree.proofs.Put.{create_granted, directory_there, new_unnamed, tree_created}
use Rattle.nfs_tree.proofs.tree.Tree.insert.Goals as goal

pub put_both-requires : goal.put_both-requires
put_both-requires c =
    let t = c.args.self.now in
    let d = c.args.making.now.directory in
    let is : IsTree t = subst IsTree c.self.view_is c.self.invariant in
    let items : c.self.inside.objects ≡ t.objects = ap (λ (t : Files). t.objects) c.self.view_is in
    let last : c.self.inside.last_object ≡ t.last_object = ap (λ (t : Files). t.last_object) c.self.view_is in
    let can = create_granted t d c.args.making.now.name.now (new_of c.args.making.now.what.now) c.requires.granted in
    let rows : c.self.inside.rows ≡ t.rows = ap (λ (t : Files). t.rows) c.self.view_is in
    let cookies : c.self.inside.last_cookie ≡ t.last_cookie = ap (λ (t : Files). t.last_cookie) c.self.view_is in
    let within = stored_within root (t.last_object + 1) t.objects d is.objects (directory_there t d can.directory) in
    let below : d < t.last_object + 1 = within.1 in
    record {
      rising = rw (items, last) is.objects;
      change = subst (λ xs. CanChange xs d) (sym items) (can_change_all t.objects root (t.last_object + 1) d is.objects can.change);
      apart = λ e. absurd (omega arith);
      vacant = rw rows can.vacant;
      short = short_of c.args.making.now.name.now can.short;
      last = rw (rows, cookies) is.cookies;
      named = rw (rows, last) (sym (new_unnamed t is));
    }

pub invariant_of-self-2 : goal.invariant_of-self-2
invariant_of-self-2 c =
    let t = c.args.self.now in
    let new = new_of c.args.making.now.what.now in
    let is : IsTree t = subst IsTree c.self.view_is c.self.invariant in
    tree_of (with_new t c.args.making.now.directory c.args.making.now.name.now new c.args.making.now.sets.now c.args.making.now.time)
    (tree_created t c.args.making.now.directory c.args.making.now.name.now new c.args.making.now.sets.now c.args.making.now.time is c.requires.granted c.requires.reached) _ _ _ _ _ _ _
    (grind (arith, common_steps)) (grind (arith, common_steps)) (grind (arith, common_steps)) (grind (arith, common_steps)) (grind (arith, common_steps)) (grind (arith, common_steps))
