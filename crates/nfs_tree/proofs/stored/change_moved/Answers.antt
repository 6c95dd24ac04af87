use Rattle.std.proofs.Common.{◌≢◌, sym, subst, ◌∙◌, ap}
use Rattle.nfs_tree.specs.{Calls.CanChange, Files.with_changed}
use Rattle.nfs_tree.proofs.Objects.{can_change_after}
use Rattle.nfs_tree.proofs.stored.change_moved.Goals as goal

pub change_in-requires-2 : goal.change_in-requires-2
change_in-requires-2 c = subst (λ xs. CanChange xs c.args.replaced)
    (sym (c.change_in.ensures ∙ ap (λ k. with_changed c.args.touched c.args.now k c.args.objects.now) c.none.ensures)) c.requires.replaced

pub change_in-requires-3 : goal.change_in-requires-3
change_in-requires-3 c =
    subst (λ xs. CanChange xs c.args.source) (sym c.change_in-2.ensures)
    (can_change_after c.change_in.new.self c.args.replaced c.args.source c.args.now c.none-2.result (λ e. c.requires.apart_source (sym e))
    (subst (λ xs. CanChange xs c.args.source) (sym c.change_in.ensures)
    (can_change_after c.args.objects.now c.args.touched c.args.source c.args.now c.none.result (λ e. c.requires.touched_source (sym e)) c.requires.source)))

pub change_in-requires-then-source-target : goal.change_in-requires-then-source-target
change_in-requires-then-source-target c =
    let apart : c.args.target ≢ c.args.source = λ e. c.if-source-target.true (sym e) in
    subst (λ xs. CanChange xs c.args.target) (sym c.change_in-3.ensures)
    (can_change_after c.change_in-2.new.self c.args.source c.args.target c.args.now c.modified.result apart
    (subst (λ xs. CanChange xs c.args.target) (sym c.change_in-2.ensures)
    (can_change_after c.change_in.new.self c.args.replaced c.args.target c.args.now c.none-2.result (λ e. c.requires.apart_target (sym e))
    (subst (λ xs. CanChange xs c.args.target) (sym c.change_in.ensures)
    (can_change_after c.args.objects.now c.args.touched c.args.target c.args.now c.none.result (λ e. c.requires.touched_target (sym e)) c.requires.target)))))
