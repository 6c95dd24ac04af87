use Rattle.std.proofs.{Common.{sym, ◌∙◌, ap}, lemmas.Result.err_from_is_err_and}
use Rattle.std.specs.Prelude.{Err}
use Rattle.nfs_tree.specs.Names.{move}
use Rattle.nfs_tree.proofs.Renaming.{rename_refused, rename_goes}
use Rattle.nfs_tree.proofs.tree.Tree.rename.Goals as goal

pub returns-in_err-ends : goal.returns-in_err-ends
returns-in_err-ends c =
    let p = err_from_is_err_and c.from_residual.result c.from_residual.ensures.1 in
    rename_refused c.args.self.now (move c.args.source c.args.old.now c.args.target c.args.name.now) c.args.now _ _
    c.in_err-ends.ensures.err (p.1 ∙ ap Err p.2)

pub returns : goal.returns
returns c =
    rename_goes c.args.self.now c.carry.new.self (move c.args.source c.args.old.now c.args.target c.args.name.now) c.args.now c.carry.result
    c.in_ok-ends.ensures.ok (sym c.moves.ensures ∙ c.if-not-moves.false) c.carry.ensures
