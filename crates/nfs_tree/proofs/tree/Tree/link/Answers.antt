use Rattle.std.proofs.{Common.{true, refl, sym, ◌∙◌, ap}, lemmas.Result.err_from_is_err_and}
use Rattle.std.specs.Prelude.{Err}
use Rattle.nfs_tree.specs.{Files.raised, Names.{link_checks, with_link}}
use Rattle.nfs_tree.proofs.Refusals.{refused, judged_err}
use Rattle.nfs_tree.proofs.tree.Tree.link.Goals as goal

pub returns-in_err-judge_link : goal.returns-in_err-judge_link
returns-in_err-judge_link c =
    let t = c.args.self.now in
    let p = err_from_is_err_and c.from_residual.result c.from_residual.ensures.1 in
    refused t true (link_checks t c.args.number c.args.directory c.args.name.now)
    (raised t c.args.directory) (with_link t c.args.number c.args.directory c.args.name.now c.args.now) _ _
    (refl, (refl, (refl, (refl, (refl, (refl, (refl, (refl, tt)))))))) (judged_err _ _ (sym c.judge_link.ensures ∙ c.in_err-judge_link.was)) (p.1 ∙ ap Err p.2)
