use Rattle.std.proofs.{Common.{◌≡◌, ◌∙◌, ◌++◌, [], ap, ℕ, List, arith}, lemmas.Grind.common_steps}
use Rattle.nfs_pages.specs.Page.{page_in}
use Rattle.nfs_pages.proofs.PageLemmas.{page_past}
use Rattle.nfs_pages.proofs.extent.read_page.Goals as goal

pub returns-in-None-clause-bytes : goal.returns-in-None-clause-bytes
returns-in-None-clause-bytes c =
    let none : page_in c.args.pages.now c.args.j ≡ [] = grind (arith, common_steps) in
    c.put_zeros.ensures.bytes ∙ ap (λ (ys : List ℕ). c.args.out.now.bytes ++ ys) (page_past (page_in c.args.pages.now c.args.j) c.args.from c.args.count none)
