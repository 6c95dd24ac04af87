use Rattle.std.proofs.{Common.{◌≡◌, ◌∙◌, ◌++◌, [], ap, sym, List, map, arith}, lemmas.Grind.common_steps}
use Rattle.std.specs.List.{range_with_len}
use Rattle.nfs_pages.specs.{Page.{Leaf, page_in}, Pages.{extent_of, byte_in}}
use Rattle.nfs_pages.proofs.pages.read_near.Goals as goal

pub returns-in-None-clause-bytes : goal.returns-in-None-clause-bytes
returns-in-None-clause-bytes c =
    let none : extent_of c.args.pages.now c.args.k ≡ [] = grind (arith, common_steps) in
    c.read_all-in-None.ensures.bytes
    ∙ ap (λ (e : List Leaf). c.args.out.now.bytes ++ map (byte_in (page_in e)) (range_with_len c.args.from c.args.count)) (sym none)
