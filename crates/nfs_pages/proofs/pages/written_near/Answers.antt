use Rattle.std.proofs.{Common.{◌≡◌, [], ap, ◌∙◌, List, arith}, lemmas.Grind.common_steps}
use Rattle.nfs_pages.specs.{Page.{Leaf, is_in, count_below}, Pages.extent_of}
use Rattle.nfs_pages.proofs.CountLemmas.{count_in_none}
use Rattle.nfs_pages.proofs.pages.written_near.Goals as goal

pub returns-in-None : goal.returns-in-None
returns-in-None c =
    let none : extent_of c.args.pages.now c.args.k ≡ [] = grind (arith, common_steps) in
    let few = ap (λ (e : List Leaf). count_below (is_in e) c.args.first) none ∙ count_in_none c.args.first in
    let many = ap (λ (e : List Leaf). count_below (is_in e) 64) none ∙ count_in_none 64 in
    omega (arith, few, many)
