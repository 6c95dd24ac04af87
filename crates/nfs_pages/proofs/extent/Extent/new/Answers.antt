use Rattle.std.proofs.Common.{List, length, sym, ◌∙◌, ap, arith}
use Rattle.nfs_pages.specs.Page.{Leaf, is_in, count_below}
use Rattle.nfs_pages.proofs.CountLemmas.{count_in_none}
use Rattle.nfs_pages.proofs.extent.Extent.new.Goals as goal

pub invariant_of-result : goal.invariant_of-result
invariant_of-result c = (
  let none = ap length c.new.ensures.items in omega (arith, none),
  sym (ap (λ (e : List Leaf). count_below (is_in e) 64) c.new.ensures.items ∙ count_in_none 64),
)
